-- What was read of a line: the command again from the answer and the two buffers.
-- Assumes nothing.
use Rattle.std.specs.Prelude.{◌≡◌, refl, List, [], ◌++◌, ℕ, ◌*◌, ◌-◌, ◌%◌, ◌≤◌, length, take, drop, Option, Some, None}
use Rattle.std.proofs.Common.{sym, ap, ◌∙◌, arith, length-append, take_at}
use Rattle.list_laws.specs.Over.{over, over_none}
use Rattle.paper.specs.Lists.{hashes_of}
use Rattle.paper.specs.Text.{flat}
use Rattle.paper.specs.Command.{Command, heads, clock, missing, owner, add, bad}
use Rattle.answer_buffer.specs.AnswerLaws.{over_front}
use Rattle.answer_buffer.specs.Entering.{Wide, flat_long}
use Rattle.command.specs.Answers.{line_of, list_after, Answered}
use Rattle.command.specs.declared.Line.{Line}
use Rattle.command.specs.declared.Line.TheVariants as line
use Rattle.session_line.specs.ListLaws.{whole_back}

-- the hash and the list of a command
unfoldable pub hash_in_command : Command → List ℕ
hash_in_command heads = []
hash_in_command (clock hs) = []
hash_in_command (missing hs) = []
hash_in_command (owner a c) = []
hash_in_command (add h a s m k ds) = h
hash_in_command bad = []

unfoldable pub list_in : Command → List (List ℕ)
list_in heads = []
list_in (clock hs) = hs
list_in (missing hs) = hs
list_in (owner a c) = []
list_in (add h a s m k ds) = ds
list_in bad = []

-- how many hashes the list has
unfoldable pub many_in : Option Line → ℕ
many_in (Some line.Heads) = 0
many_in (Some (line.Clock n)) = n
many_in (Some (line.Missing n)) = n
many_in (Some (line.Owner a c)) = 0
many_in (Some (line.Add a s m k n)) = n
many_in None = 0

-- the command of an answer, a hash and a list
unfoldable pub again : Option Line → List ℕ → List (List ℕ) → Command
again (Some line.Heads) h l = heads
again (Some (line.Clock n)) h l = clock l
again (Some (line.Missing n)) h l = missing l
again (Some (line.Owner a c)) h l = owner a c
again (Some (line.Add a s m k n)) h l = add h a s m k l
again None h l = bad

again_is : (x : Command) → again (line_of x) (hash_in_command x) (list_in x) ≡ x
unfolding again line_of hash_in_command list_in
again_is heads = refl
again_is (clock hs) = refl
again_is (missing hs) = refl
again_is (owner a c) = refl
again_is (add h a s m k ds) = refl
again_is bad = refl

many_is : (x : Command) → length (list_in x) ≡ many_in (line_of x)
unfolding many_in line_of list_in
many_is heads = refl
many_is (clock hs) = refl
many_is (missing hs) = refl
many_is (owner a c) = refl
many_is (add h a s m k ds) = refl
many_is bad = refl

list_is : (x : Command) (list : List ℕ) → list_after x list ≡ over list 0 (flat (list_in x))
unfolding list_after list_in flat
list_is heads list = sym (over_none list 0)
list_is (clock hs) list = refl
list_is (missing hs) list = refl
list_is (owner a c) list = sym (over_none list 0)
list_is (add h a s m k ds) list = refl
list_is bad list = sym (over_none list 0)

module _ {x : Command} {r : Option Line} {hash₀ hash₁ list₀ list₁ : List ℕ} (w : Answered x r hash₀ hash₁ list₀ list₁) (l : Option Line) (e : r ≡ l) where
  pub asked : x ≡ again l (hash_in_command x) (list_in x)
  asked = sym (again_is x) ∙ ap (λ (i : Option Line). again i (hash_in_command x) (list_in x)) (sym w.answer ∙ e)

  many : length (list_in x) ≡ many_in l
  many = many_is x ∙ ap many_in (sym w.answer ∙ e)

  front : list₁ ≡ flat (list_in x) ++ drop (length (flat (list_in x))) list₀
  front = w.list ∙ list_is x list₀ ∙ over_front (flat (list_in x)) list₀

  -- the list that counts
  module _ (wide : Wide (list_in x)) (n : ℕ) (q : many_in l ≡ n) where
    long : length (flat (list_in x)) ≡ 32 * n
    long = let a = flat_long (list_in x) wide in let b = many in omega arith

    pub list_room : 32 * n ≤ length list₁
    list_room = let a = long in let b = ap length front ∙ length-append (flat (list_in x)) (drop (length (flat (list_in x))) list₀) in omega arith

    pub list_part : take (32 * n - 0) list₁ ≡ flat (list_in x)
    list_part = ap (take (32 * n - 0)) front ∙ take_at (flat (list_in x)) (drop (length (flat (list_in x))) list₀) (32 * n - 0) (let a = long in omega arith)

    pub list_whole : length (take (32 * n - 0) list₁) % 32 ≡ 0
    list_whole = let a = ap length list_part ∙ long in omega arith

    pub list_back : hashes_of (take (32 * n - 0) list₁) ≡ list_in x
    list_back = ap hashes_of list_part ∙ whole_back (list_in x) wide
