-- The hashes that a line names are 32 bytes each.
-- Assumes nothing.
use Rattle.std.specs.Prelude.{◌≡◌, Bool, false, cond, ◌&&◌, ℕ, eqb, length}
use Rattle.std.proofs.Math.Path.{refl}
use Rattle.std.proofs.Common.{sym, ap, ◌∙◌, arith, eq-eqb}
use Rattle.std.proofs.Math.Bool.{true}
use mathlib.Core.List.{List, [], ◌∷◌}
use Rattle.std.proofs.Math.Option.{Option, none, some}
use Rattle.paper.specs.Lists.{same_list, every}
use Rattle.paper.specs.Text.{parted, decimal_of, is_hash, bytes_of, hash_of, before, hashes_of_members, list_of, given, next, last}
use Rattle.paper.specs.Command.{Command, heads, clock, missing, owner, add, bad, heads_word, clock_word, missing_word, owner_word, add_word, one_list, owner_line, add_line, by_word, command_of}
use Rattle.paper.proofs.Bools.{by_bool, and_both}
use Rattle.text.specs.WordsLaws.{hash_bytes}
use Rattle.answer_buffer.specs.Entering.{wide_cons}

-- 32 bytes
abbrev pub full : List ℕ → Bool
full h = eqb (length h) 32

unfoldable pub sized : Command → Bool
sized heads = true
sized (clock hs) = every full hs
sized (missing hs) = every full hs
sized (owner a c) = true
sized (add h a s m k ds) = full h && every full ds
sized bad = true

hash_sized : (f h : List ℕ) → hash_of f ≡ some h → length h ≡ 32
unfolding hash_of
hash_sized f h e = go (is_hash f) refl e
  where
    go : (b : Bool) → is_hash f ≡ b → cond b (some (bytes_of f)) none ≡ some h → length h ≡ 32
    go true q r = let s : bytes_of f ≡ h = cc in ap length (sym s) ∙ hash_bytes f q
    go false q r = let z : ◌≡◌ {A = ℕ} 0 1 = cc in absurd (omega arith)

members_sized : (ms : List (List ℕ)) → given true (hashes_of_members ms) (every full) ≡ true
unfolding given hashes_of_members before every
members_sized [] = refl
members_sized (m ∷ ms) = go (hash_of m) refl (hashes_of_members ms) (members_sized ms)
  where
    go : (o : Option (List ℕ)) → hash_of m ≡ o → (os : Option (List (List ℕ))) → given true os (every full) ≡ true → given true (before o os) (every full) ≡ true
    go none q os r = refl
    go (some h) q none r = refl
    go (some h) q (some hs) r = wide_cons h hs (hash_sized m h q) r

list_sized : (bs : List ℕ) → given true (list_of bs) (every full) ≡ true
unfolding list_of given every
list_sized bs = by_bool (same_list bs (45 ∷ [])) (λ y. rw y) (λ n. rw n (members_sized (parted 44 bs)))

one_sized : (fs : List (List ℕ)) → given true (one_list fs) (every full) ≡ true
unfolding one_list next last given
one_sized [] = refl
one_sized (f ∷ fs) = go (list_of f) (list_sized f) fs
  where
    go : (o : Option (List (List ℕ))) → given true o (every full) ≡ true → (gs : List (List ℕ)) → given true (given none o (λ hs. last none gs (some hs))) (every full) ≡ true
    go none r gs = refl
    go (some hs) r [] = r
    go (some hs) r (g ∷ gs) = refl

-- what is made of a list
clock_sized : (o : Option (List (List ℕ))) → given true o (every full) ≡ true → sized (given bad o clock) ≡ true
unfolding given sized
clock_sized none r = refl
clock_sized (some hs) r = r

missing_sized : (o : Option (List (List ℕ))) → given true o (every full) ≡ true → sized (given bad o missing) ≡ true
unfolding given sized
missing_sized none r = refl
missing_sized (some hs) r = r

deps_sized : (h : List ℕ) (a s m k : ℕ) → length h ≡ 32 → (o : Option (List (List ℕ))) → given true o (every full) ≡ true → sized (given bad o (add h a s m k)) ≡ true
unfolding given sized
deps_sized h a s m k e none r = refl
deps_sized h a s m k e (some ds) r = and_both (full h) (every full ds) (eq-eqb (length h) 32 e) r

-- what is made of the fields one after the other
module _ {A : Type 0} (read : List ℕ → Option A) (k : A → List (List ℕ) → Command) (h : (f : List ℕ) (v : A) → read f ≡ some v → (gs : List (List ℕ)) → sized (k v gs) ≡ true) where
  next_sized : (fs : List (List ℕ)) → sized (next bad read fs k) ≡ true
  unfolding next given sized
  next_sized [] = refl
  next_sized (f ∷ fs) = go (read f) refl
    where
      go : (o : Option A) → read f ≡ o → sized (given bad o (λ v. k v fs)) ≡ true
      go none q = refl
      go (some v) q = h f v q fs

owner_sized : (fs : List (List ℕ)) → sized (owner_line fs) ≡ true
unfolding owner_line last sized
owner_sized fs = next_sized decimal_of _ (λ f a e gs. next_sized decimal_of _ (λ g c q hs. end a c hs) gs) fs
  where
    end : (a c : ℕ) (hs : List (List ℕ)) → sized (last bad hs (owner a c)) ≡ true
    end a c [] = refl
    end a c (x ∷ hs) = refl

add_sized : (fs : List (List ℕ)) → sized (add_line fs) ≡ true
unfolding add_line
add_sized fs =
    next_sized hash_of _
    (λ f h e f₁.
    next_sized decimal_of _
    (λ g₁ a e₁ f₂.
    next_sized decimal_of _
    (λ g₂ s e₂ f₃. next_sized decimal_of _ (λ g₃ m e₃ f₄. next_sized decimal_of _ (λ g₄ k e₄ f₅. deps_sized h a s m k (hash_sized f h e) (one_list f₅) (one_sized f₅)) f₄) f₃) f₂)
    f₁)
    fs

word_sized : (fs : List (List ℕ)) → sized (by_word fs) ≡ true
unfolding by_word sized last
word_sized [] = refl
word_sized (w ∷ fs) = pick (same_list w heads_word) (same_list w clock_word) (same_list w missing_word) (same_list w owner_word) (same_list w add_word)
  where
    alone : (gs : List (List ℕ)) → sized (last bad gs heads) ≡ true
    alone [] = refl
    alone (g ∷ gs) = refl

    pick : (a b c d e : Bool)
        → sized (cond a (last bad fs heads) (cond b (given bad (one_list fs) clock) (cond c (given bad (one_list fs) missing) (cond d (owner_line fs) (cond e (add_line fs) bad))))) ≡ true
    pick true b c d e = alone fs
    pick false true c d e = clock_sized (one_list fs) (one_sized fs)
    pick false false true d e = missing_sized (one_list fs) (one_sized fs)
    pick false false false true e = owner_sized fs
    pick false false false false true = add_sized fs
    pick false false false false false = refl

pub line_sized : (line : List ℕ) → sized (command_of line) ≡ true
unfolding command_of
line_sized line = word_sized (parted 9 line)
