-- Laws of what an `add` line answers.
-- Assumes nothing.
use Rattle.std.proofs.Math.Path.{◌≡◌, refl, subst}
use Rattle.std.proofs.Common.{sym, ap, ◌∙◌, arith}
use Rattle.std.specs.Prelude.{List, [], ◌∷◌, ◌++◌, Bool, cond, not, ◌||◌, ℕ, suc, ◌+◌, ◌-◌, ◌*◌, ◌/◌, ◌<◌, eqb, leb, take, drop, Option, Ok, Err, Some, None}
use Rattle.std.proofs.lemmas.Option.{none-some}
use Rattle.std.proofs.Math.Bool.{true, false}
use Rattle.std.proofs.Math.Dec.{ltb}
use Rattle.std.proofs.Math.ListN.{length}
use Rattle.paper.specs.Lists.{hash_at}
use Rattle.paper.specs.Text.{digits_of, hex_of}
use Rattle.paper.specs.Adding.{Change, Verdict, plain, unknown, judged as paper-judged}
use Rattle.paper.specs.Command.{add_word}
use Rattle.paper.specs.Session.{answer_line, verdict_text}
use Rattle.hash.specs.Hash.{find_hash, first_unknown}
use Rattle.hash.specs.Unknown.{MissingIs, unknown_is}
use Rattle.tables.specs.Tables.{Tables, changes, edges, actors, change_room_of, edge_room_of}
use Rattle.tables.specs.Valid.{Valid, count_of}
use Rattle.judge.specs.Judged.{Judged}
use Rattle.judge.specs.declared.AddRefusal.TheVariants.{Malformed, Known, Unknown, NoActor, WrongSequence, BadOps, TooManyDeps, NoNodeRoom, NoEdgeRoom}
use Rattle.judge.specs.Judge.{change, deps_given, misshapen, unless_found, unless_missing, tables_judged, verdict, judged_number}
use Rattle.judge.specs.Hub.{hub}
use Rattle.judge.specs.HubLaws.{judged_agrees}
use Rattle.print.specs.HexLaws.{node_part}
use Rattle.reply.specs.Said.{Said}
use Rattle.session_line.specs.Added.{missing_of, Named, judged_text}

-- ---- the dependency that is named is one of the list

none_named : (a b c d e f : Bool)
    → missing_of (cond a (Err NoActor) (cond b (Err WrongSequence) (cond c (Err BadOps) (cond d (Err TooManyDeps) (cond e (Err NoNodeRoom) (cond f (Err NoEdgeRoom) (Ok tt))))))) ≡ None
none_named true b c d e f = refl
none_named false true c d e f = refl
none_named false false true d e f = refl
none_named false false false true e f = refl
none_named false false false false true f = refl
none_named false false false false false true = refl
none_named false false false false false false = refl

module _ (t : Tables) (x : Change) where
  place_low : (i : ℕ) → missing_of (tables_judged t x) ≡ Some i → i < length x.deps / 32
  unfolding tables_judged MissingIs
  place_low i h =
      go (misshapen x) (find_hash t.hashes (changes t) x.hash) (first_unknown t.hashes (changes t) x.deps) refl _
      (none_named (leb (actors t) x.actor) (not (eqb x.seq (suc (count_of t.nodes x.actor (changes t)))))
      (ltb 4294967295 x.max_op || ltb x.max_op x.ops) (ltb 32 (deps_given x)) (leb (change_room_of t) (changes t)) (ltb (edge_room_of t) (edges t + deps_given x)))
      h
    where
      go : (m : Bool) (f : Option ℕ) (w : Option ℕ) → first_unknown t.hashes (changes t) x.deps ≡ w → (rest : Judged) → missing_of rest ≡ None
          → missing_of (cond m (Err Malformed) (unless_found f (Err Known) (unless_missing w rest))) ≡ Some i → i < length x.deps / 32
      go true f w q rest r e = let z : ◌≡◌ {A = ℕ} 0 1 = cc in absurd (omega arith)
      go false (Some k) w q rest r e = let z : ◌≡◌ {A = ℕ} 0 1 = cc in absurd (omega arith)
      go false None (Some j) q rest r e =
          let s : j ≡ i = cc in
          let u = subst (MissingIs t.hashes (changes t) x.deps (length x.deps / 32)) q (unknown_is t.hashes (changes t) x.deps) in
          omega (arith, u.0)
      go false None None q rest r e = let z : ◌≡◌ {A = ℕ} 0 1 = cc in absurd (omega arith)

  pub judged_named : Named (tables_judged t x) x.deps
  judged_named = record { inside = λ i e. omega (arith, place_low i e) }

-- ---- the text of each answer

pub text_unknown : (j : Judged) (ds : List ℕ) (i : ℕ) → missing_of j ≡ Some i → judged_text j ds ≡ digits_of 4 ++ (9 ∷ hex_of (hash_at ds i))
unfolding verdict_text
text_unknown (Err (Unknown k)) ds i e = let s : k ≡ i = cc in rw s
text_unknown (Ok u) ds i e = absurd (none-some i e)
text_unknown (Err Malformed) ds i e = absurd (none-some i e)
text_unknown (Err Known) ds i e = absurd (none-some i e)
text_unknown (Err NoActor) ds i e = absurd (none-some i e)
text_unknown (Err WrongSequence) ds i e = absurd (none-some i e)
text_unknown (Err BadOps) ds i e = absurd (none-some i e)
text_unknown (Err TooManyDeps) ds i e = absurd (none-some i e)
text_unknown (Err NoNodeRoom) ds i e = absurd (none-some i e)
text_unknown (Err NoEdgeRoom) ds i e = absurd (none-some i e)

pub text_number : (j : Judged) (ds : List ℕ) → missing_of j ≡ None → judged_text j ds ≡ digits_of (judged_number j)
unfolding verdict_text
text_number (Err (Unknown k)) ds e = absurd (none-some k (sym e))
text_number (Ok u) ds e = refl
text_number (Err Malformed) ds e = refl
text_number (Err Known) ds e = refl
text_number (Err NoActor) ds e = refl
text_number (Err WrongSequence) ds e = refl
text_number (Err BadOps) ds e = refl
text_number (Err TooManyDeps) ds e = refl
text_number (Err NoNodeRoom) ds e = refl
text_number (Err NoEdgeRoom) ds e = refl

-- only the list matters of a change
same_text : (x : Change) (v : Verdict) → verdict_text (change [] 0 0 0 0 x.deps) v ≡ verdict_text x v
unfolding verdict_text
same_text x (plain o) = refl
same_text x (unknown i) = refl

-- over valid tables it is the paper's
pub judged_text_lem : (t : Tables) (x : Change) → Valid t → judged_text (tables_judged t x) x.deps ≡ verdict_text x (paper-judged (hub t) x)
judged_text_lem t x v = same_text x (verdict (tables_judged t x)) ∙ ap (verdict_text x) (judged_agrees t x v.sound)

-- ---- the line that is written

module _ (j : Judged) (ds : List ℕ) (at : ℕ) (r : Option ℕ) (out₀ out₁ : List ℕ) where
  pub said_unknown : (i : ℕ) → missing_of j ≡ Some i
      → Said (answer_line add_word (digits_of 4 ++ (9 ∷ hex_of (take (32 * i + 32 - 32 * i) (drop (32 * i) ds))))) at r out₀ out₁
      → Said (answer_line add_word (judged_text j ds)) at r out₀ out₁
  said_unknown i e w = rw (text_unknown j ds i e) (rw (node_part ds i) at w)

  pub said_number : (n : ℕ) → missing_of j ≡ None → n ≡ judged_number j → Said (answer_line add_word (digits_of n)) at r out₀ out₁ → Said (answer_line add_word (judged_text j ds)) at r out₀ out₁
  said_number n e q w = rw (text_number j ds e, ← q) w

pub said_add : (t : Tables) (x : Change) (j : Judged) (at : ℕ) (r : Option ℕ) (out₀ out₁ : List ℕ) → Valid t → j ≡ tables_judged t x
    → Said (answer_line add_word (judged_text j x.deps)) at r out₀ out₁ → Said (answer_line add_word (verdict_text x (paper-judged (hub t) x))) at r out₀ out₁
said_add t x j at r out₀ out₁ v e w =
    subst (λ (y : List ℕ). Said (answer_line add_word y) at r out₀ out₁) (ap (λ (i : Judged). judged_text i x.deps) e ∙ judged_text_lem t x v) w

pub named_as : (t : Tables) (x : Change) (j : Judged) → j ≡ tables_judged t x → Named j x.deps
named_as t x j e = subst (λ (i : Judged). Named i x.deps) (sym e) (judged_named t x)
