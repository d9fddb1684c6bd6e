-- Laws of what an `owner` line answers.
-- Assumes nothing.
use Rattle.std.specs.Prelude.{◌≡◌, refl, List, Bool, true, false, cond, ℕ, ◌+◌, ◌-◌, ◌*◌, ◌≤◌, ◌<◌, ltb, length, take, drop, Option, Some, None}
use Rattle.std.proofs.Math.Path.{sym}
use Rattle.std.proofs.Common.{◌∙◌, arith}
use borrow.Author.Tests.{lt-ltb, le-ltb, ltb-true, ltb-false}
use Rattle.paper.specs.Lists.{first_below}
use Rattle.paper.specs.Text.{digits_of, hex_of}
use Rattle.paper.specs.Graph.{owner as owning}
use Rattle.paper.specs.Command.{owner_word, owner}
use Rattle.paper.specs.Session.{answer_line, owner_text, answer}
use Rattle.tables.specs.Tables.{Tables, changes, graph}
use Rattle.tables.specs.Valid.{Valid}
use Rattle.tables.specs.Node.{found_as}
use Rattle.judge.specs.Hub.{hub}
use Rattle.owner.specs.Owns.{owns_at, owner_is}
use Rattle.print.specs.HexLaws.{node_part}
use Rattle.reply.specs.Said.{Said}

found_at : (n m k : ℕ) → found_as n m ≡ Some k → (m ≡ k) × (m < n)
unfolding found_as
found_at n m k e = go (ltb m n) refl e
  where
    go : (t : Bool) → ltb m n ≡ t → cond t (Some m) None ≡ Some k → (m ≡ k) × (m < n)
    go true l q = (cc, ltb-true m n l)
    go false l q = let z : ◌≡◌ {A = ℕ} 0 1 = cc in absurd (omega arith)

found_none : (n m : ℕ) → found_as n m ≡ None → n ≤ m
unfolding found_as
found_none n m e = go (ltb m n) refl e
  where
    go : (t : Bool) → ltb m n ≡ t → cond t (Some m) None ≡ None → n ≤ m
    go true l q = let z : ◌≡◌ {A = ℕ} 0 1 = cc in absurd (omega arith)
    go false l q = ltb-false m n l

module _ (t : Tables) (a c : ℕ) where
  -- the node that owns lies in the table
  pub owner_room : Valid t → (k : ℕ) → found_as (changes t) (first_below (owns_at t.nodes a c) (changes t)) ≡ Some k → 32 * k + 32 ≤ length t.hashes
  owner_room v k e =
      let f = found_at (changes t) (first_below (owns_at t.nodes a c) (changes t)) k e in
      omega (arith, f.0, f.1, v.sound.lengths.hashes_whole, v.sound.counts.changes_fit)

  module _ (at : ℕ) (r : Option ℕ) (out₀ out₁ : List ℕ) where
    pub said_owner : (k : ℕ) → found_as (changes t) (first_below (owns_at t.nodes a c) (changes t)) ≡ Some k
        → Said (answer_line owner_word (hex_of (take (32 * k + 32 - 32 * k) (drop (32 * k) t.hashes)))) at r out₀ out₁
        → Said (answer (hub t) (owner a c)) at r out₀ out₁
    unfolding answer owner_text
    said_owner k e w =
        let f = found_at (changes t) (first_below (owns_at t.nodes a c) (changes t)) k e in
        let q : owning (graph t) a c ≡ k = sym (owner_is t a c) ∙ f.0 in
        rw (q, lt-ltb k (changes t) (omega (arith, f.0, f.1))) (rw (node_part t.hashes k) at w)

    pub said_no_owner : found_as (changes t) (first_below (owns_at t.nodes a c) (changes t)) ≡ None
        → Said (answer_line owner_word (digits_of 14)) at r out₀ out₁
        → Said (answer (hub t) (owner a c)) at r out₀ out₁
    unfolding answer owner_text
    said_no_owner e w =
        let l = found_none (changes t) (first_below (owns_at t.nodes a c) (changes t)) e in
        rw (← owner_is t a c, le-ltb (first_below (owns_at t.nodes a c) (changes t)) (changes t) l) w
