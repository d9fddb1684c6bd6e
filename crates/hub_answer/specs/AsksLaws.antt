-- How a public question keeps its promise.
-- Assumes nothing.
use Rattle.std.specs.Prelude.{◌≡◌, refl, Bool, true, false, ◌↔◌, List, ℕ, ◌<◌}
use Rattle.std.proofs.Common.{ap, ◌∙◌}
use Rattle.list_laws.specs.Iff.{failed}
use Rattle.paper.specs.Numbers.{number, not_valid}
use Rattle.tables.specs.Tables.{Tables, edge_room_of}
use Rattle.tables.specs.Valid.{Valid}
use Rattle.edges.specs.Told.{valid_bounding, answered_refused}
use Rattle.hub_answer.specs.Asks.{Reply, reply_number, told_by, Says, Untouched, Asks}

module _ {L : Type 0} (of : L → Reply) (answer : Tables → L) (buffer : Tables → List ℕ) (out told : List ℕ) (t : Tables) where
  -- more edges than the core has room for: 1 is right
  pub asks_refused : (r : ℕ) (out' told' : List ℕ) → 16384 < edge_room_of t → Untouched out told r out' told' → Asks of answer buffer out told r out' told' t
  asks_refused r out' told' l o = answered_refused Valid valid_bounding t l (Says of answer buffer told r out' told') (Untouched out told r out' told') o

  -- the check failed
  pub asks_invalid : {b : Bool} → (b ≡ true) ↔ Valid t → b ≡ false → Asks of answer buffer out told (number not_valid) out told t
  asks_invalid i e = record { met = λ v. absurd (failed i e v); unmet = λ _. (refl, refl, refl) }

  -- the check passed, the core answered a, and its number and what it tells were given
  pub asks_valid : (r : ℕ) (out' told' : List ℕ) → Valid t → (a : L) → a ≡ answer t → out' ≡ buffer t → r ≡ reply_number (of a) → told' ≡ told_by (of a) told → Asks of answer buffer out told r out' told' t
  asks_valid r out' told' v a e o n d = record {
    met = λ _. record { number = n ∙ ap (λ (l : L). reply_number (of l)) e; filled = o; places = d ∙ ap (λ (l : L). told_by (of l) told) e };
    unmet = λ w. absurd (w v);
  }
