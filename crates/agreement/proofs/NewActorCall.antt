-- The number of the C function that puts an actor into a clock on a slice, by its promise alone, as those of specs/Calls.antt.
-- Assumes nothing.
use Rattle.std.specs.Prelude.{◌≡◌, List, ℕ, length}
use Rattle.std.proofs.Common.{◌∙◌}
use Rattle.paper.specs.Numbers.{number}
use Rattle.paper.specs.Clocks.{clock_lent, judged_lent, judged_entry}
use Rattle.clock_checked.specs.Told.{insert_told}
use Rattle.hub_clock_slices.specs.Face.{SliceChanged}
use Rattle.agreement.specs.ClocksAgree.{insert_agrees}

module _ (r : ℕ) (c : List ℕ) (n : ℕ) where
  pub clock_new_actor_gives : (q : ℕ) (c' : List ℕ) → SliceChanged (insert_told c n q) r c' → r ≡ number (judged_lent (clock_lent n (length c)) (judged_entry (length c) n q))
  clock_new_actor_gives q c' p = p.number ∙ insert_agrees c n q
