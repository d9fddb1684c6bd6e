-- Demand 1 of the text session: the number is one of the paper's, and where it is not that of done the text answer is zeroed.
-- Assumes nothing.
use Rattle.std.specs.Prelude.{◌≡◌, refl, Bool, List, [], ◌++◌, ℕ, leb, length, replicate}
use Rattle.std.proofs.Math.Bool.{true, false, cond}
use Rattle.std.proofs.Math.ListN.{drop}
use Rattle.paper.specs.Numbers.{number, done, short_buffer}
use Rattle.paper.specs.Session.{session, number_in, length_in, buffer_in}
use Rattle.lent_place.specs.Places.{told_in}
use Rattle.demands.specs.Refusals.{NotDone, DemandOne}
use Rattle.demands.specs.RefusalLaws.{in_table, by_answer}
use Rattle.demands.specs.Session.{SessionAnswered, TextZeroed}

module _ (input out told : List ℕ) (r : ℕ) (out' told' : List ℕ) (p : SessionAnswered input out told r out' told') where
  -- it is lent no table, queue or clock
  pub session_demand : DemandOne r [] []
  unfolding number_in
  session_demand = by_answer p.number (in_table (cond (leb (length (session input)) (length out)) done short_buffer)) (λ _. refl)

  pub text_zeroed : NotDone r → TextZeroed out told r out' told'
  unfolding number_in length_in buffer_in
  text_zeroed n = go (leb (length (session input)) (length out)) p.number p.place p.buffer
    where
      go : (b : Bool) → r ≡ number (cond b done short_buffer) → told' ≡ told_in (cond b (length (session input)) 0) told → out' ≡ cond b (session input ++ drop (length (session input)) out) (replicate (length out) 0)
          → TextZeroed out told r out' told'
      go true e s o = absurd (n e)
      go false e s o = record { short = e; place = s; buffer = o }
