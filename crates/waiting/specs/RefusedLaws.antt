-- Laws of refusals.
use Rattle.std.specs.Prelude.{◌≡◌, refl, ℕ, Bool, true, false, cond, Result, Ok, Err}
use Rattle.std.proofs.Common.{arith}
use Rattle.paper.specs.Numbers.{number, done}
use Rattle.waiting.specs.Refused.{queue_refusal_number}
use Rattle.waiting.specs.declared.QueueRefusal.{QueueRefusal}
use Rattle.waiting.specs.declared.QueueRefusal.TheVariants.{NotValid, Malformed, AlreadyKnown, ManyDependencies, ShortBuffer, AlreadyWaiting, NoQueueRoom}

-- no refusal has the number of done
pub never_done : (e : QueueRefusal) → queue_refusal_number e ≡ number done → ⊥
never_done NotValid n = omega arith
never_done Malformed n = omega arith
never_done AlreadyKnown n = omega arith
never_done ManyDependencies n = omega arith
never_done ShortBuffer n = omega arith
never_done AlreadyWaiting n = omega arith
never_done NoQueueRoom n = omega arith

-- what was not not_refused passed the test before it
pub not_refused : {A : Type 0} {a : A} (b : Bool) (x : QueueRefusal) (rest : Result A QueueRefusal) → cond b (Err x) rest ≡ Ok a → (b ≡ false) × (rest ≡ Ok a)
not_refused true x rest e = let z : ◌≡◌ {A = ℕ} 0 1 = cc in absurd (omega arith)
not_refused false x rest e = (refl, e)
