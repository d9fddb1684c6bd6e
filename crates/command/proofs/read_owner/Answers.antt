-- Two numbers and nothing more: one law for each of the ways out. Assumes nothing.
use Rattle.std.proofs.Common.{sym, ◌∙◌}
use Rattle.command.specs.ReadLaws.{owner_actor, owner_counter, owner_last}
use Rattle.command.proofs.read_owner.Goals as goal

pub returns-in_err-actor : goal.returns-in_err-actor
returns-in_err-actor c = c.from_residual.ensures ∙ owner_actor _ _ (sym c.in_err-actor.ensures)

pub returns-in_err-counter : goal.returns-in_err-counter
returns-in_err-counter c = c.from_residual-in_err-counter.ensures ∙ owner_counter _ _ _ _ (sym c.in_ok-actor.ensures) (sym c.in_err-counter.ensures)

pub returns : goal.returns
returns c = c.then_some.ensures ∙ owner_last _ _ _ _ (sym c.in_ok-actor.ensures) _ _ (sym c.in_ok-counter.ensures) _ c.past.ensures
