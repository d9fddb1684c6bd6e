use Rattle.std.proofs.Common.{sym, ◌∙◌, arith}
use Rattle.waiting.specs.ValidLaws.{valid_small, roomy_rooms}
use Rattle.release.specs.Release.{ReleasedTo}
use Rattle.release.specs.ReleaseLaws.{ready_count, ready_listable, released_all, released_short, given_out}
use Rattle.release.proofs.release_ready.Goals as goal

pub returns-then-not-roomy-clause-value : goal.returns-then-not-roomy-clause-value
returns-then-not-roomy-clause-value c = released_short _ _ _ _ _ (ready_count _ c.ready_order-r.ensures) (sym c.roomy.ensures ∙ c.if-not-roomy.true)

pub give_out-requires-clause-listable : goal.give_out-requires-clause-listable
give_out-requires-clause-listable c =
    ready_listable _ c.ready_order-r.ensures c.requires.store_valid (omega (arith, c.ready_order-r.ensures.list_length, valid_small c.requires.store_valid))

pub give_out-requires-clause-rooms : goal.give_out-requires-clause-rooms
give_out-requires-clause-rooms c = roomy_rooms _ _ _ _ (sym c.roomy.ensures ∙ c.if-not-roomy.false)

pub returns-clause-value : goal.returns-clause-value
returns-clause-value c = released_all _ _ _ _ _ (ready_count _ c.ready_order-r.ensures) (sym c.roomy.ensures ∙ c.if-not-roomy.false)

pub returns-clause-released_to : goal.returns-clause-released_to
unfolding ReleasedTo
returns-clause-released_to c = given_out _ c.ready_order-r.ensures c.give_out.ensures.filled c.give_out.ensures.taken_out
