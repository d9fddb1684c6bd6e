-- Where there is no list, or more after it, the buffer stays; else it holds the hashes, which fit: a line of at most 2,400 bytes holds at most 36.
-- Assumes nothing.
use Rattle.std.proofs.Common.{sym, ◌∙◌, arith}
use borrow.Author.Tests.{ltb-true, ltb-false}
use Rattle.text.specs.CursorLaws.{list_is, list_room}
use Rattle.command.specs.ReadLaws.{one_not, one_more, one_whole}
use Rattle.command.proofs.read_list.Goals as goal

pub returns-in_err-found-clause-value : goal.returns-in_err-found-clause-value
returns-in_err-found-clause-value c = c.from_residual.ensures ∙ (one_not _ _ c.args.list.now (sym c.in_err-found.ensures)).0

pub returns-in_err-found-clause-list_after : goal.returns-in_err-found-clause-list_after
returns-in_err-found-clause-list_after c = (one_not _ _ _ (sym c.in_err-found.ensures)).1

pub returns-then-not-past-clause-value : goal.returns-then-not-past-clause-value
returns-then-not-past-clause-value c =
    (one_more _ _ c.args.list.now _ (list_is _ _ _ (sym c.in_ok-found.ensures)) (ltb-false _ _ (sym c.past.ensures ∙ c.if-not-past.true))).0

pub returns-then-not-past-clause-list_after : goal.returns-then-not-past-clause-list_after
returns-then-not-past-clause-list_after c =
    (one_more _ _ _ _ (list_is _ _ _ (sym c.in_ok-found.ensures)) (ltb-false _ _ (sym c.past.ensures ∙ c.if-not-past.true))).1

pub bytes-requires : goal.bytes-requires
bytes-requires c =
    let f = list_is _ _ _ (sym c.in_ok-found.ensures) in
    (f.field.ordered, f.field.within)

pub decode_list-requires-clause-n_value : goal.decode_list-requires-clause-n_value
decode_list-requires-clause-n_value c = rw c.bytes.ensures (list_is _ _ _ (sym c.in_ok-found.ensures)).holds.all

pub decode_list-requires-clause-n_in_bounds : goal.decode_list-requires-clause-n_in_bounds
decode_list-requires-clause-n_in_bounds c = omega (arith, list_room _ _ _ (list_is _ _ _ (sym c.in_ok-found.ensures)) c.requires.0, c.requires.1)

pub returns-clause-value : goal.returns-clause-value
returns-clause-value c =
    (one_whole _ _ c.args.list.now _ (list_is _ _ _ (sym c.in_ok-found.ensures)) (ltb-true _ _ (sym c.past.ensures ∙ c.if-not-past.false))).0

pub returns-clause-list_after : goal.returns-clause-list_after
returns-clause-list_after c =
    rw c.bytes.ensures at c.decode_list.ensures
    ∙ (one_whole _ _ _ _ (list_is _ _ _ (sym c.in_ok-found.ensures)) (ltb-true _ _ (sym c.past.ensures ∙ c.if-not-past.false))).1
