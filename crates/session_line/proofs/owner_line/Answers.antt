-- The owning node's hash is written where there is one, and else 14: the node found is the paper's owner.
-- Assumes nothing.
use Rattle.std.proofs.Common.{sym, arith}
use Rattle.tables.specs.Tables.{tables}
use Rattle.session_line.specs.OwnerLaws.{owner_room, said_owner, said_no_owner}
use Rattle.session_line.proofs.owner_line.Goals as goal

pub overflow_mul-p : goal.overflow_mul-p
overflow_mul-p c =
    let h = owner_room _ _ _ c.requires.valid _ (sym c.in-Some.ensures) in omega (arith, h)

pub overflow_add-p : goal.overflow_add-p
overflow_add-p c =
    let h = owner_room _ _ _ c.requires.valid _ (sym c.in-Some.ensures) in omega (arith, h)

pub slice_bounds-put_owner-end : goal.slice_bounds-put_owner-end
slice_bounds-put_owner-end c =
    let h = owner_room _ _ _ c.requires.valid _ (sym c.in-Some.ensures) in omega (arith, h)

pub returns-in-Some : goal.returns-in-Some
returns-in-Some c = said_owner (tables c.args.tables.now.hashes.now c.args.tables.now.nodes.now c.args.tables.now.targets.now c.args.tables.now.nexts.now c.args.tables.now.clocks.now c.args.tables.now.counts.now) c.args.actor c.args.counter _ _ _ _ _ (sym c.in-Some.ensures) c.put_owner.ensures

pub returns-in-None : goal.returns-in-None
returns-in-None c =
    said_no_owner (tables c.args.tables.now.hashes.now c.args.tables.now.nodes.now c.args.tables.now.targets.now c.args.tables.now.nexts.now c.args.tables.now.clocks.now c.args.tables.now.counts.now) c.args.actor c.args.counter _ _ _ _ (sym c.in-None.ensures) c.put_no_owner.ensures
