use Rattle.std.proofs.Common.{◌∙◌, arith, add-zero}
use Rattle.hash.specs.HashLaws.{hash_part}
use Rattle.answer_buffer.specs.SlotLaws.{order_is, order_parts}
use Rattle.answer_buffer.proofs.compare.Goals as goal

pub returns-then-hashes-p : goal.returns-then-hashes-p
returns-then-hashes-p c =
    let parts = simp add-zero at (order_parts c.args.hashes.now c.args.k c.args.out.now c.args.i c.requires.0 c.requires.1 0 (omega arith)) in
    c.cmp.ensures ∙ parts c.if-hashes-p.true

pub returns : goal.returns
returns c = c.cmp-2.ensures ∙ rw (hash_part c.args.hashes.now c.args.k, hash_part c.args.out.now c.args.i) (order_is _ _)
