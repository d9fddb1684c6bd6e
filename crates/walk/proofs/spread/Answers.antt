use Rattle.std.proofs.Common.{◌-◌, arith}
use Rattle.tables.specs.Lent.{lists}
use Rattle.walk.specs.MarkLaws.{node_chain, chain_up}
use Rattle.walk.specs.Whole.{spreading_skip, spreading_next, spreading_end}
use Rattle.walk.proofs.spread.Goals as goal

pub mark_links-requires : goal.mark_links-requires
mark_links-requires c =
    let s = c.requires.sound in
    (chain_up (omega arith) (node_chain (lists c.args.tables.now) s (c.loop-k.k - 1) (omega arith)), s.lengths.nexts_same)

pub loop-k-preserved-then-marks-k-ne0 : goal.loop-k-preserved-then-marks-k-ne0
loop-k-preserved-then-marks-k-ne0 c =
    spreading_next (lists c.args.tables.now) _ _ _ _ (omega arith) c.loop-k.invariant (omega arith) _ c.mark_links.ensures

pub loop-k-preserved : goal.loop-k-preserved
loop-k-preserved c = spreading_skip (lists c.args.tables.now) _ _ _ _ (omega arith) c.loop-k.invariant c.if-marks-k-ne0.false

pub returns : goal.returns
returns c = spreading_end (lists c.args.tables.now) _ _ _ (omega arith) c.loop-k.invariant
