-- Past the second test the list fits. The last hash is written past the loop, without a comma. Assumes nothing.
use Rattle.std.proofs.Common.{◌≡◌, ◌-◌, arith}
use Rattle.print.specs.HexLaws.{listing_start, listing_next, listing_end, list_full, list_none}
use Rattle.print.proofs.put_list.Goals as goal

pub returns-then-n-eq0 : goal.returns-then-n-eq0
returns-then-n-eq0 c = rw (list_none c.args.hashes.now c.args.n c.if-n-eq0.true) c.put_bytes.ensures

pub returns-then-out-at : goal.returns-then-out-at
returns-then-out-at c = list_full _ _ _ _ c.requires.1 (omega arith) (omega arith)

pub loop-k-init : goal.loop-k-init
loop-k-init c = listing_start _ _ _ _ c.requires.1 (omega arith) (omega arith)

pub loop-k-preserved : goal.loop-k-preserved
loop-k-preserved c = rw c.put_node.ensures (listing_next _ _ _ _ c.requires.1 (omega arith) _ _ c.loop-k.invariant (omega arith))

pub returns : goal.returns
returns c =
    let e : c.loop-k.k ≡ c.args.n - 1 = omega arith in
    listing_end _ _ _ _ c.requires.1 (omega arith) _ _ (rw e at c.loop-k.invariant) (omega arith) _ c.put_node-2.ensures
