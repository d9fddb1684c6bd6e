use Rattle.std.proofs.Common.{◌≡◌, arith}
use Rattle.paper.specs.Lists.{hash_at, hashes_from}
use Rattle.hash.specs.HashLaws.{hash_part}
use Rattle.answer_buffer.specs.AnswerLaws.{holds_start}
use Rattle.heads.specs.Heads.{node_in}
use Rattle.heads.specs.HeadLaws.{asked_next}
use Rattle.heads.proofs.nodes_into.Goals as goal

-- the call looks for hash i of the list
told : (c : goal.After-node_number) → c.node_number.result ≡ node_in c.args.hashes.now c.args.n (hash_at c.args.list.now c.loop-i.i)
told c = rw hash_part at c.node_number.ensures

pub loop-i-init : goal.loop-i-init
unfolding hashes_from
loop-i-init c = holds_start _

pub loop-i-preserved : goal.loop-i-preserved
loop-i-preserved c =
    let t = c.loop-i-test.true in
    rw (told c) (asked_next c.args.hashes.now c.args.n c.args.list.now c.loop-i.invariant (let b = c.requires.fits in omega arith))

pub returns : goal.returns
returns c = let e : c.loop-i.i ≡ c.args.c = (let l = c.loop-i-test.false in omega arith) in rw (← e) c.loop-i.invariant
