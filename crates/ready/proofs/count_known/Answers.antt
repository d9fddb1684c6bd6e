use Rattle.std.proofs.Common.{rules, ◌≡◌, ◌+◌, cond, Bool, ap, ◌∙◌}
use Rattle.paper.specs.Lists.{hash_at}
use Rattle.hash.specs.HashLaws.{hash_part}
use Rattle.ready.specs.Tables.{known_in}
use Rattle.ready.specs.OpenLaws.{bit_of, along_next, along_end}
use Rattle.ready.proofs.count_known.Goals as goal

pub loop-j-preserved : goal.loop-j-preserved
loop-j-preserved c =
    let told : c.from-total.result ≡ cond (known_in c.args.table.now c.args.n (hash_at c.args.deps.now (c.args.first + c.loop-j.j))) 1 0 =
    c.from-total.ensures ∙ (bit_of _ ∙ ap (λ (b : Bool). cond b 1 0) (rw hash_part at c.is_known.ensures))
    in
    (search rules, rw told (along_next _ _ _ _ _ _ c.loop-j.invariant.1 c.loop-j-test.true))

pub returns-clause-value : goal.returns-clause-value
returns-clause-value c = along_end _ _ _ _ _ _ c.loop-j.invariant.1 c.loop-j-test.false
