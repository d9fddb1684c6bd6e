use Rattle.std.proofs.Common.{rules, tests, ◌∙◌, refl}
use Rattle.std.proofs.Math.Nat.{sub-zero}
use Rattle.std.proofs.lemmas.Iterator.{YieldsList-from_range}
use Rattle.std.proofs.lemmas.Iterator.Search.{any_from_yields_List}
use Rattle.waiting.specs.ValidLaws.{any_below}
use Rattle.queue.specs.Hand.{clash_at, any_clash}
use Rattle.queue.proofs.clashes.Goals as goal

pub returns : goal.returns
unfolding any_clash
returns c =
    let p = clash_at c.args.hashes.now c.args.numbers.now c.args.n c.args.bhashes.now c.args.bnumbers.now in
    any_from_yields_List p _ _ c.any.result c.any.ensures.ran (YieldsList-from_range 0 c.args.m c.args.m refl (sub-zero c.args.m)) (λ x b q k. search (rules, tests)) ∙ any_below p c.args.m
