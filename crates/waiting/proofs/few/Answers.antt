use Rattle.std.proofs.Common.{rules, tests, ℕ, ◌∙◌, leb, refl}
use Rattle.std.proofs.Math.Nat.{sub-zero}
use Rattle.std.proofs.lemmas.Iterator.{YieldsList-from_range}
use Rattle.std.proofs.lemmas.Iterator.Search.{all_from_yields_List}
use Rattle.ready.specs.Tables.{dep_count}
use Rattle.waiting.specs.ValidLaws.{every_below, few_is}
use Rattle.waiting.proofs.few.Goals as goal

pub returns : goal.returns
returns c =
    let p = λ (i : ℕ). leb (dep_count c.args.numbers.now i) 32 in
    let e = all_from_yields_List p _ _ c.all.result c.all.ensures.ran (YieldsList-from_range 0 c.args.n c.args.n refl (sub-zero c.args.n)) (λ x b q k. search (rules, tests)) ∙ every_below p c.args.n in
    rw e (few_is c.args.numbers.now c.args.n)
