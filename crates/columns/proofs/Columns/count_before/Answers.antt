use Rattle.std.proofs.Common.{◌∙◌, take, eqb, rules, tests}
use Rattle.std.proofs.lemmas.Iterator.{YieldsList-from_slice}
use Rattle.std.proofs.lemmas.Iterator.Consumers.{count_from_yields_List, YieldsList-from_filter}
use Rattle.columns.specs.ColumnsLaws.{count_of_front}
use Rattle.columns.proofs.Columns.count_before.Goals as goal

pub returns : goal.returns
returns c =
    let s = c.args.self.now in
    count_from_yields_List c.filter.result _ c.count.ensures.ran (YieldsList-from_filter _ (λ x. eqb x c.args.actor) (YieldsList-from_slice (take c.args.k s.actors.now) cc) c.filter.ensures.closure (λ x r q k. search (rules, tests)))
    ∙ count_of_front c.args.actor c.args.k s.actors.now c.requires
