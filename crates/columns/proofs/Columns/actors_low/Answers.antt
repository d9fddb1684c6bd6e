use Rattle.std.proofs.Common.{◌∙◌, ap, ltb, get_or, rules, tests}
use Rattle.std.proofs.lemmas.Iterator.{YieldsList-from_slice}
use Rattle.std.proofs.lemmas.Iterator.Search.{all_from_yields_List}
use Rattle.paper.specs.Lists.{all_below}
use Rattle.columns.specs.ColumnsLaws.{all_of_list}
use Rattle.columns.proofs.Columns.actors_low.Goals as goal

pub returns : goal.returns
returns c =
    let s = c.args.self.now in
    all_from_yields_List (λ w. ltb w s.count) _ _ _ c.all.ensures.ran (YieldsList-from_slice s.actors.now cc) (λ x b q k. search (rules, tests))
    ∙ all_of_list (λ w. ltb w s.count) s.actors.now
    ∙ ap (all_below (λ k. ltb (get_or s.actors.now k 0) s.count)) c.requires.actors
