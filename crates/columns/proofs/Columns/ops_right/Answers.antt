use Rattle.std.proofs.Common.{◌∙◌, sym, ap, ◌&&◌, leb, ℕ, rules, tests}
use Rattle.std.proofs.lemmas.Iterator.{YieldsList-from_slice, YieldsList-from_zip}
use Rattle.std.proofs.lemmas.Iterator.Search.{all_from_yields_List}
use Rattle.paper.specs.Lists.{all_below}
use Rattle.columns.specs.Columns.{column_ops_right}
use Rattle.columns.specs.ColumnsLaws.{all_of_zip}
use Rattle.columns.proofs.Columns.ops_right.Goals as goal

pub returns : goal.returns
returns c =
    let s = c.args.self.now in
    all_from_yields_List (λ (p : ℕ × ℕ). leb p.0 4294967295 && leb p.1 p.0) c.all.new.self _ _ c.all.ensures.ran (YieldsList-from_zip (YieldsList-from_slice s.maxes.now cc) (YieldsList-from_slice s.ops.now cc)) (λ x b q k. search (rules, tests))
    ∙ all_of_zip (λ (p : ℕ × ℕ). leb p.0 4294967295 && leb p.1 p.0) s.maxes.now s.ops.now (c.requires.ops ∙ sym c.requires.maxes)
    ∙ ap (all_below (column_ops_right s.maxes.now s.ops.now)) c.requires.maxes
