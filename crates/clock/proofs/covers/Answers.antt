-- The pairs of entries, all of which are looked at.
use Rattle.std.proofs.Common.{rules, tests, leb, ◌∙◌, ℕ, sym}
use Rattle.std.proofs.lemmas.Iterator.{YieldsList-from_slice, YieldsList-from_zip}
use Rattle.std.proofs.lemmas.Iterator.Search.{all_from_yields_List}
use Rattle.clock.specs.ClockLaws.{covers_pairs}
use Rattle.clock.proofs.covers.Goals as goal

pub returns : goal.returns
returns c =
    all_from_yields_List (λ (p : ℕ × ℕ). leb p.1 p.0) c.all.new.self _ _ c.all.ensures.ran
    (YieldsList-from_zip (YieldsList-from_slice c.args.a.now cc) (YieldsList-from_slice c.args.b.now cc))
    (λ x b q k. search (rules, tests))
    ∙ sym (covers_pairs c.args.a.now c.args.b.now)
