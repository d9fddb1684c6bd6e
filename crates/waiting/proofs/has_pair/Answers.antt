use Rattle.std.proofs.Common.{rules, tests, ℕ, ◌+◌, ◌*◌, ◌&&◌, ◌∙◌, eqb, get_or, refl}
use Rattle.std.proofs.Math.Nat.{sub-zero}
use Rattle.std.proofs.lemmas.Iterator.{YieldsList-from_range}
use Rattle.std.proofs.lemmas.Iterator.Search.{any_from_yields_List}
use Rattle.waiting.specs.Valid.{has_actor_seq_in}
use Rattle.waiting.specs.ValidLaws.{any_below}
use Rattle.waiting.proofs.has_pair.Goals as goal

pub returns : goal.returns
unfolding has_actor_seq_in
returns c =
    let p = λ (i : ℕ). eqb (get_or c.args.numbers.now (5 * i) 0) c.args.key && eqb (get_or c.args.numbers.now (5 * i + 1) 0) c.args.seq in
    any_from_yields_List p _ _ c.any.result c.any.ensures.ran (YieldsList-from_range 0 c.args.n c.args.n refl (sub-zero c.args.n)) (λ x b q k. search (rules, tests)) ∙ any_below p c.args.n
