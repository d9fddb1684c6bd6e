use Rattle.std.proofs.Common.{ℕ, ap, ◌∙◌, arith}
use Rattle.std.specs.Prelude.{Option}
use Rattle.std.specs.Option.{unwrap_or}
use Rattle.heads.specs.HeadLaws.{number_told, number_most}
use Rattle.heads.proofs.node_number.Goals as goal

pub overflow_cast-result : goal.overflow_cast-result
overflow_cast-result c =
    let e = c.unwrap_or.ensures ∙ ap (λ (o : Option ℕ). unwrap_or o c.args.n) c.find.ensures in
    let m = number_most c.args.hashes.now c.args.n c.args.hash.now in
    let f = c.requires.1 in
    omega arith

pub returns : goal.returns
returns c = c.unwrap_or.ensures ∙ ap (λ (o : Option ℕ). unwrap_or o c.args.n) c.find.ensures ∙ number_told _ _ _
