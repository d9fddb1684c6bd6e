use Rattle.std.proofs.Common.{rules, tests, ℕ, ◌+◌, ◌∙◌, refl}
use Rattle.std.proofs.Math.Nat.{sub-zero}
use Rattle.std.proofs.lemmas.Iterator.{YieldsList-from_range}
use Rattle.std.proofs.lemmas.Iterator.Search.{any_from_yields_List}
use Rattle.paper.specs.Lists.{same_list, hash_at}
use Rattle.hash.specs.Hash.{same_hash}
use Rattle.hash.specs.HashLaws.{hash_part}
use Rattle.branch.specs.BranchLaws.{names_in}
use Rattle.branch.proofs.depends.Goals as goal

pub returns : goal.returns
unfolding same_hash
returns c =
    let p = λ (j : ℕ). same_list (hash_at c.args.deps.now (c.args.first + j)) (hash_at c.args.hashes.now c.args.k) in
    any_from_yields_List p _ _ c.any.result c.any.ensures.ran (YieldsList-from_range 0 c.args.m c.args.m refl (sub-zero c.args.m)) (λ x b q k. search (rules, tests, hash_part)) ∙ names_in (hash_at c.args.hashes.now c.args.k) c.args.deps.now c.args.first c.args.m
