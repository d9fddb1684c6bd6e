use Rattle.std.proofs.Common.{sym, ◌∙◌, arith}
use Rattle.hash.specs.HashLaws.{hash_part}
use Rattle.paper.specs.Lists.{hash_at}
use Rattle.ancestors.specs.AncestorLaws.{found_in, kept_found, kept_unknown}
use Rattle.ancestors.proofs.is_kept.Goals as goal

pub returns-in-None : goal.returns-in-None
returns-in-None c = let s = c.args in kept_unknown s.hashes.now s.n s.marks.now (hash_at s.list.now s.i) (sym (rw hash_part at c.find.ensures) ∙ c.in-None.is)

pub bounds-marks-k : goal.bounds-marks-k
bounds-marks-k c =
    let told = rw hash_part at c.find.ensures in
    let l = found_in _ _ _ _ (sym told ∙ c.in-Some.is) in
    let b = c.requires.1 in
    omega arith

pub returns-in-Some : goal.returns-in-Some
returns-in-Some c = let s = c.args in kept_found s.hashes.now s.n s.marks.now (hash_at s.list.now s.i) _ (sym (rw hash_part at c.find.ensures) ∙ c.in-Some.is)
