use Rattle.std.proofs.Common.{ℕ, List, ap, ◌∙◌}
use Rattle.std.specs.Prelude.{nat_eq}
use lib.Pointwise.{pointwise}
use Rattle.hash.specs.Hash.{same_hash}
use Rattle.hash.specs.HashLaws.{hash_part, equal_is_same}
use Rattle.hash.proofs.same_at.Goals as goal

pub returns : goal.returns
unfolding same_hash
returns c = c.eq.ensures ∙ ap (λ (xs : List ℕ). pointwise nat_eq xs c.args.hash.now) (hash_part _ _) ∙ equal_is_same _ _
