-- Where the graph is not valid nothing is released.
use Rattle.std.proofs.Common.{refl}
use Rattle.std.proofs.lemmas.Bool.{false≢true}
use Rattle.hub_release.specs.Operations.{freed_not}
use Rattle.hub_release.proofs.cg_release.Goals as goal

pub returns-in_default : goal.returns-in_default
returns-in_default c = freed_not _ _ _ _ (λ v. false≢true (rw c.in_default.is at c.valid_tables.ensures.checked.1 v)) (refl, refl)
