use Rattle.std.proofs.Common.{◌≡◌, refl, ap, ◌∙◌, ℕ, is_some, Option, Some, None}
use Rattle.ready.specs.Tables.{is_at, known_in}
use Rattle.ready.proofs.is_known.Goals as goal

-- a found place, in the two words for it
found : (o : Option ℕ) → is_some o ≡ is_at o
found (Some k) = refl
found None = refl

pub returns : goal.returns
unfolding known_in
returns c = c.is_some.ensures ∙ found c.find.result ∙ ap is_at c.find.ensures
