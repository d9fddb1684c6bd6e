-- What writing an answer line gives.
-- Assumes nothing.
use Rattle.std.specs.Prelude.{◌≡◌, List, ℕ, length, Option, Some}
use Rattle.list_laws.specs.Over.{over}
use Rattle.std.proofs.Common.{MutBor}
use Rattle.print.specs.Print.{put_answer, Written}

-- the answer says whether the text fits; where it does it stands in the buffer, and nothing else has changed
pub record Said (text : List ℕ) (at : ℕ) (r : Option ℕ) (out₀ out₁ : List ℕ) : Type 0 where
  pub answer : r ≡ put_answer text at (length out₀)
  pub buffer : (p : ℕ) → r ≡ Some p → out₁ ≡ over out₀ at text
  pub size : length out₁ ≡ length out₀

-- whatever a call, of which `post` tells, is handed, it writes the text there, or nothing where it does not fit
abbrev pub Puts : (MutBor (List ℕ) → ℕ → Option ℕ → MutBor (List ℕ) → Type 0) → List ℕ → Type 0
Puts post text = (out₀ : MutBor (List ℕ)) (at : ℕ) (r : Option ℕ) (out₁ : MutBor (List ℕ)) → post out₀ at r out₁ → Written text at r out₀.now out₁.now
