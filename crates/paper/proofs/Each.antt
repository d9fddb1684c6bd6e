-- Laws of `each_below`: a list by its entries.
-- Assumes nothing.
use mathlib.Core.Path.{◌≡◌, refl, sym, ◌∙◌}
use mathlib.Core.List.{List, [], ◌∷◌}
use Prim.Native.Nat.{ℕ, zero, suc, ◌<◌}
use native.Mathlib.Nat.{not-suc-le-zero}
use native.Mathlib.Omega.{arith}
use lib.ListN.{length, get_or, length-append, get_or-append}
use lib.Seq.{ext_get_or, get_or_at}
use Rattle.paper.specs.Lists.{each_below}
use Rattle.paper.proofs.Bools.{below_suc}

pub length_each : (f : ℕ → ℕ) (n : ℕ) → length (each_below f n) ≡ n
unfolding each_below
length_each f zero = refl
length_each f (suc n) = length-append (each_below f n) (f n ∷ []) ∙ (let e = length_each f n in omega arith)

pub get_d_each : (f : ℕ → ℕ) (n i : ℕ) → i < n → get_or (each_below f n) i 0 ≡ f i
unfolding each_below
get_d_each f zero i l = absurd (not-suc-le-zero l)
get_d_each f (suc n) i l =
    below_suc (λ (j : ℕ). get_or (each_below f (suc n)) j 0 ≡ f j) n i l
    (λ b. get_or-append (each_below f n) (f n ∷ []) 0 i (let e = length_each f n in omega arith) ∙ get_d_each f n i b)
    (get_or_at (each_below f n) (f n) [] 0 n (length_each f n))

-- a list with these entries
pub to_each : (f : ℕ → ℕ) (n : ℕ) (l : List ℕ) → length l ≡ n → ((i : ℕ) → i < n → get_or l i 0 ≡ f i) → l ≡ each_below f n
to_each f n l e h = ext_get_or 0 l (each_below f n) (e ∙ sym (length_each f n)) (λ i b. h i (omega arith) ∙ sym (get_d_each f n i (omega arith)))

pub each_ext : (f g : ℕ → ℕ) (n : ℕ) → ((i : ℕ) → i < n → f i ≡ g i) → each_below f n ≡ each_below g n
each_ext f g n h = to_each g n (each_below f n) (length_each f n) (λ i l. get_d_each f n i l ∙ h i l)
