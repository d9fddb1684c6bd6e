-- A list that is written or read one by one: what its rest from c on says of it.
use Rattle.std.specs.Prelude.{◌≡◌, ℕ, ◌+◌, ◌<◌, ◌≤◌, List, [], ◌∷◌, length, drop, get_or, set}
use Rattle.std.proofs.Common.{ap, add-one, arith, length-drop, drop-cons}
use Rattle.list_laws.specs.Blend.{blend, blend_set}

module _ (l : List ℕ) (c x : ℕ) (rest : List ℕ) (e : drop c l ≡ x ∷ rest) where
  pub rest_in : c < length l
  rest_in = omega (arith, ap length e, length-drop c l)

  pub rest_first : get_or l c 0 ≡ x
  rest_first = cc (drop-cons l c 0 rest_in)

  pub rest_next : drop (c + 1) l ≡ rest
  rest_next = rw add-one (cc (drop-cons l c 0 rest_in))

  -- the next one is stored in a buffer that has room for the whole list
  pub put_next : (out₀ out : List ℕ) → out ≡ blend c l out₀ → length l ≤ length out₀ → set out c x ≡ blend (c + 1) l out₀
  put_next out₀ out b h = rw (b, ← rest_first) (blend_set c l out₀ rest_in (omega (arith, rest_in)))

pub rest_none : (l : List ℕ) (c : ℕ) → c ≤ length l → drop c l ≡ [] → c ≡ length l
rest_none l c h e = omega (arith, ap length e, length-drop c l)

-- the element at i, and the rest past it
pub drop_more : (l : List ℕ) (i : ℕ) → i < length l → drop i l ≡ get_or l i 0 ∷ drop (i + 1) l
drop_more l i h = rw add-one (drop-cons l i 0 h)
