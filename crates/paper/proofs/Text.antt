-- Laws of parts: what stands before the first part, and that there always is one.
-- Assumes nothing.
use mathlib.Core.Path.{◌≡◌, refl, ap, ◌∙◌}
use mathlib.Core.Bool.{Bool, true, false, cond, not, ◌&&◌}
use mathlib.Core.List.{List, [], ◌∷◌, ◌++◌}
use Prim.Native.Nat.{ℕ}
use native.Mathlib.Omega.{arith}
use lib.Dec.{eqb}
use Rattle.paper.specs.Text.{grow, parted}

-- no byte is sep
unfoldable pub without : ℕ → List ℕ → Bool
without sep [] = true
without sep (b ∷ bs) = not (eqb b sep) && without sep bs

-- bytes before the first part
unfoldable pub ahead : List ℕ → List (List ℕ) → List (List ℕ)
ahead bs [] = []
ahead bs (p ∷ ps) = (bs ++ p) ∷ ps

ahead_grow : (b : ℕ) (bs : List ℕ) (ps : List (List ℕ)) → grow b (ahead bs ps) ≡ ahead (b ∷ bs) ps
unfolding ahead grow
ahead_grow b bs [] = refl
ahead_grow b bs (p ∷ ps) = refl

-- what holds no sep goes before the first part
pub parted_ahead : (sep : ℕ) (bs cs : List ℕ) → without sep bs ≡ true → parted sep (bs ++ cs) ≡ ahead bs (parted sep cs)
unfolding without parted ahead
parted_ahead sep [] cs n = nothing (parted sep cs)
  where
    nothing : (ps : List (List ℕ)) → ps ≡ ahead [] ps
    nothing [] = refl
    nothing (p ∷ ps) = refl
parted_ahead sep (b ∷ bs) cs n = go (eqb b sep) n (λ h. parted_ahead sep bs cs h)
  where
    go : (t : Bool) → (not t && without sep bs) ≡ true → (without sep bs ≡ true → parted sep (bs ++ cs) ≡ ahead bs (parted sep cs))
        → cond t ([] ∷ parted sep (bs ++ cs)) (grow b (parted sep (bs ++ cs))) ≡ ahead (b ∷ bs) (parted sep cs)
    go true h r = let z : ◌≡◌ {A = ℕ} 0 1 = cc in absurd (omega arith)
    go false h r = ap (grow b) (r h) ∙ ahead_grow b bs (parted sep cs)

pub without_more : (sep : ℕ) (bs : List ℕ) (b : ℕ) → without sep bs ≡ true → eqb b sep ≡ false → without sep (bs ++ (b ∷ [])) ≡ true
unfolding without
without_more sep [] b n e = rw e
without_more sep (c ∷ bs) b n e = go (eqb c sep) n (λ h. without_more sep bs b h e)
  where
    go : (t : Bool) → (not t && without sep bs) ≡ true → (without sep bs ≡ true → without sep (bs ++ (b ∷ [])) ≡ true) → (not t && without sep (bs ++ (b ∷ []))) ≡ true
    go true h r = h
    go false h r = r h

-- there is always a first part
pub record Parts (ls : List (List ℕ)) : Type 0 where
  pub head : List ℕ
  pub tail : List (List ℕ)
  pub are : ls ≡ head ∷ tail

pub some_parts : (sep : ℕ) (bs : List ℕ) → Parts (parted sep bs)
unfolding parted grow
some_parts sep [] = record { head = []; tail = []; are = refl }
some_parts sep (b ∷ bs) = go (eqb b sep) (some_parts sep bs)
  where
    go : (t : Bool) → Parts (parted sep bs) → Parts (cond t ([] ∷ parted sep bs) (grow b (parted sep bs)))
    go true q = record { head = []; tail = parted sep bs; are = refl }
    go false q = record { head = b ∷ q.head; tail = q.tail; are = ap (grow b) q.are }
