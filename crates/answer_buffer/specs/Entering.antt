-- A buffer that hashes are entered into one by one: it holds the ascending list of those entered so far.
-- Assumes nothing.
use Rattle.std.specs.Prelude.{◌≡◌, refl, true, List, [], ◌∷◌, ◌++◌, ℕ, suc, ◌+◌, ◌*◌, ◌-◌, ◌≤◌, eqb, length, take, drop, Ok}
use Rattle.std.proofs.Common.{sym, ap₂, ◌∙◌, append_assoc, arith, length-append, length-drop, take_at, drop_at, drop-drop, eqb-true, eq-eqb}
use Rattle.std.proofs.Math.Path.{ap}
use Rattle.paper.specs.Lists.{hash_at, hashes_from, enter, ascending, every}
use Rattle.paper.specs.Text.{flat}
use Rattle.paper.proofs.Bools.{and_both, and_fst, and_snd}
use Rattle.paper.proofs.Hashes.{every_of, of_every}
use Rattle.paper.proofs.Ascending.{ascending_names, ascending_grows}
use Rattle.answer_buffer.specs.Answers.{list_answer, filled}
use Rattle.answer_buffer.specs.AnswerLaws.{listed_done, filled_done}

-- all are 32 bytes
abbrev pub Wide : List (List ℕ) → Type 0
Wide l = every (λ h. eqb (length h) 32) l ≡ true

pub wide_cons : (h : List ℕ) (l : List (List ℕ)) → length h ≡ 32 → Wide l → Wide (h ∷ l)
unfolding every
wide_cons h l e w = and_both (eqb (length h) 32) (every (λ h. eqb (length h) 32) l) (eq-eqb (length h) 32 e) w

pub wide_ascending : (l : List (List ℕ)) → Wide l → Wide (ascending l)
wide_ascending l w = every_of (λ h. eqb (length h) 32) (ascending l) (λ d n. of_every (λ h. eqb (length h) 32) l w d (sym (ascending_names d l) ∙ n))

pub flat_long : (l : List (List ℕ)) → Wide l → length (flat l) ≡ 32 * length l
unfolding flat every
flat_long [] w = refl
flat_long (h ∷ l) w =
    let e = eqb-true (length h) 32 (and_fst (eqb (length h) 32) (every (λ h. eqb (length h) 32) l) w) in
    let r = flat_long l (and_snd (eqb (length h) 32) (every (λ h. eqb (length h) 32) l) w) in
    let a = length-append h (flat l) in
    omega arith

-- the hashes of a buffer that holds a list are the list's
pub hashes_in : (p : List ℕ) (l : List (List ℕ)) (r : List ℕ) (i : ℕ) → length p ≡ 32 * i → Wide l → hashes_from (p ++ (flat l ++ r)) (length l) i ≡ l
unfolding hashes_from flat hash_at every
hashes_in p [] r i e w = refl
hashes_in p (h ∷ l) r i e w =
    let a = eqb-true (length h) 32 (and_fst (eqb (length h) 32) (every (λ h. eqb (length h) 32) l) w) in
    let b = and_snd (eqb (length h) 32) (every (λ h. eqb (length h) 32) l) w in
    let q : length (p ++ h) ≡ 32 * suc i = (let n = length-append p h in omega arith) in
    let s : p ++ ((h ++ flat l) ++ r) ≡ (p ++ h) ++ (flat l ++ r) = ap (λ (x : List ℕ). p ++ x) (append_assoc h (flat l) r) ∙ sym (append_assoc p h (flat l ++ r)) in
    let x : take 32 (drop (32 * i) (p ++ ((h ++ flat l) ++ r))) ≡ h = ap (take 32) (drop_at p ((h ++ flat l) ++ r) (32 * i) e) ∙ ap (take 32) (append_assoc h (flat l) r) ∙ take_at h (flat l ++ r) 32 a in
    ap₂ (λ (y : List ℕ) (z : List (List ℕ)). y ∷ z) x (ap (λ (y : List ℕ). hashes_from y (length l) (suc i)) s ∙ hashes_in (p ++ h) l r (suc i) q b)

pub record Entering (l : List (List ℕ)) (out₀ out : List ℕ) (c : ℕ) : Type 0 where
  pub same : out ≡ flat (ascending l) ++ drop (32 * length (ascending l)) out₀
  pub long : c ≡ length (ascending l)
  pub kept : length out ≡ length out₀

pub entering_start : (out : List ℕ) → Entering [] out out 0
unfolding ascending flat
entering_start out = record { same = refl; long = refl; kept = refl }

module _ {l : List (List ℕ)} {out₀ out : List ℕ} {c : ℕ} (v : Entering l out₀ out c) (w : Wide l) where
  pub entered_list : hashes_from out c 0 ≡ ascending l
  entered_list =
      ap₂ (λ (x : List ℕ) (n : ℕ). hashes_from x n 0) v.same v.long
      ∙ hashes_in [] (ascending l) (drop (32 * length (ascending l)) out₀) 0 refl (wide_ascending l w)

  module _ (h : List ℕ) (fits : 32 * length (ascending (h ∷ l)) ≤ length out₀) where
    one_more : enter h (hashes_from out c 0) ≡ ascending (h ∷ l)
    unfolding ascending
    one_more = ap (enter h) entered_list

    -- it fits
    pub entering_room : 32 * length (enter h (hashes_from out c 0)) ≤ length out
    entering_room = let e = ap length one_more in let k = v.kept in omega arith

    -- one more is entered
    pub entering_next : length h ≡ 32 → (out' : List ℕ) (r : ℕ) → r ≡ length (enter h (hashes_from out c 0))
        → out' ≡ flat (enter h (hashes_from out c 0)) ++ drop (32 * length (enter h (hashes_from out c 0))) out → Entering (h ∷ l) out₀ out' r
    entering_next e out' r n s =
        let m = ap length one_more in
        let b = flat_long (ascending l) (wide_ascending l w) in
        let g = ascending_grows h l in
        let i = 32 * length (ascending (h ∷ l)) in
        let j = 32 * length (ascending l) in
        let split : i ≡ j + (i - j) = omega arith in
        let past : drop i out ≡ drop i out₀ =
        ap (λ (k : ℕ). drop k out) split
        ∙ sym (drop-drop (i - j) j out)
        ∙ ap (drop (i - j)) (ap (drop j) v.same ∙ drop_at (flat (ascending l)) (drop j out₀) j b)
        ∙ drop-drop (i - j) j out₀
        ∙ ap (λ (k : ℕ). drop k out₀) (sym split) in
        let t : out' ≡ flat (ascending (h ∷ l)) ++ drop i out₀ =
        s ∙ ap₂ (λ (x : List (List ℕ)) (k : ℕ). flat x ++ drop (32 * k) out) one_more m ∙ ap (λ (x : List ℕ). flat (ascending (h ∷ l)) ++ x) past in
        let z = flat_long (ascending (h ∷ l)) (wide_ascending (h ∷ l) (wide_cons h l e w)) in
        record { same = t; long = n ∙ m; kept = ap length t ∙ (let a = length-append (flat (ascending (h ∷ l))) (drop i out₀) in let d = length-drop i out₀ in omega arith) }

  -- at the end
  module _ (fits : 32 * length (ascending l) ≤ length out₀) where
    bytes : length (flat (ascending l)) ≡ 32 * length (ascending l)
    bytes = flat_long (ascending l) (wide_ascending l w)

    pub entering_told : Ok (32 * c) ≡ list_answer (flat (ascending l)) (length out₀)
    entering_told = ap Ok (let n = v.long in let b = bytes in omega arith) ∙ sym (listed_done (flat (ascending l)) (length out₀) (let b = bytes in omega arith))

    pub entering_whole : out ≡ filled (flat (ascending l)) out₀
    entering_whole = v.same ∙ ap (λ (k : ℕ). flat (ascending l) ++ drop k out₀) (sym bytes) ∙ sym (filled_done (flat (ascending l)) out₀ (let b = bytes in omega arith))
