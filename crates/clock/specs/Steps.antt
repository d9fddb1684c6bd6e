-- The loops that put a place in and take one out, as records with their beginning, one step, and their end.
-- Assumes nothing.
use Rattle.std.specs.Prelude.{◌≡◌, refl, ℕ, suc, ◌+◌, ◌<◌, ◌≤◌, List, length, get_or, set}
use Rattle.std.proofs.Common.{sym, ap, ◌∙◌, add-one, arith, length-set}
use Rattle.list_laws.specs.Blend.{blend, blend_read, blend_later, blend_set, blend_head, blend_tail}
use Rattle.clock.specs.Clock.{inserted, removed}
use Rattle.clock.specs.Places.{length_inserted, inserted_here, inserted_high, inserted_head, inserted_rest, length_removed, removed_high, removed_free, removed_head, removed_rest}

-- ---- a new actor at p: the entries below i are those of the target, and what is carried is the target's next one

pub record Entering (c₀ : List ℕ) (n p : ℕ) (c : List ℕ) (carried i : ℕ) : Type 0 where
  pub from : p ≤ i
  pub to : i ≤ suc n
  pub long : length c ≡ length c₀
  pub same : c ≡ blend i (inserted c₀ n p) c₀
  pub next : i ≤ n → carried ≡ get_or (inserted c₀ n p) i 0

module _ (c₀ : List ℕ) (n p : ℕ) (hp : p ≤ n) (hn : n < length c₀) where
  pub entering_start : Entering c₀ n p c₀ 0 p
  entering_start = record {
    from = omega arith;
    to = omega arith;
    long = refl;
    same = sym (blend_head p (inserted c₀ n p) c₀ (inserted_head c₀ n p hp hn));
    next = λ l. sym (inserted_here c₀ n p hp hn);
  }

  pub entering_next : {c : List ℕ} {carried i : ℕ} → Entering c₀ n p c carried i → i ≤ n → Entering c₀ n p (set c i carried) (get_or c i 0) (i + 1)
  entering_next {c} {carried} {i} e l =
      let t = inserted c₀ n p in
      let in_t : i < length t = omega (arith, length_inserted c₀ n p hp hn) in
      let old : get_or c i 0 ≡ get_or c₀ i 0 = ap (λ (x : List ℕ). get_or x i 0) e.same ∙ blend_read i t c₀ in_t (omega arith) in
      record {
        from = omega (arith, e.from);
        to = omega arith;
        long = length-set c i carried ∙ e.long;
        same = ap (λ (x : List ℕ). set x i carried) e.same ∙ (ap (set (blend i t c₀) i) (e.next l) ∙ blend_set i t c₀ in_t (omega arith));
        next = λ h. old ∙ (sym (inserted_high c₀ n p hp hn i e.from (omega arith)) ∙ ap (λ (k : ℕ). get_or t k 0) (sym (add-one i)));
      }

  pub entering_end : {c : List ℕ} {carried i : ℕ} → Entering c₀ n p c carried i → n < i → c ≡ inserted c₀ n p
  entering_end {c} {carried} {i} e l =
      let q : i ≡ suc n = omega (arith, e.to) in
      e.same ∙ (ap (λ (k : ℕ). blend k (inserted c₀ n p) c₀) q ∙ blend_tail (suc n) (inserted c₀ n p) c₀ (inserted_rest c₀ n p hp hn))

-- ---- the actor at p goes: the entries below i are those of the target, and the others still the old ones

pub record Leaving (c₀ : List ℕ) (n p : ℕ) (c : List ℕ) (i : ℕ) : Type 0 where
  pub from : p ≤ i
  pub to : i < n
  pub long : length c ≡ length c₀
  pub same : c ≡ blend i (removed c₀ n p) c₀

module _ (c₀ : List ℕ) (n p : ℕ) (hp : p < n) (hn : n ≤ length c₀) where
  pub leaving_start : Leaving c₀ n p c₀ p
  leaving_start = record {
    from = omega arith;
    to = hp;
    long = refl;
    same = sym (blend_head p (removed c₀ n p) c₀ (removed_head c₀ n p hp hn));
  }

  pub leaving_next : {c : List ℕ} {i : ℕ} → Leaving c₀ n p c i → suc i < n → Leaving c₀ n p (set c i (get_or c (i + 1) 0)) (i + 1)
  leaving_next {c} {i} e l =
      let t = removed c₀ n p in
      let in_t : i < length t = omega (arith, length_removed c₀ n p hp hn) in
      let read : get_or c (i + 1) 0 ≡ get_or t i 0 =
      ap (λ (x : List ℕ). get_or x (i + 1) 0) e.same ∙ (blend_later i (i + 1) t c₀ (omega (arith, in_t)) (omega arith) ∙ (ap (λ (k : ℕ). get_or c₀ k 0) (add-one i) ∙ sym (removed_high c₀ n p hp hn i e.from l))) in
      record {
        from = omega (arith, e.from);
        to = omega arith;
        long = length-set c i (get_or c (i + 1) 0) ∙ e.long;
        same = ap (λ (x : List ℕ). set x i (get_or c (i + 1) 0)) e.same ∙ (ap (set (blend i t c₀) i) read ∙ blend_set i t c₀ in_t (omega arith));
      }

  pub leaving_end : {c : List ℕ} {i : ℕ} → Leaving c₀ n p c i → suc i ≡ n → set c i 0 ≡ removed c₀ n p
  leaving_end {c} {i} e q =
      let t = removed c₀ n p in
      let in_t : i < length t = omega (arith, length_removed c₀ n p hp hn) in
      ap (λ (x : List ℕ). set x i 0) e.same
      ∙ (ap (set (blend i t c₀) i) (sym (removed_free c₀ n p hp hn i q))
      ∙ (blend_set i t c₀ in_t (omega arith)
      ∙ (ap (λ (k : ℕ). blend k t c₀) (add-one i ∙ q) ∙ blend_tail n t c₀ (removed_rest c₀ n p hp hn))))
