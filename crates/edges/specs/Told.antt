-- An operation over the records, by way of two plain tables of fixed room of which the first e edges are in use.
-- What is promised of them. That the operation then promises the same of the tables that the records are stands in proofs/Told.antt.
-- Assumes nothing.
use Rattle.std.specs.Prelude.{◌≡◌, refl, ◌⊎◌, List, [], ◌∷◌, ◌++◌, ℕ, ◌≤◌, ◌<◌, length, take, drop}
use Rattle.std.proofs.Common.{sym, ap, subst, ⊎_elim, arith}
use Rattle.paper.specs.Numbers.{number, not_valid}
use Rattle.tables.specs.Tables.{Tables, tables, edge_room_of}
use Rattle.tables.specs.Valid.{Lengths, Valid}

-- the tables with their first e edges alone
abbrev pub cut : ℕ → Tables → Tables
cut e t = tables t.hashes t.nodes (take e t.targets) (take e t.nexts) t.clocks t.counts

-- a table has no room for e edges
abbrev pub Beyond : ℕ → Tables → Type 0
Beyond e t = (length t.targets < e) ⊎ (length t.nexts < e)

-- R, of the tables before, the number and the tables after, holds of the first e edges, and what lies past them stays.
-- Where a table has no room for e edges the number is 1 and nothing changes
pub record OverFirst (R : Tables → ℕ → Tables → Type 0) (e : ℕ) (t : Tables) (r : ℕ) (t' : Tables) : Type 0 where
  pub within : e ≤ length t.targets → e ≤ length t.nexts → R (cut e t) r (cut e t')
  pub rest_targets : drop e t'.targets ≡ drop e t.targets
  pub rest_nexts : drop e t'.nexts ≡ drop e t.nexts
  pub beyond : (length t.targets < e) ⊎ (length t.nexts < e) → (r ≡ number not_valid) × (t' ≡ t)

-- the same of a question, which changes no table: Q holds of the first e edges, and where a table has no room for them the refusal holds
pub record AskedOverFirst (Q : Tables → Type 0) (refused : Type 0) (e : ℕ) (t : Tables) : Type 0 where
  pub within : e ≤ length t.targets → e ≤ length t.nexts → Q (cut e t)
  pub beyond : (length t.targets < e) ⊎ (length t.nexts < e) → refused

same_tables : {hs hs' ns ns' ts ts' xs xs' cs cs' us us' : List ℕ} → hs ≡ hs' → ns ≡ ns' → ts ≡ ts' → xs ≡ xs' → cs ≡ cs' → us ≡ us' → tables hs ns ts xs cs us ≡ tables hs' ns' ts' xs' cs' us'
same_tables a b c d e f = rw (a, b, c, d, e, f)

take_left : (l k : List ℕ) → take (length l) (l ++ k) ≡ l
take_left [] k = refl
take_left (x ∷ l) k = ap (λ (r : List ℕ). x ∷ r) (take_left l k)

drop_left : (l k : List ℕ) → drop (length l) (l ++ k) ≡ k
drop_left [] k = refl
drop_left (x ∷ l) k = drop_left l k

-- ---- operations that check what is lent

-- where P holds of the tables the number is n of them and they become new of them; else the number is 1 and nothing changes
pub record Checked (P : Tables → Type 0) (n : Tables → ℕ) (new : Tables → Tables) (t : Tables) (r : ℕ) (t' : Tables) : Type 0 where
  pub met : P t → (r ≡ n t) × (t' ≡ new t)
  pub unmet : (P t → ⊥) → (r ≡ number not_valid) × (t' ≡ t)

-- the same of a question: where P holds of the tables so does Q, and else the refusal holds
pub record Answered (P Q : Tables → Type 0) (refused : Type 0) (t : Tables) : Type 0 where
  pub met : P t → Q t
  pub unmet : (P t → ⊥) → refused

-- P bounds the edges
abbrev pub Bounding : (Tables → Type 0) → Type 0
Bounding P = (t : Tables) → P t → edge_room_of t ≤ 16384

pub valid_bounding : Bounding Valid
valid_bounding t v = v.sound.lengths.edges_limit

pub lengths_bounding : Bounding Lengths
lengths_bounding t v = v.edges_limit

module _ (P : Tables → Type 0) (bounding : Bounding P) (t : Tables) (l : 16384 < edge_room_of t) where
  too_many : P t → ⊥
  too_many v = let b = bounding t v in omega arith

  -- on too many edges the number 1 is right
  pub checked_refused : (n : Tables → ℕ) (new : Tables → Tables) (r : ℕ) (t' : Tables) → (r ≡ number not_valid) × (t' ≡ t) → Checked P n new t r t'
  checked_refused n new r t' o = record { met = λ v. absurd (too_many v); unmet = λ _. o }

  pub answered_refused : (Q : Tables → Type 0) (refused : Type 0) → refused → Answered P Q refused t
  answered_refused Q refused o = record { met = λ v. absurd (too_many v); unmet = λ _. o }

-- ---- how a promise over the first e edges is kept: the first e of each table are handed on

module _ (R : Tables → ℕ → Tables → Type 0) (e : ℕ) where
  pub told_none : (t : Tables) → (length t.targets < e) ⊎ (length t.nexts < e) → OverFirst R e t (number not_valid) t
  told_none t o = record {
    within = λ a b. absurd (⊎_elim (λ (l : length t.targets < e). beyond_all a l) (λ (l : length t.nexts < e). beyond_all b l) o);
    rest_targets = refl;
    rest_nexts = refl;
    beyond = λ _. (refl, refl);
  }
    where
      beyond_all : {m : ℕ} → e ≤ m → m < e → ⊥
      beyond_all a l = omega arith

  module _ (ts xs ts' xs' : List ℕ) (a : e ≤ length ts) (b : e ≤ length xs) (lt : length ts' ≡ e) (lx : length xs' ≡ e) where
    take_part : (l k : List ℕ) → length l ≡ e → take e (l ++ k) ≡ l
    take_part l k q = subst (λ (n : ℕ). take n (l ++ k) ≡ l) q (take_left l k)

    drop_part : (l k : List ℕ) → length l ≡ e → drop e (l ++ k) ≡ k
    drop_part l k q = subst (λ (n : ℕ). drop n (l ++ k) ≡ k) q (drop_left l k)

    pub told_part : (hs ns cs us hs' ns' cs' us' : List ℕ) (r : ℕ) → R (tables hs ns (take e ts) (take e xs) cs us) r (tables hs' ns' ts' xs' cs' us')
        → OverFirst R e (tables hs ns ts xs cs us) r (tables hs' ns' (ts' ++ drop e ts) (xs' ++ drop e xs) cs' us')
    told_part hs ns cs us hs' ns' cs' us' r p = record {
      within = λ _ _. subst (λ (t : Tables). R (tables hs ns (take e ts) (take e xs) cs us) r t) (sym (same_tables refl refl (take_part ts' (drop e ts) lt) (take_part xs' (drop e xs) lx) refl refl)) p;
      rest_targets = drop_part ts' (drop e ts) lt;
      rest_nexts = drop_part xs' (drop e xs) lx;
      beyond = λ o. absurd (⊎_elim (λ (l : length ts < e). out a l) (λ (l : length xs < e). out b l) o);
    }
      where
        out : {m : ℕ} → e ≤ m → m < e → ⊥
        out a l = omega arith

module _ (Q : Tables → Type 0) (refused : Type 0) (e : ℕ) (t : Tables) where
  pub asked_none : (length t.targets < e) ⊎ (length t.nexts < e) → refused → AskedOverFirst Q refused e t
  asked_none o why = record { within = λ a b. absurd (⊎_elim (λ (l : length t.targets < e). out a l) (λ (l : length t.nexts < e). out b l) o); beyond = λ _. why }
    where
      out : {m : ℕ} → e ≤ m → m < e → ⊥
      out a l = omega arith

  pub asked_part : e ≤ length t.targets → e ≤ length t.nexts → Q (cut e t) → AskedOverFirst Q refused e t
  asked_part a b q = record { within = λ _ _. q; beyond = λ o. absurd (⊎_elim (λ (l : length t.targets < e). out a l) (λ (l : length t.nexts < e). out b l) o) }
    where
      out : {m : ℕ} → e ≤ m → m < e → ⊥
      out a l = omega arith
