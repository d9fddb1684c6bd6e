-- Each answer from its condition, and a buffer that is filled piece by piece.
-- Assumes nothing.
use Rattle.std.specs.Prelude.{◌≡◌, refl, List, [], ◌∷◌, ◌++◌, ℕ, ◌+◌, ◌≤◌, ◌<◌, length, drop, Ok, Err}
use Rattle.std.proofs.Common.{sym, ap, ◌∙◌, append_assoc, append-nil, arith, length-append, le-leb, lt-ltb, le-ltb}
use Rattle.std.proofs.lemmas.Bool.{lt-leb}
use Rattle.paper.specs.Graph.{Graph}
use Rattle.paper.specs.Text.{flat}
use Rattle.list_laws.specs.Over.{over, over_over, over_length, over_none}
use Rattle.answer_buffer.specs.Answers.{Listed, list_answer, filled, node_hash, node_hash_filled}
use Rattle.answer_buffer.specs.declared.Refusal.TheVariants.{Short}

pub listed_done : (l : List ℕ) (room : ℕ) → length l ≤ room → list_answer l room ≡ Ok (length l)
unfolding list_answer
listed_done l room h = rw (le-leb _ _ h)

pub listed_short : (l : List ℕ) (room : ℕ) → room < length l → list_answer l room ≡ Err Short
unfolding list_answer
listed_short l room h = rw (lt-leb _ _ h)

pub filled_done : (l out : List ℕ) → length l ≤ length out → filled l out ≡ l ++ drop (length l) out
unfolding filled
filled_done l out h = rw (le-leb _ _ h)

pub filled_short : (l out : List ℕ) → length out < length l → filled l out ≡ out
unfolding filled
filled_short l out h = rw (lt-leb _ _ h)

-- a node's hash
module _ (g : Graph) (k : ℕ) where
  pub node_told : (refusal : Listed) (room : ℕ) → k < g.size → node_hash g k refusal room ≡ list_answer (g.hash k) room
  unfolding node_hash
  node_told refusal room l = rw (lt-ltb k g.size l)

  pub node_refused : (refusal : Listed) (room : ℕ) → g.size ≤ k → node_hash g k refusal room ≡ refusal
  unfolding node_hash
  node_refused refusal room l = rw (le-ltb k g.size l)

  pub node_filled : (out : List ℕ) → k < g.size → node_hash_filled g k out ≡ filled (g.hash k) out
  unfolding node_hash_filled
  node_filled out l = rw (lt-ltb k g.size l)

  pub node_unfilled : (out : List ℕ) → g.size ≤ k → node_hash_filled g k out ≡ out
  unfolding node_hash_filled
  node_unfilled out l = rw (le-ltb k g.size l)

-- ---- hashes one after the other

pub flat_append : (a b : List (List ℕ)) → flat (a ++ b) ≡ flat a ++ flat b
unfolding flat
flat_append [] b = refl
flat_append (h ∷ a) b = ap (λ (r : List ℕ). h ++ r) (flat_append a b) ∙ sym (append_assoc h (flat a) (flat b))

pub flat_one : (h : List ℕ) → flat (h ∷ []) ≡ h
unfolding flat
flat_one h = append-nil h

-- ---- the list l stands in the buffer, and c is how many elements that is

pub record Holds (l out₀ out : List ℕ) (c : ℕ) : Type 0 where
  pub same : out ≡ over out₀ 0 l
  pub long : c ≡ length l
  pub kept : length out ≡ length out₀

pub holds_start : (out : List ℕ) → Holds [] out out 0
holds_start out = record { same = sym (over_none out 0); long = refl; kept = refl }

-- one more piece
pub holds_next : {l out₀ out : List ℕ} {c : ℕ} → Holds l out₀ out c → (p : List ℕ) (n : ℕ) → length p ≡ n → c + n ≤ length out₀ → Holds (l ++ p) out₀ (over out c p) (c + n)
holds_next {l} {out₀} {out} {c} h p n e fits =
    let w = h.long in
    record {
      same = ap (λ (d : List ℕ). over d c p) h.same ∙ ap (λ (i : ℕ). over (over out₀ 0 l) i p) (w ∙ zeroed) ∙ over_over out₀ 0 l p (omega arith);
      long = (let a = length-append l p in omega arith);
      kept = over_length out c p (let k = h.kept in omega arith) ∙ h.kept;
    }
  where
    zeroed : length l ≡ 0 + length l
    zeroed = omega arith

-- the same by another name
pub holds_as : {l out₀ out : List ℕ} {c : ℕ} → Holds l out₀ out c → (m : List ℕ) → l ≡ m → Holds m out₀ out c
holds_as {l} {out₀} {out} {c} h m e = rw e at h

pub over_front : (l out : List ℕ) → over out 0 l ≡ l ++ drop (length l) out
unfolding over
over_front l out = let e : 0 + length l ≡ length l = omega arith in rw e

-- at the end
pub holds_whole : {l out₀ out : List ℕ} {c : ℕ} → Holds l out₀ out c → length l ≤ length out₀ → out ≡ filled l out₀
holds_whole {l} {out₀} h fits = h.same ∙ over_front l out₀ ∙ sym (filled_done l out₀ fits)

pub holds_told : {l out₀ out : List ℕ} {c : ℕ} → Holds l out₀ out c → length l ≤ length out₀ → Ok c ≡ list_answer l (length out₀)
holds_told {l} {out₀} h fits = ap Ok h.long ∙ sym (listed_done l (length out₀) fits)
