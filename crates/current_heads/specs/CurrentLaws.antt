-- The scans of `heads_are_current` put together, and what its answer says.
-- Assumes nothing.
use Rattle.std.specs.Prelude.{◌≡◌, refl, ◌↔◌, Bool, true, false, ◌&&◌, ◌||◌, List, map, ℕ, zero, suc, ◌/◌, ◌%◌, length, Some, None, Option}
use Rattle.std.proofs.Math.Path.{sym, ap, ap₂}
use Rattle.std.proofs.Common.{◌∙◌, eq-eqb, ne_eqb}
use Rattle.std.proofs.Math.Bool.{not}
use Rattle.paper.specs.Lists.{hash_at, names, hashes_from, hashes_of, same_list, some_below, all_below, ascending}
use Rattle.paper.specs.Graph.{Graph, heads, head_nodes, wanted}
use Rattle.paper.specs.Loading.{same_hashes}
use Rattle.paper.proofs.Bools.{by_bool, some_ext}
use Rattle.paper.proofs.Scans.{all_ext}
use Rattle.paper.proofs.Naming.{names_heads, every_head, every_bytes}
use Rattle.paper.proofs.Ascending.{ascending_names}
use Rattle.hash.specs.Hash.{same_hash, find_from, find_hash}
use Rattle.tables.specs.Tables.{Tables, changes, head_at, graph}
use Rattle.tables.specs.Valid.{Valid}
use Rattle.heads.specs.HeadLaws.{flag_says}
use Rattle.current_heads.specs.Current.{current, current_told, head_is, head_named}
use Rattle.current_heads.specs.Ascents.{NamesSame, same_names, ascending_same}
use Rattle.answer_buffer.specs.declared.Refusal.TheVariants.{Malformed}
use Rattle.std.specs.Prelude.{Ok, Err}
use Rattle.std.specs.Option.{is_some}

-- ---- the tests of one node, from its flag

module _ (hs ns : List ℕ) (k : ℕ) where
  pub no_head : (head_at ns k ≡ 1 → ⊥) → (h : List ℕ) → false ≡ head_is hs ns h k
  no_head n h = rw (ne_eqb (head_at ns k) 1 n)

  pub head_hash : head_at ns k ≡ 1 → (h : List ℕ) → same_list (hash_at hs k) h ≡ head_is hs ns h k
  head_hash e h = rw (eq-eqb (head_at ns k) 1 e)

  pub none_to_name : (head_at ns k ≡ 1 → ⊥) → (bytes : List ℕ) → true ≡ head_named hs ns bytes k
  none_to_name n bytes = rw (ne_eqb (head_at ns k) 1 n)

  pub one_to_name : head_at ns k ≡ 1 → (bytes : List ℕ) → names (hash_at hs k) (hashes_of bytes) ≡ head_named hs ns bytes k
  one_to_name e bytes = rw (eq-eqb (head_at ns k) 1 e)

-- ---- a search in a list of hashes says whether it names the hash

abbrev pub found : Option ℕ → Bool
found (Some k) = true
found None = false

pub found_is : (o : Option ℕ) → is_some o ≡ found o
found_is (Some k) = refl
found_is None = refl

pub find_names : (bytes h : List ℕ) (left i : ℕ) → found (find_from bytes h left i) ≡ names h (hashes_from bytes left i)
unfolding find_from same_hash names hashes_from
find_names bytes h zero i = refl
find_names bytes h (suc left) i = by_bool (same_list (hash_at bytes i) h) (λ t. rw t) (λ f. rw f (find_names bytes h left (suc i)))

pub find_listed : (bytes h : List ℕ) → found (find_hash bytes (length bytes / 32) h) ≡ names h (hashes_of bytes)
unfolding find_hash hashes_of
find_listed bytes h = find_names bytes h (length bytes / 32) 0

-- ---- the two scans are the definition

module _ (t : Tables) (v : Valid t) where
  pub listed_heads : (h : List ℕ) → some_below (head_is t.hashes t.nodes h) (changes t) ≡ names h (heads (graph t))
  listed_heads h =
      some_ext (head_is t.hashes t.nodes h) (λ k. not (wanted (graph t) k) && same_list (hash_at t.hashes k) h) (changes t)
      (λ k l. ap (λ (b : Bool). b && same_list (hash_at t.hashes k) h) (flag_says t v k l))
      ∙ sym (names_heads (graph t) h)

  pub current_is : (bytes : List ℕ)
      → (all_below (λ i. some_below (head_is t.hashes t.nodes (hash_at bytes i)) (changes t)) (length bytes / 32) && all_below (head_named t.hashes t.nodes bytes) (changes t)) ≡ current (graph t) bytes
  unfolding current same_hashes
  current_is bytes =
      ap₂ (λ (a b : Bool). a && b)
      (all_ext (λ i. some_below (head_is t.hashes t.nodes (hash_at bytes i)) (changes t)) (λ i. names (hash_at bytes i) (heads (graph t))) (length bytes / 32) (λ i l. listed_heads (hash_at bytes i))
      ∙ sym (every_bytes bytes (λ h. names h (heads (graph t)))))
      (all_ext (head_named t.hashes t.nodes bytes) (λ k. not (not (wanted (graph t) k)) || names (hash_at t.hashes k) (hashes_of bytes)) (changes t)
      (λ k l. ap (λ (b : Bool). not b || names (hash_at t.hashes k) (hashes_of bytes)) (flag_says t v k l))
      ∙ sym (every_head (graph t) (λ h. names h (hashes_of bytes))))

  -- the scans' answers, one after the other
  module _ (bytes : List ℕ) where
    abbrev listed_right : Bool
    listed_right = all_below (λ i. some_below (head_is t.hashes t.nodes (hash_at bytes i)) (changes t)) (length bytes / 32)

    abbrev heads_named : Bool
    heads_named = all_below (head_named t.hashes t.nodes bytes) (changes t)

    pub listed_wrong : all_below (λ i. some_below (head_is t.hashes t.nodes (hash_at bytes i)) (changes t)) (length bytes / 32) ≡ false → current (graph t) bytes ≡ false
    listed_wrong e = sym (current_is bytes) ∙ ap (λ (b : Bool). b && heads_named) e

    pub heads_decide : all_below (λ i. some_below (head_is t.hashes t.nodes (hash_at bytes i)) (changes t)) (length bytes / 32) ≡ true → current (graph t) bytes ≡ all_below (head_named t.hashes t.nodes bytes) (changes t)
    heads_decide e = sym (current_is bytes) ∙ ap (λ (b : Bool). b && heads_named) e

-- ---- each answer from its condition

module _ (g : Graph) (bytes : List ℕ) where
  pub told_malformed : (length bytes % 32 ≡ 0 → ⊥) → current_told g bytes ≡ Err Malformed
  unfolding current_told
  told_malformed n = rw (ne_eqb (length bytes % 32) 0 n)

  pub told_current : length bytes % 32 ≡ 0 → Ok (current g bytes) ≡ current_told g bytes
  unfolding current_told
  told_current e = rw (eq-eqb (length bytes % 32) 0 e)

  pub told_yes : length bytes % 32 ≡ 0 → current g bytes ≡ true → current_told g bytes ≡ Ok true
  unfolding current_told
  told_yes e c = rw (eq-eqb (length bytes % 32) 0 e, c)

  pub told_no : length bytes % 32 ≡ 0 → current g bytes ≡ false → current_told g bytes ≡ Ok false
  unfolding current_told
  told_no e c = rw (eq-eqb (length bytes % 32) 0 e, c)

-- ---- what yes says

-- a list is current exactly if it and the heads name the same hashes
pub current_names : (g : Graph) (bytes : List ℕ) → (current g bytes ≡ true) ↔ NamesSame (hashes_of bytes) (heads g)
unfolding current
current_names g bytes = same_names (hashes_of bytes) (heads g)

-- and exactly if its ascending list is the list of the heads
pub current_ascending : (g : Graph) (bytes : List ℕ) → (current g bytes ≡ true) ↔ (ascending (hashes_of bytes) ≡ heads g)
unfolding heads
current_ascending g bytes = (
  (λ t. ascending_same (hashes_of bytes) (map g.hash (head_nodes g)) (λ h. (current_names g bytes).0 t h ∙ ascending_names h (map g.hash (head_nodes g)))),
  (λ e. (current_names g bytes).1 (λ h. sym (ascending_names h (hashes_of bytes)) ∙ ap (names h) e)),
)
