-- What the operation over the records promises, from what its core over two plain tables of fixed room does.
-- Assumes nothing.
use Rattle.std.specs.Prelude.{◌≡◌, refl, List, ℕ, ◌≤◌, ◌<◌, length, take}
use Rattle.std.proofs.Common.{sym, ap, ap₂, subst, ◌∙◌, inl, append-nil, arith, drop_of_length-le, take_all}
use Rattle.std.proofs.Math.Decide.{dec_lt}
use Rattle.std.proofs.lemmas.List.{length-replicate}
use Rattle.paper.specs.Numbers.{number, not_valid}
use Rattle.tables.specs.Tables.{Tables, tables, edge_room_of}
use Rattle.edges.specs.Edges.{targets_of, nexts_of, lent, onto, common, taken_targets, taken_nexts, packed, local_room, blank}
use Rattle.edges.specs.EdgesLaws.{targets_long, nexts_long, take_onto, onto_long, packed_targets, packed_nexts, pack_after_unpack}
use Rattle.edges.specs.declared.Edge.{Edge}
use Rattle.edges.specs.Told.{cut, Beyond, OverFirst, AskedOverFirst}

same_tables : {hs hs' ns ns' ts ts' xs xs' cs cs' us us' : List ℕ} → hs ≡ hs' → ns ≡ ns' → ts ≡ ts' → xs ≡ xs' → cs ≡ cs' → us ≡ us' → tables hs ns ts xs cs us ≡ tables hs' ns' ts' xs' cs' us'
same_tables a b c d e f = rw (a, b, c, d, e, f)

-- ---- from the core to the operation

module _ (room : ℕ) (blank : List ℕ) (long : length blank ≡ room) (es : List Edge) where
  abbrev ts : List ℕ
  ts = taken_targets es blank blank

  abbrev xs : List ℕ
  xs = taken_nexts es blank blank

  targets_room : length ts ≡ room
  targets_room = onto_long (common es blank blank) (targets_of es) blank (let l = targets_long es in omega arith) (omega arith) ∙ long

  nexts_room : length xs ≡ room
  nexts_room = onto_long (common es blank blank) (nexts_of es) blank (let l = nexts_long es in omega arith) (omega arith) ∙ long

  module _ (fits : length es ≤ room) where
    all : common es blank blank ≡ length es
    all = omega arith

    targets_whole : take (length es) ts ≡ targets_of es
    targets_whole =
        ap (λ (m : ℕ). take (length es) (onto m (targets_of es) blank)) all
        ∙ take_onto (length es) (targets_of es) blank (let l = targets_long es in omega arith) ∙ take_all (length es) (targets_of es) (let l = targets_long es in omega arith)

    nexts_whole : take (length es) xs ≡ nexts_of es
    nexts_whole =
        ap (λ (m : ℕ). take (length es) (onto m (nexts_of es) blank)) all
        ∙ take_onto (length es) (nexts_of es) blank (let l = nexts_long es in omega arith) ∙ take_all (length es) (nexts_of es) (let l = nexts_long es in omega arith)

    -- the first edges of the two local tables are the records
    cut_lent : (hs ns cs us : List ℕ) → cut (length es) (tables hs ns ts xs cs us) ≡ lent hs ns es cs us
    cut_lent hs ns cs us = same_tables refl refl targets_whole nexts_whole refl refl

    module _ (ts' xs' : List ℕ) (lt : length ts' ≡ room) (lx : length xs' ≡ room) where
      every : common es ts' xs' ≡ length es
      every = omega arith

      packed_whole : (l : List ℕ) (ss : List ℕ) → length ss ≡ length es → onto (length es) l ss ≡ take (length es) l
      packed_whole l ss e = rw (drop_of_length-le ss {i = length es} (omega arith)) (append-nil (take (length es) l))

      -- and once they are packed again the records are those
      cut_packed : (hs ns cs us : List ℕ) → cut (length es) (tables hs ns ts' xs' cs us) ≡ lent hs ns (packed ts' xs' es) cs us
      cut_packed hs ns cs us = same_tables refl refl
          (sym (packed_targets ts' xs' es ∙ ap (λ (m : ℕ). onto m ts' (targets_of es)) every ∙ packed_whole ts' (targets_of es) (targets_long es)))
          (sym (packed_nexts ts' xs' es ∙ ap (λ (m : ℕ). onto m xs' (nexts_of es)) every ∙ packed_whole xs' (nexts_of es) (nexts_long es)))
          refl refl

  -- an operation that changes the tables
  pub told_lent : (R : Tables → ℕ → Tables → Type 0) → ((t : Tables) → room < edge_room_of t → R t (number not_valid) t)
      → (r : ℕ) (hs ns cs us hs' ns' ts' xs' cs' us' : List ℕ) (es' : List Edge) → length ts' ≡ room → length xs' ≡ room → es' ≡ packed ts' xs' es
      → OverFirst R (length es) (tables hs ns ts xs cs us) r (tables hs' ns' ts' xs' cs' us') → R (lent hs ns es cs us) r (lent hs' ns' es' cs' us')
  told_lent R refuse r hs ns cs us hs' ns' ts' xs' cs' us' es' lt lx p c = elim (dec_lt room (length es)) [
    | yes l ↦ (
        let o = c.beyond (inl (let g = targets_room in omega arith)) in
        let same : es' ≡ es = p ∙ ap₂ (λ (a b : List ℕ). packed a b es) (ap (λ (t : Tables). t.targets) o.1) (ap (λ (t : Tables). t.nexts) o.1) ∙ pack_after_unpack es blank blank in
        let q : lent hs ns es cs us ≡ lent hs' ns' es' cs' us' = sym (same_tables (ap (λ (t : Tables). t.hashes) o.1) (ap (λ (t : Tables). t.nodes) o.1) (ap targets_of same) (ap nexts_of same) (ap (λ (t : Tables). t.clocks) o.1) (ap (λ (t : Tables). t.counts) o.1)) in
        subst (λ (n : ℕ). R (lent hs ns es cs us) n (lent hs' ns' es' cs' us')) (sym o.0) (subst (λ (t : Tables). R (lent hs ns es cs us) (number not_valid) t) q (refuse (lent hs ns es cs us) (let g = targets_long es in omega arith)))
        )
    | no l ↦ (
        let f : length es ≤ room = omega arith in
        let w = c.within (let g = targets_room in omega arith) (let g = nexts_room in omega arith) in
        let b : cut (length es) (tables hs' ns' ts' xs' cs' us') ≡ lent hs' ns' es' cs' us' = cut_packed f ts' xs' lt lx hs' ns' cs' us' ∙ ap (λ (l : List Edge). lent hs' ns' l cs' us') (sym p) in
        subst (λ (t : Tables). R t r (lent hs' ns' es' cs' us')) (cut_lent f hs ns cs us) (subst (λ (t : Tables). R (cut (length es) (tables hs ns ts xs cs us)) r t) b w)
        )
  ]

  -- one that changes other lent memory too: its core says beside what becomes of that where there is no room for the edges
  pub told_beside : (R : Tables → ℕ → Tables → Type 0) (refused : Type 0) → ((t : Tables) → room < edge_room_of t → refused → R t (number not_valid) t)
      → (r : ℕ) (hs ns cs us hs' ns' ts' xs' cs' us' : List ℕ) (es' : List Edge) → length ts' ≡ room → length xs' ≡ room → es' ≡ packed ts' xs' es
      → OverFirst R (length es) (tables hs ns ts xs cs us) r (tables hs' ns' ts' xs' cs' us') × (Beyond (length es) (tables hs ns ts xs cs us) → refused) → R (lent hs ns es cs us) r (lent hs' ns' es' cs' us')
  told_beside R refused refuse r hs ns cs us hs' ns' ts' xs' cs' us' es' lt lx p c =
      told_lent (λ (t : Tables) (m : ℕ) (t' : Tables). (room < edge_room_of t → refused) → R t m t') (λ t l w. refuse t l (w l)) r hs ns cs us hs' ns' ts' xs' cs' us' es' lt lx p
      (record { within = λ a b _. c.0.within a b; rest_targets = c.0.rest_targets; rest_nexts = c.0.rest_nexts; beyond = c.0.beyond })
      (λ l. c.1 (inl (let g = targets_room in let h = targets_long es in omega arith)))

  -- a question
  pub asked_lent : (Q : Tables → Type 0) (refused : Type 0) (hs ns cs us : List ℕ) → (room < edge_room_of (lent hs ns es cs us) → refused → Q (lent hs ns es cs us))
      → AskedOverFirst Q refused (length es) (tables hs ns ts xs cs us) → Q (lent hs ns es cs us)
  asked_lent Q refused hs ns cs us refuse c = elim (dec_lt room (length es)) [
    | yes l ↦ refuse (let g = targets_long es in omega arith) (c.beyond (inl (let g = targets_room in omega arith)))
    | no l ↦ subst Q (cut_lent (omega arith) hs ns cs us) (c.within (let g = targets_room in omega arith) (let g = nexts_room in omega arith))
  ]

-- ---- the same over what unpacking the records into two blank tables leaves

abbrev pub Unpacked : List Edge → List ℕ → List ℕ → Type 0
Unpacked es ts xs = (ts ≡ taken_targets es blank blank) × (xs ≡ taken_nexts es blank blank)

blank_long : length blank ≡ local_room
blank_long = length-replicate {A = ℕ} local_room 0

module _ (es : List Edge) {ts xs : List ℕ} where
  -- a fact of what unpacking left
  taken : (P : List ℕ → List ℕ → Type 0) → Unpacked es ts xs → P ts xs → P (taken_targets es blank blank) (taken_nexts es blank blank)
  taken P u c = subst (λ (l : List ℕ). P l (taken_nexts es blank blank)) u.0 (subst (λ (l : List ℕ). P ts l) u.1 c)

  pub asked_of : (hs ns cs us : List ℕ) {Q : Tables → Type 0} {refused : Type 0} → Unpacked es ts xs → AskedOverFirst Q refused (length es) (tables hs ns ts xs cs us)
      → (local_room < edge_room_of (lent hs ns es cs us) → refused → Q (lent hs ns es cs us)) → Q (lent hs ns es cs us)
  asked_of hs ns cs us {Q} {refused} u c refuse =
      asked_lent local_room blank blank_long es Q refused hs ns cs us refuse (taken (λ (ls ls' : List ℕ). AskedOverFirst Q refused (length es) (tables hs ns ls ls' cs us)) u c)

  module _ (R : Tables → ℕ → Tables → Type 0) (r : ℕ) (hs ns cs us hs' ns' ts' xs' cs' us' : List ℕ) {es' : List Edge} where
    pub told_of : Unpacked es ts xs → length ts' ≡ local_room → length xs' ≡ local_room → es' ≡ packed ts' xs' es → OverFirst R (length es) (tables hs ns ts xs cs us) r (tables hs' ns' ts' xs' cs' us')
        → ((t : Tables) → local_room < edge_room_of t → R t (number not_valid) t) → R (lent hs ns es cs us) r (lent hs' ns' es' cs' us')
    told_of u lt lx p c refuse =
        told_lent local_room blank blank_long es R refuse r hs ns cs us hs' ns' ts' xs' cs' us' es' lt lx p
        (taken (λ (ls ls' : List ℕ). OverFirst R (length es) (tables hs ns ls ls' cs us) r (tables hs' ns' ts' xs' cs' us')) u c)

    pub beside_of : {refused : Type 0} → Unpacked es ts xs → length ts' ≡ local_room → length xs' ≡ local_room → es' ≡ packed ts' xs' es
        → OverFirst R (length es) (tables hs ns ts xs cs us) r (tables hs' ns' ts' xs' cs' us') × (Beyond (length es) (tables hs ns ts xs cs us) → refused)
        → ((t : Tables) → local_room < edge_room_of t → refused → R t (number not_valid) t) → R (lent hs ns es cs us) r (lent hs' ns' es' cs' us')
    beside_of {refused} u lt lx p c refuse =
        told_beside local_room blank blank_long es R refused refuse r hs ns cs us hs' ns' ts' xs' cs' us' es' lt lx p
        (taken (λ (ls ls' : List ℕ). OverFirst R (length es) (tables hs ns ls ls' cs us) r (tables hs' ns' ts' xs' cs' us') × (Beyond (length es) (tables hs ns ls ls' cs us) → refused)) u c)
