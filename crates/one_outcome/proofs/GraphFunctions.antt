-- The C functions over a graph: two outcomes that meet a function's promise for the same input are one. Compared are the number, every table that is lent by `&mut`, the
-- answer buffer and every told place; what is lent by `&` cannot change. Each theorem is named after its function and takes the promise as its `ensures` has it.
-- Assumes nothing.
use Rattle.std.specs.Prelude.{◌≡◌, List, ℕ}
use Rattle.std.proofs.Common.{ap}
use Rattle.columns.specs.Columns.{columns}
use Rattle.tables.specs.Tables.{Tables}
use Rattle.judge.specs.Judge.{change}
use Rattle.edges.specs.Edges.{lent}
use Rattle.edges.specs.declared.Edge.{Edge}
use Rattle.hub_open.specs.Operations.{Opened}
use Rattle.hub_add.specs.Operations.{Added}
use Rattle.hub_actors.specs.Operations.{Inserted, Removed}
use Rattle.hub_load.specs.Operations.{Loaded}
use Rattle.hub_forget.specs.Operations.{Forgot}
use Rattle.hub_list_clock.specs.Operations.{ClockOf}
use Rattle.hub_op_clock.specs.Operations.{ClockAt}
use Rattle.hub_missing.specs.Operations.{MissingFrom}
use Rattle.hub_owner.specs.Operations.{OwnerOf}
use Rattle.hub_heads.specs.Operations.{HeadsOf, HeadIndexes}
use Rattle.hub_hashes.specs.Operations.{IndexToHash, HashForActorSeq}
use Rattle.hub_deps.specs.Operations.{DepsForHash}
use Rattle.hub_ancestors.specs.Operations.{RemoveAncestors}
use Rattle.hub_lookups.specs.Operations.{HashToIndex, HasChange}
use Rattle.hub_current_heads.specs.Operations.{HeadsAreCurrent}
use Rattle.hub_counts.specs.Operations.{SeqForActor, MaxOpForActor, MaxOp}
use Rattle.hub_sizes.specs.Operations.{Len, NumActors, ActorIds}
use Rattle.hub_chained.specs.Operations.{IsChained}
use Rattle.one_outcome.specs.Shapes.{checked_once, lent_once, added_once, asks_once}
use Rattle.one_outcome.proofs.Tells.{tells_once}

-- the graph that is lent
module _ (hashes nodes : List ℕ) (edges : List Edge) (clocks counts : List ℕ) where
  -- ---- operations that change the tables

  pub cg_open_once : (actors r' : ℕ) (counts' : List ℕ) (r'' : ℕ) (counts'' : List ℕ)
      → Opened actors r' counts' (lent hashes nodes edges clocks counts) → Opened actors r'' counts'' (lent hashes nodes edges clocks counts)
      → (r' ≡ r'') × (counts' ≡ counts'')
  cg_open_once actors r' counts' r'' counts'' p q = let e = checked_once p q in (e.0, ap (λ (t : Tables). t.counts) e.1)

  pub cg_add_once : (hash : List ℕ) (actor seq max ops : ℕ) (deps unknown : List ℕ) (r' : ℕ) (hashes' nodes' : List ℕ) (edges' : List Edge) (clocks' counts' unknown' : List ℕ)
      (r'' : ℕ) (hashes'' nodes'' : List ℕ) (edges'' : List Edge) (clocks'' counts'' unknown'' : List ℕ)
      → Added (change hash actor seq max ops deps) unknown unknown' (lent hashes nodes edges clocks counts) r' (lent hashes' nodes' edges' clocks' counts')
      → Added (change hash actor seq max ops deps) unknown unknown'' (lent hashes nodes edges clocks counts) r'' (lent hashes'' nodes'' edges'' clocks'' counts'')
      → (r' ≡ r'') × (hashes' ≡ hashes'') × (nodes' ≡ nodes'') × (edges' ≡ edges'') × (clocks' ≡ clocks'') × (counts' ≡ counts'') × (unknown' ≡ unknown'')
  cg_add_once hash actor seq max ops deps unknown r' hashes' nodes' edges' clocks' counts' unknown' r'' hashes'' nodes'' edges'' clocks'' counts'' unknown'' p q =
      let e = added_once p q in
      let l = lent_once edges' edges'' e.1 in
      (e.0, l.0, l.1, l.2, l.3, l.4, e.2)

  pub cg_insert_actor_once : (place r' : ℕ) (nodes' clocks' counts' : List ℕ) (r'' : ℕ) (nodes'' clocks'' counts'' : List ℕ)
      → Inserted place r' nodes' clocks' counts' (lent hashes nodes edges clocks counts) → Inserted place r'' nodes'' clocks'' counts'' (lent hashes nodes edges clocks counts)
      → (r' ≡ r'') × (nodes' ≡ nodes'') × (clocks' ≡ clocks'') × (counts' ≡ counts'')
  cg_insert_actor_once place r' nodes' clocks' counts' r'' nodes'' clocks'' counts'' p q =
      let e = checked_once p q in
      (e.0, ap (λ (t : Tables). t.nodes) e.1, ap (λ (t : Tables). t.clocks) e.1, ap (λ (t : Tables). t.counts) e.1)

  pub cg_remove_actor_once : (place r' : ℕ) (nodes' clocks' counts' : List ℕ) (r'' : ℕ) (nodes'' clocks'' counts'' : List ℕ)
      → Removed place r' nodes' clocks' counts' (lent hashes nodes edges clocks counts) → Removed place r'' nodes'' clocks'' counts'' (lent hashes nodes edges clocks counts)
      → (r' ≡ r'') × (nodes' ≡ nodes'') × (clocks' ≡ clocks'') × (counts' ≡ counts'')
  cg_remove_actor_once place r' nodes' clocks' counts' r'' nodes'' clocks'' counts'' p q =
      let e = checked_once p q in
      (e.0, ap (λ (t : Tables). t.nodes) e.1, ap (λ (t : Tables). t.clocks) e.1, ap (λ (t : Tables). t.counts) e.1)

  pub cg_load_once : (ids actors seqs maxes ops deps values heads : List ℕ) (count : ℕ) (r' : ℕ) (hashes' nodes' : List ℕ) (edges' : List Edge) (clocks' counts' : List ℕ)
      (r'' : ℕ) (hashes'' nodes'' : List ℕ) (edges'' : List Edge) (clocks'' counts'' : List ℕ)
      → Loaded (columns ids actors seqs maxes ops deps values heads count) (lent hashes nodes edges clocks counts) r' (lent hashes' nodes' edges' clocks' counts')
      → Loaded (columns ids actors seqs maxes ops deps values heads count) (lent hashes nodes edges clocks counts) r'' (lent hashes'' nodes'' edges'' clocks'' counts'')
      → (r' ≡ r'') × (hashes' ≡ hashes'') × (nodes' ≡ nodes'') × (edges' ≡ edges'') × (clocks' ≡ clocks'') × (counts' ≡ counts'')
  cg_load_once ids actors seqs maxes ops deps values heads count r' hashes' nodes' edges' clocks' counts' r'' hashes'' nodes'' edges'' clocks'' counts'' p q =
      let e = checked_once p q in
      let l = lent_once edges' edges'' e.1 in
      (e.0, l.0, l.1, l.2, l.3, l.4)

  pub cg_forget_once : (r' : ℕ) (clocks' : List ℕ) (r'' : ℕ) (clocks'' : List ℕ) → Forgot r' clocks' (lent hashes nodes edges clocks counts) → Forgot r'' clocks'' (lent hashes nodes edges clocks counts) → (r' ≡ r'') × (clocks' ≡ clocks'')
  cg_forget_once r' clocks' r'' clocks'' p q = let e = checked_once p q in (e.0, ap (λ (t : Tables). t.clocks) e.1)

  -- ---- questions with an answer buffer

  module _ (out told : List ℕ) (r' : ℕ) (out' told' : List ℕ) (r'' : ℕ) (out'' told'' : List ℕ) where
    pub cg_clock_of_once : (list : List ℕ) → ClockOf list out told r' out' told' (lent hashes nodes edges clocks counts) → ClockOf list out told r'' out'' told'' (lent hashes nodes edges clocks counts) → (r' ≡ r'') × (out' ≡ out'') × (told' ≡ told'')
    cg_clock_of_once list p q = asks_once p q

    pub cg_clock_at_once : (list : List ℕ) → ClockAt list out told r' out' told' (lent hashes nodes edges clocks counts) → ClockAt list out told r'' out'' told'' (lent hashes nodes edges clocks counts) → (r' ≡ r'') × (out' ≡ out'') × (told' ≡ told'')
    cg_clock_at_once list p q = asks_once p q

    pub cg_missing_once : (have : List ℕ) → MissingFrom have out told r' out' told' (lent hashes nodes edges clocks counts) → MissingFrom have out told r'' out'' told'' (lent hashes nodes edges clocks counts) → (r' ≡ r'') × (out' ≡ out'') × (told' ≡ told'')
    cg_missing_once have p q = asks_once p q

    pub cg_owner_once : (actor counter : ℕ) → OwnerOf actor counter out told r' out' told' (lent hashes nodes edges clocks counts) → OwnerOf actor counter out told r'' out'' told'' (lent hashes nodes edges clocks counts) → (r' ≡ r'') × (out' ≡ out'') × (told' ≡ told'')
    cg_owner_once actor counter p q = asks_once p q

    pub cg_heads_once : HeadsOf out told r' out' told' (lent hashes nodes edges clocks counts) → HeadsOf out told r'' out'' told'' (lent hashes nodes edges clocks counts) → (r' ≡ r'') × (out' ≡ out'') × (told' ≡ told'')
    cg_heads_once p q = asks_once p q

    pub cg_head_indexes_once : HeadIndexes out told r' out' told' (lent hashes nodes edges clocks counts) → HeadIndexes out told r'' out'' told'' (lent hashes nodes edges clocks counts) → (r' ≡ r'') × (out' ≡ out'') × (told' ≡ told'')
    cg_head_indexes_once p q = asks_once p q

    pub cg_index_to_hash_once : (index : ℕ) → IndexToHash index out told r' out' told' (lent hashes nodes edges clocks counts) → IndexToHash index out told r'' out'' told'' (lent hashes nodes edges clocks counts) → (r' ≡ r'') × (out' ≡ out'') × (told' ≡ told'')
    cg_index_to_hash_once index p q = asks_once p q

    pub cg_get_hash_for_actor_seq_once : (actor seq : ℕ) → HashForActorSeq actor seq out told r' out' told' (lent hashes nodes edges clocks counts) → HashForActorSeq actor seq out told r'' out'' told'' (lent hashes nodes edges clocks counts) → (r' ≡ r'') × (out' ≡ out'') × (told' ≡ told'')
    cg_get_hash_for_actor_seq_once actor seq p q = asks_once p q

    pub cg_deps_for_hash_once : (hash : List ℕ) → DepsForHash hash out told r' out' told' (lent hashes nodes edges clocks counts) → DepsForHash hash out told r'' out'' told'' (lent hashes nodes edges clocks counts) → (r' ≡ r'') × (out' ≡ out'') × (told' ≡ told'')
    cg_deps_for_hash_once hash p q = asks_once p q

    pub cg_remove_ancestors_once : (list heads : List ℕ) → RemoveAncestors list heads out told r' out' told' (lent hashes nodes edges clocks counts) → RemoveAncestors list heads out told r'' out'' told'' (lent hashes nodes edges clocks counts) → (r' ≡ r'') × (out' ≡ out'') × (told' ≡ told'')
    cg_remove_ancestors_once list heads p q = asks_once p q

    pub cg_actor_ids_once : (which : ℕ) → ActorIds which out told r' out' told' (lent hashes nodes edges clocks counts) → ActorIds which out told r'' out'' told'' (lent hashes nodes edges clocks counts) → (r' ≡ r'') × (out' ≡ out'') × (told' ≡ told'')
    cg_actor_ids_once which p q = asks_once p q

  -- ---- questions whose whole answer is what is told

  module _ (told : List ℕ) (r' : ℕ) (told' : List ℕ) (r'' : ℕ) (told'' : List ℕ) where
    pub cg_hash_to_index_once : (hash : List ℕ) → HashToIndex hash told r' told' (lent hashes nodes edges clocks counts) → HashToIndex hash told r'' told'' (lent hashes nodes edges clocks counts) → (r' ≡ r'') × (told' ≡ told'')
    cg_hash_to_index_once hash p q = tells_once p q

    pub cg_has_change_once : (hash : List ℕ) → HasChange hash told r' told' (lent hashes nodes edges clocks counts) → HasChange hash told r'' told'' (lent hashes nodes edges clocks counts) → (r' ≡ r'') × (told' ≡ told'')
    cg_has_change_once hash p q = tells_once p q

    pub cg_heads_are_current_once : (list : List ℕ) → HeadsAreCurrent list told r' told' (lent hashes nodes edges clocks counts) → HeadsAreCurrent list told r'' told'' (lent hashes nodes edges clocks counts) → (r' ≡ r'') × (told' ≡ told'')
    cg_heads_are_current_once list p q = tells_once p q

    pub cg_seq_for_actor_once : (actor : ℕ) → SeqForActor actor told r' told' (lent hashes nodes edges clocks counts) → SeqForActor actor told r'' told'' (lent hashes nodes edges clocks counts) → (r' ≡ r'') × (told' ≡ told'')
    cg_seq_for_actor_once actor p q = tells_once p q

    pub cg_max_op_for_actor_once : (actor : ℕ) → MaxOpForActor actor told r' told' (lent hashes nodes edges clocks counts) → MaxOpForActor actor told r'' told'' (lent hashes nodes edges clocks counts) → (r' ≡ r'') × (told' ≡ told'')
    cg_max_op_for_actor_once actor p q = tells_once p q

    pub cg_max_op_once : MaxOp told r' told' (lent hashes nodes edges clocks counts) → MaxOp told r'' told'' (lent hashes nodes edges clocks counts) → (r' ≡ r'') × (told' ≡ told'')
    cg_max_op_once p q = tells_once p q

    pub cg_len_once : Len told r' told' (lent hashes nodes edges clocks counts) → Len told r'' told'' (lent hashes nodes edges clocks counts) → (r' ≡ r'') × (told' ≡ told'')
    cg_len_once p q = tells_once p q

    pub cg_num_actors_once : NumActors told r' told' (lent hashes nodes edges clocks counts) → NumActors told r'' told'' (lent hashes nodes edges clocks counts) → (r' ≡ r'') × (told' ≡ told'')
    cg_num_actors_once p q = tells_once p q

    pub cg_chained_once : IsChained told r' told' (lent hashes nodes edges clocks counts) → IsChained told r'' told'' (lent hashes nodes edges clocks counts) → (r' ≡ r'') × (told' ≡ told'')
    cg_chained_once p q = tells_once p q
