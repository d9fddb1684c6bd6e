-- A call of each function that C calls: its promise as it stands, its number, and the memory that it may change, before and after. What is lent to be read cannot change.
-- Two things are left out of that memory, since a refusal writes them: the place in which `cg_add` tells the unknown dependency (Adds.antt), and the text answer of
-- `cg_session` with the place for its length (Session.antt).
-- Assumes nothing.
use Rattle.std.specs.Prelude.{List, [], ◌∷◌, ℕ}
use Rattle.paper.specs.Adding.{Change}
use Rattle.paper.specs.Loading.{Columns}
use Rattle.tables.specs.Tables.{Tables}
use Rattle.waiting.specs.Valid.{Store}
use Rattle.clock_checked.specs.Told.{SliceAsked, get_told, op_told, insert_told, remove_told, after_told, before_told}
use Rattle.hub_open.specs.Operations.{Opened, counted}
use Rattle.hub_add.specs.Operations.{Added}
use Rattle.hub_actors.specs.Operations.{Inserted, Removed, renewed}
use Rattle.hub_load.specs.Operations.{Loaded}
use Rattle.hub_forget.specs.Operations.{Forgot, clocked}
use Rattle.hub_list_clock.specs.Operations.{ClockOf}
use Rattle.hub_op_clock.specs.Operations.{ClockAt}
use Rattle.hub_missing.specs.Operations.{MissingFrom}
use Rattle.hub_owner.specs.Operations.{OwnerOf}
use Rattle.hub_heads.specs.Operations.{HeadsOf, HeadIndexes}
use Rattle.hub_hashes.specs.Operations.{IndexToHash, HashForActorSeq}
use Rattle.hub_deps.specs.Operations.{DepsForHash}
use Rattle.hub_ancestors.specs.Operations.{RemoveAncestors}
use Rattle.hub_sizes.specs.Operations.{ActorIds, Len, NumActors}
use Rattle.hub_lookups.specs.Operations.{HashToIndex, HasChange}
use Rattle.hub_counts.specs.Operations.{SeqForActor, MaxOpForActor, MaxOp}
use Rattle.hub_current_heads.specs.Operations.{HeadsAreCurrent}
use Rattle.hub_chained.specs.Operations.{IsChained}
use Rattle.hub_batch.specs.Operations.{QueueOpened, BatchPushed}
use Rattle.hub_queue.specs.Operations.{HandedOver, BranchRemoved, QueueIsEmpty, QueueHasHash, QueueHasActorSeq, QueueGiven}
use Rattle.hub_release.specs.Operations.{Stock, FreedBy}
use Rattle.clock_struct.specs.Clocks.{ClockIncluded, ClockMerged, ClockIsolated, ClockCovered}
use Rattle.hub_clock_slices.specs.Face.{SliceGave, SliceChanged, range_of}
use Rattle.demands.specs.Refusals.{table_lists, store_lists, stock_lists}
use Rattle.demands.specs.Session.{SessionAnswered}

pub data PublicCall : ℕ → List (List ℕ) → List (List ℕ) → Type 0 where
  -- operations that change a graph: all its tables
  cg_open : (a r : ℕ) (us : List ℕ) (t : Tables) → Opened a r us t → PublicCall r (table_lists t) (table_lists (counted t us))
  cg_add : (x : Change) (l l' : List ℕ) (t : Tables) (r : ℕ) (t' : Tables) → Added x l l' t r t' → PublicCall r (table_lists t) (table_lists t')
  cg_insert_actor : (place r : ℕ) (ns cs us : List ℕ) (t : Tables) → Inserted place r ns cs us t → PublicCall r (table_lists t) (table_lists (renewed t ns cs us))
  cg_remove_actor : (place r : ℕ) (ns cs us : List ℕ) (t : Tables) → Removed place r ns cs us t → PublicCall r (table_lists t) (table_lists (renewed t ns cs us))
  cg_load : (c : Columns) (t : Tables) (r : ℕ) (t' : Tables) → Loaded c t r t' → PublicCall r (table_lists t) (table_lists t')
  cg_forget : (r : ℕ) (cs : List ℕ) (t : Tables) → Forgot r cs t → PublicCall r (table_lists t) (table_lists (clocked t cs))
  -- questions on a graph with a buffer: the buffer, and the place for how much the answer takes
  cg_clock_of : (l out told : List ℕ) (r : ℕ) (out' told' : List ℕ) (t : Tables) → ClockOf l out told r out' told' t → PublicCall r (out ∷ told ∷ []) (out' ∷ told' ∷ [])
  cg_clock_at : (l out told : List ℕ) (r : ℕ) (out' told' : List ℕ) (t : Tables) → ClockAt l out told r out' told' t → PublicCall r (out ∷ told ∷ []) (out' ∷ told' ∷ [])
  cg_missing : (have out told : List ℕ) (r : ℕ) (out' told' : List ℕ) (t : Tables) → MissingFrom have out told r out' told' t → PublicCall r (out ∷ told ∷ []) (out' ∷ told' ∷ [])
  cg_owner : (a c : ℕ) (out told : List ℕ) (r : ℕ) (out' told' : List ℕ) (t : Tables) → OwnerOf a c out told r out' told' t → PublicCall r (out ∷ told ∷ []) (out' ∷ told' ∷ [])
  cg_heads : (out told : List ℕ) (r : ℕ) (out' told' : List ℕ) (t : Tables) → HeadsOf out told r out' told' t → PublicCall r (out ∷ told ∷ []) (out' ∷ told' ∷ [])
  cg_head_indexes : (out told : List ℕ) (r : ℕ) (out' told' : List ℕ) (t : Tables) → HeadIndexes out told r out' told' t → PublicCall r (out ∷ told ∷ []) (out' ∷ told' ∷ [])
  cg_index_to_hash : (k : ℕ) (out told : List ℕ) (r : ℕ) (out' told' : List ℕ) (t : Tables) → IndexToHash k out told r out' told' t → PublicCall r (out ∷ told ∷ []) (out' ∷ told' ∷ [])
  cg_get_hash_for_actor_seq : (a q : ℕ) (out told : List ℕ) (r : ℕ) (out' told' : List ℕ) (t : Tables) → HashForActorSeq a q out told r out' told' t → PublicCall r (out ∷ told ∷ []) (out' ∷ told' ∷ [])
  cg_deps_for_hash : (h out told : List ℕ) (r : ℕ) (out' told' : List ℕ) (t : Tables) → DepsForHash h out told r out' told' t → PublicCall r (out ∷ told ∷ []) (out' ∷ told' ∷ [])
  cg_remove_ancestors : (l hs out told : List ℕ) (r : ℕ) (out' told' : List ℕ) (t : Tables) → RemoveAncestors l hs out told r out' told' t → PublicCall r (out ∷ told ∷ []) (out' ∷ told' ∷ [])
  cg_actor_ids : (w : ℕ) (out told : List ℕ) (r : ℕ) (out' told' : List ℕ) (t : Tables) → ActorIds w out told r out' told' t → PublicCall r (out ∷ told ∷ []) (out' ∷ told' ∷ [])
  -- those whose answer is one number: the place for it
  cg_hash_to_index : (h told : List ℕ) (r : ℕ) (told' : List ℕ) (t : Tables) → HashToIndex h told r told' t → PublicCall r (told ∷ []) (told' ∷ [])
  cg_has_change : (h told : List ℕ) (r : ℕ) (told' : List ℕ) (t : Tables) → HasChange h told r told' t → PublicCall r (told ∷ []) (told' ∷ [])
  cg_seq_for_actor : (a : ℕ) (told : List ℕ) (r : ℕ) (told' : List ℕ) (t : Tables) → SeqForActor a told r told' t → PublicCall r (told ∷ []) (told' ∷ [])
  cg_max_op_for_actor : (a : ℕ) (told : List ℕ) (r : ℕ) (told' : List ℕ) (t : Tables) → MaxOpForActor a told r told' t → PublicCall r (told ∷ []) (told' ∷ [])
  cg_max_op : (told : List ℕ) (r : ℕ) (told' : List ℕ) (t : Tables) → MaxOp told r told' t → PublicCall r (told ∷ []) (told' ∷ [])
  cg_len : (told : List ℕ) (r : ℕ) (told' : List ℕ) (t : Tables) → Len told r told' t → PublicCall r (told ∷ []) (told' ∷ [])
  cg_num_actors : (told : List ℕ) (r : ℕ) (told' : List ℕ) (t : Tables) → NumActors told r told' t → PublicCall r (told ∷ []) (told' ∷ [])
  cg_heads_are_current : (l told : List ℕ) (r : ℕ) (told' : List ℕ) (t : Tables) → HeadsAreCurrent l told r told' t → PublicCall r (told ∷ []) (told' ∷ [])
  cg_chained : (told : List ℕ) (r : ℕ) (told' : List ℕ) (t : Tables) → IsChained told r told' t → PublicCall r (told ∷ []) (told' ∷ [])
  -- batch and queue: their tables, answer tables, and the place
  cg_queue_open : (s : Store) (r : ℕ) (cs' : List ℕ) → QueueOpened s r cs' → PublicCall r (s.count ∷ []) (cs' ∷ [])
  cg_batch_push : (b : Store) (h : List ℕ) (key seq top ops : ℕ) (needs : List ℕ) (r : ℕ) (b' : Store) → BatchPushed b h key seq top ops needs r b' → PublicCall r (store_lists b) (store_lists b')
  cg_hand_over : (q b : Store) (r : ℕ) (q' : Store) (bcs' : List ℕ) → HandedOver q b r q' bcs' → PublicCall r (b.count ∷ store_lists q) (bcs' ∷ store_lists q')
  cg_remove_actor_branch_from : (q : Store) (key from r : ℕ) (q' : Store) → BranchRemoved q key from r q' → PublicCall r (store_lists q) (store_lists q')
  cg_queue_is_empty : (q : Store) (told : List ℕ) (r : ℕ) (told' : List ℕ) → QueueIsEmpty q told r told' → PublicCall r (told ∷ []) (told' ∷ [])
  cg_queue_has_hash : (q : Store) (h told : List ℕ) (r : ℕ) (told' : List ℕ) → QueueHasHash q h told r told' → PublicCall r (told ∷ []) (told' ∷ [])
  cg_queue_has_actor_seq : (q : Store) (key seq : ℕ) (told : List ℕ) (r : ℕ) (told' : List ℕ) → QueueHasActorSeq q key seq told r told' → PublicCall r (told ∷ []) (told' ∷ [])
  cg_queue_iter : (q : Store) (th tn td told : List ℕ) (r : ℕ) (th' tn' td' told' : List ℕ) → QueueGiven q th tn td told r th' tn' td' told' → PublicCall r (th ∷ tn ∷ td ∷ told ∷ []) (th' ∷ tn' ∷ td' ∷ told' ∷ [])
  cg_release : (m : Stock) (r : ℕ) (m' : Stock) (t : Tables) → FreedBy m r m' t → PublicCall r (stock_lists m) (stock_lists m')
  -- clocks: entries, count, and the place
  cg_clock_include : (c : List ℕ) (n place x : ℕ) (told : List ℕ) (r : ℕ) (c' : List ℕ) (n' : ℕ) (told' : List ℕ) → ClockIncluded c n place x told r c' n' told' → PublicCall r (c ∷ (n ∷ []) ∷ told ∷ []) (c' ∷ (n' ∷ []) ∷ told' ∷ [])
  cg_clock_merge : (c : List ℕ) (n : ℕ) (b : List ℕ) (m r : ℕ) (c' : List ℕ) (n' : ℕ) → ClockMerged c n b m r c' n' → PublicCall r (c ∷ (n ∷ []) ∷ []) (c' ∷ (n' ∷ []) ∷ [])
  cg_clock_isolate : (c : List ℕ) (n place r : ℕ) (c' : List ℕ) (n' : ℕ) → ClockIsolated c n place r c' n' → PublicCall r (c ∷ (n ∷ []) ∷ []) (c' ∷ (n' ∷ []) ∷ [])
  cg_clock_covers : (c : List ℕ) (n : ℕ) (b : List ℕ) (m : ℕ) (told : List ℕ) (r : ℕ) (told' : List ℕ) → ClockCovered c n b m told r told' → PublicCall r (told ∷ []) (told' ∷ [])
  cg_clock_get : (c : List ℕ) (n place : ℕ) (told : List ℕ) (r : ℕ) (told' : List ℕ) → SliceGave (get_told c n place) told r told' → PublicCall r (told ∷ []) (told' ∷ [])
  cg_clock_op_covers : (c : List ℕ) (n actor counter : ℕ) (told : List ℕ) (r : ℕ) (told' : List ℕ) → SliceAsked (op_told c n actor counter) told r told' → PublicCall r (told ∷ []) (told' ∷ [])
  cg_clock_rewrite_with_new_actor : (c : List ℕ) (n place r : ℕ) (c' : List ℕ) → SliceChanged (insert_told c n place) r c' → PublicCall r (c ∷ []) (c' ∷ [])
  cg_clock_remove_actor : (c : List ℕ) (n place r : ℕ) (c' : List ℕ) → SliceChanged (remove_told c n place) r c' → PublicCall r (c ∷ []) (c' ∷ [])
  cg_clock_visible_after : (kind : ℕ) (b : List ℕ) (n : ℕ) (c : List ℕ) (m actor counter : ℕ) (told : List ℕ) (r : ℕ) (told' : List ℕ) → SliceAsked (after_told (range_of kind) b n c m actor counter) told r told' → PublicCall r (told ∷ []) (told' ∷ [])
  cg_clock_visible_before : (kind : ℕ) (b : List ℕ) (n : ℕ) (c : List ℕ) (m actor counter : ℕ) (told : List ℕ) (r : ℕ) (told' : List ℕ) → SliceAsked (before_told (range_of kind) b n c m actor counter) told r told' → PublicCall r (told ∷ []) (told' ∷ [])
  -- the text session: no table, queue or clock
  cg_session : (input out told : List ℕ) (r : ℕ) (out' told' : List ℕ) → SessionAnswered input out told r out' told' → PublicCall r [] []
