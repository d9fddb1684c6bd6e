-- Demand 1, whole. Every public operation ends with an answer from the paper's table of numbers, and a refused one changes no table, queue or clock: `demand_1`, of a call
-- of each function that C calls. Only a text answer that does not fit is zeroed (`text_answer`), and `cg_add` tells which dependency is unknown (`unknown_place`).
-- A known change is accepted and changes nothing: `known_change`.
-- Assumes nothing.
use Rattle.std.specs.Prelude.{◌≡◌, List, ℕ, eqb}
use Rattle.paper.specs.Numbers.{number, already_known}
use Rattle.paper.specs.Queue.{has_actor_seq}
use Rattle.paper.specs.Adding.{Change}
use Rattle.tables.specs.Tables.{Tables, graph}
use Rattle.tables.specs.Valid.{Valid}
use Rattle.waiting.specs.Valid.{waiting}
use Rattle.queue.specs.Asked.{yes_or_no, asked_hash}
use Rattle.clock_checked.specs.Told.{get_told, covers_told, op_told, insert_told, remove_told, after_told, before_told}
use Rattle.clock_checked.specs.ToldLaws.{insert_keeps, remove_keeps}
use Rattle.hub_open.specs.Operations.{counted}
use Rattle.hub_add.specs.Operations.{Added}
use Rattle.hub_actors.specs.Operations.{renewed}
use Rattle.hub_forget.specs.Operations.{clocked}
use Rattle.hub_sizes.specs.Operations.{which_of}
use Rattle.hub_queue.specs.Operations.{store_queue}
use Rattle.hub_clock_slices.specs.Face.{range_of}
use Rattle.demands.specs.Refusals.{NotDone, DemandOne}
use Rattle.demands.specs.Operations.{open_for, add, insert_actor, remove_actor, load, forget}
use Rattle.demands.proofs.OperationLaws.{operation_demand}
use Rattle.demands.specs.Ties.{is_open, is_add, is_insert_actor, is_remove_actor, is_load, is_forget}
use Rattle.demands.specs.Questions.{clock_of, clock_at, missing_from, owner_of, heads, head_indexes, index_to_hash, hash_for_actor_seq, deps_for_hash, actor_ids, remove_ancestors, hash_to_index, has_change, seq_of_actor, max_op_of_actor, max_op_of_all, how_many, how_many_actors, are_heads, chained_asked}
use Rattle.demands.specs.QuestionLaws.{question_demand, number_demand, is_clock_of, is_clock_at, is_missing, is_owner, is_heads, is_head_indexes, is_index_to_hash, is_hash_for_actor_seq, is_deps_for_hash, is_actor_ids, is_remove_ancestors, is_hash_to_index, is_has_change, is_seq_for_actor, is_max_op_for_actor, is_max_op, is_len, is_num_actors, is_heads_are_current, is_chained}
use Rattle.demands.specs.WaitingLaws.{queue_open_demand, push_demand, hand_over_demand, branch_demand, queue_question_demand, iter_demand, release_demand}
use Rattle.demands.specs.ClockLaws.{include_demand, merge_demand, isolate_demand, slice_asked_demand, slice_gave_demand, slice_changed_demand}
use Rattle.demands.specs.Session.{SessionAnswered, TextZeroed}
use Rattle.demands.specs.SessionLaws.{session_demand, text_zeroed}
use Rattle.demands.specs.Adds.{KnownChange, AddLeaves}
use Rattle.demands.proofs.AddLaws.{add_leaves, known_accepted, known_exactly}
use Rattle.demands.specs.PublicCalls.{PublicCall, cg_open, cg_add, cg_insert_actor, cg_remove_actor, cg_load, cg_forget, cg_clock_of, cg_clock_at, cg_missing, cg_owner, cg_heads, cg_head_indexes, cg_index_to_hash, cg_get_hash_for_actor_seq, cg_deps_for_hash, cg_remove_ancestors, cg_actor_ids, cg_hash_to_index, cg_has_change, cg_seq_for_actor, cg_max_op_for_actor, cg_max_op, cg_len, cg_num_actors, cg_heads_are_current, cg_chained, cg_queue_open, cg_batch_push, cg_hand_over, cg_remove_actor_branch_from, cg_queue_is_empty, cg_queue_has_hash, cg_queue_has_actor_seq, cg_queue_iter, cg_release, cg_clock_include, cg_clock_merge, cg_clock_isolate, cg_clock_covers, cg_clock_get, cg_clock_op_covers, cg_clock_rewrite_with_new_actor, cg_clock_remove_actor, cg_clock_visible_after, cg_clock_visible_before, cg_session}

-- the number is one of the table's, and every number but that of done leaves the memory as it was
pub demand_1 : {r : ℕ} {before after : List (List ℕ)} → PublicCall r before after → DemandOne r before after
demand_1 (cg_open a r us t p) = operation_demand (open_for a) t (counted t us) r (is_open a r us t p)
demand_1 (cg_add x l l' t r t' p) = operation_demand (add x) t t' r (is_add x l l' t r t' p)
demand_1 (cg_insert_actor k r ns cs us t p) = operation_demand (insert_actor k) t (renewed t ns cs us) r (is_insert_actor k r ns cs us t p)
demand_1 (cg_remove_actor k r ns cs us t p) = operation_demand (remove_actor k) t (renewed t ns cs us) r (is_remove_actor k r ns cs us t p)
demand_1 (cg_load c t r t' p) = operation_demand (load c) t t' r (is_load c t r t' p)
demand_1 (cg_forget r cs t p) = operation_demand forget t (clocked t cs) r (is_forget r cs t p)
demand_1 (cg_clock_of l out told r out' told' t p) = question_demand (clock_of l) out told r out' told' t (is_clock_of out told r out' told' t l p)
demand_1 (cg_clock_at l out told r out' told' t p) = question_demand (clock_at l) out told r out' told' t (is_clock_at out told r out' told' t l p)
demand_1 (cg_missing have out told r out' told' t p) = question_demand (missing_from have) out told r out' told' t (is_missing out told r out' told' t have p)
demand_1 (cg_owner a c out told r out' told' t p) = question_demand (owner_of a c) out told r out' told' t (is_owner out told r out' told' t a c p)
demand_1 (cg_heads out told r out' told' t p) = question_demand heads out told r out' told' t (is_heads out told r out' told' t p)
demand_1 (cg_head_indexes out told r out' told' t p) = question_demand head_indexes out told r out' told' t (is_head_indexes out told r out' told' t p)
demand_1 (cg_index_to_hash k out told r out' told' t p) = question_demand (index_to_hash k) out told r out' told' t (is_index_to_hash out told r out' told' t k p)
demand_1 (cg_get_hash_for_actor_seq a q out told r out' told' t p) = question_demand (hash_for_actor_seq a q) out told r out' told' t (is_hash_for_actor_seq out told r out' told' t a q p)
demand_1 (cg_deps_for_hash h out told r out' told' t p) = question_demand (deps_for_hash h) out told r out' told' t (is_deps_for_hash out told r out' told' t h p)
demand_1 (cg_remove_ancestors l hs out told r out' told' t p) = question_demand (remove_ancestors l hs) out told r out' told' t (is_remove_ancestors out told r out' told' t l hs p)
demand_1 (cg_actor_ids w out told r out' told' t p) = question_demand (actor_ids (which_of w)) out told r out' told' t (is_actor_ids out told r out' told' t w p)
demand_1 (cg_hash_to_index h told r told' t p) = number_demand (hash_to_index h) told r told' t (is_hash_to_index told r told' t h p)
demand_1 (cg_has_change h told r told' t p) = number_demand (has_change h) told r told' t (is_has_change told r told' t h p)
demand_1 (cg_seq_for_actor a told r told' t p) = number_demand (seq_of_actor a) told r told' t (is_seq_for_actor told r told' t a p)
demand_1 (cg_max_op_for_actor a told r told' t p) = number_demand (max_op_of_actor a) told r told' t (is_max_op_for_actor told r told' t a p)
demand_1 (cg_max_op told r told' t p) = number_demand max_op_of_all told r told' t (is_max_op told r told' t p)
demand_1 (cg_len told r told' t p) = number_demand how_many told r told' t (is_len told r told' t p)
demand_1 (cg_num_actors told r told' t p) = number_demand how_many_actors told r told' t (is_num_actors told r told' t p)
demand_1 (cg_heads_are_current l told r told' t p) = number_demand (are_heads l) told r told' t (is_heads_are_current told r told' t l p)
demand_1 (cg_chained told r told' t p) = number_demand chained_asked told r told' t (is_chained told r told' t p)
demand_1 (cg_queue_open s r cs' p) = queue_open_demand s cs' r p
demand_1 (cg_batch_push b h key seq top ops needs r b' p) = push_demand b h key seq top ops needs b' r p
demand_1 (cg_hand_over q b r q' bcs' p) = hand_over_demand q b q' bcs' r p
demand_1 (cg_remove_actor_branch_from q key from r q' p) = branch_demand q key from q' r p
demand_1 (cg_queue_is_empty q told r told' p) = queue_question_demand q told told' (yes_or_no (eqb (waiting q.count) 0)) r p
demand_1 (cg_queue_has_hash q h told r told' p) = queue_question_demand q told told' (asked_hash (store_queue q) h) r p
demand_1 (cg_queue_has_actor_seq q key seq told r told' p) = queue_question_demand q told told' (yes_or_no (has_actor_seq (store_queue q) key seq)) r p
demand_1 (cg_queue_iter q th tn td told r th' tn' td' told' p) = iter_demand q told told' th tn td th' tn' td' r p
demand_1 (cg_release m r m' t p) = release_demand m m' r t p
demand_1 (cg_clock_include c n k x told r c' n' told' p) = include_demand c n k x told r c' n' told' p
demand_1 (cg_clock_merge c n b m r c' n' p) = merge_demand c n b m r c' n' p
demand_1 (cg_clock_isolate c n k r c' n' p) = isolate_demand c n k r c' n' p
demand_1 (cg_clock_covers c n b m told r told' p) = slice_asked_demand (covers_told c n b m) told r told' p
demand_1 (cg_clock_get c n k told r told' p) = slice_gave_demand (get_told c n k) told r told' p
demand_1 (cg_clock_op_covers c n a k told r told' p) = slice_asked_demand (op_told c n a k) told r told' p
demand_1 (cg_clock_rewrite_with_new_actor c n k r c' p) = slice_changed_demand (insert_told c n k) c r c' (insert_keeps c n k) p
demand_1 (cg_clock_remove_actor c n k r c' p) = slice_changed_demand (remove_told c n k) c r c' (remove_keeps c n k) p
demand_1 (cg_clock_visible_after kind b n c m a k told r told' p) = slice_asked_demand (after_told (range_of kind) b n c m a k) told r told' p
demand_1 (cg_clock_visible_before kind b n c m a k told r told' p) = slice_asked_demand (before_told (range_of kind) b n c m a k) told r told' p
demand_1 (cg_session input out told r out' told' p) = session_demand input out told r out' told' p

-- the one text answer: where the number is not that of done it does not fit, it is zeroed, and its length is told as 0
pub text_answer : (input out told : List ℕ) (r : ℕ) (out' told' : List ℕ) → SessionAnswered input out told r out' told' → NotDone r → TextZeroed out told r out' told'
text_answer = text_zeroed

-- the one place beside that of the text answer's length that a refusal tells: that of the unknown dependency
pub unknown_place : (x : Change) (l l' : List ℕ) (t : Tables) (r : ℕ) (t' : Tables) → Added x l l' t r t' → AddLeaves x l l' t r t'
unknown_place = add_leaves

-- a known change is accepted and changes nothing
pub known_change : (x : Change) (l l' : List ℕ) (t : Tables) (r : ℕ) (t' : Tables) → Added x l l' t r t' → Valid t → KnownChange (graph t) x → (r ≡ number already_known) × (t' ≡ t) × (l' ≡ l)
known_change = known_accepted

-- and its number is given for no other
pub known_only : (x : Change) (l l' : List ℕ) (t : Tables) (r : ℕ) (t' : Tables) → Added x l l' t r t' → r ≡ number already_known → KnownChange (graph t) x
known_only = known_exactly
