-- The number of each C function, by its promise alone: 1 where what is lent is not valid, and else that of the paper's outcome. (What `cg_session` promises is the
-- paper's already.)
-- Assumes nothing.
use Rattle.std.specs.Prelude.{◌≡◌, refl, Some, Bool, true, false, ◌&&◌, List, ℕ, eqb, length}
use Rattle.std.proofs.Common.{ap, ◌∙◌}
use Rattle.paper.specs.Numbers.{Outcome, number, done, not_valid}
use Rattle.paper.specs.Adding.{Change, Verdict, outcome, judged}
use Rattle.paper.specs.Loading.{Columns, judged_load}
use Rattle.paper.specs.Queue.{has_actor_seq}
use Rattle.paper.specs.Actors.{judged_open, judged_insert, judged_remove}
use Rattle.paper.specs.Asking.{judged_look_up, judged_known, judged_index, judged_actor_seq, judged_owner, judged_actors, judged_heads, judged_head_nodes, judged_current, judged_deps, judged_clock, judged_missing, judged_outside}
use Rattle.paper.specs.Clocks.{clock_lent, judged_lent, judged_place, judged_seen, judged_covers}
use Rattle.paper.specs.Pushing.{judged_push, judged_hand_over, judged_release, judged_iter, judged_waits}
use Rattle.tables.specs.Tables.{Tables, changes, change_room_of, edge_room_of, actor_room, graph}
use Rattle.tables.specs.Valid.{Lengths, Valid}
use Rattle.judge.specs.Hub.{hub}
use Rattle.judge.specs.HubLaws.{judged_agrees}
use Rattle.judge.specs.Judge.{change}
use Rattle.answer_buffer.specs.Answers.{place_number, yes_no_number, listed_number}
use Rattle.lookups.specs.Lookups.{actor_listed}
use Rattle.edges.specs.Told.{Checked}
use Rattle.hub_answer.specs.Asks.{Reply, gives, reply_number, of_listed, of_place, of_yes_no, Asks, Tells}
use Rattle.lent_place.specs.Places.{Numbered}
use Rattle.waiting.specs.Valid.{Store, GoodStore, StoreLaid, room, waiting}
use Rattle.ready.specs.Tables.{queue_of, known_in}
use Rattle.hub_open.specs.Operations.{Opened}
use Rattle.hub_add.specs.Operations.{Added}
use Rattle.hub_actors.specs.Operations.{Inserted, Removed}
use Rattle.hub_load.specs.Operations.{Loaded}
use Rattle.hub_forget.specs.Operations.{Forgot}
use Rattle.hub_lookups.specs.Operations.{HashToIndex, HasChange}
use Rattle.hub_hashes.specs.Operations.{IndexToHash, HashForActorSeq}
use Rattle.hub_owner.specs.Operations.{OwnerOf}
use Rattle.hub_heads.specs.Operations.{HeadsOf, HeadIndexes}
use Rattle.hub_current_heads.specs.Operations.{HeadsAreCurrent}
use Rattle.hub_deps.specs.Operations.{DepsForHash}
use Rattle.hub_list_clock.specs.Operations.{ClockOf}
use Rattle.hub_op_clock.specs.Operations.{ClockAt}
use Rattle.hub_missing.specs.Operations.{MissingFrom}
use Rattle.hub_ancestors.specs.Operations.{RemoveAncestors}
use Rattle.hub_sizes.specs.Operations.{which_of, Len, NumActors, ActorIds}
use Rattle.hub_counts.specs.Operations.{SeqForActor, MaxOpForActor, MaxOp}
use Rattle.hub_chained.specs.Operations.{IsChained}
use Rattle.hub_batch.specs.Operations.{QueueOpened, BatchPushed}
use Rattle.hub_queue.specs.Operations.{store_queue, HandedOver, BranchRemoved, QueueIsEmpty, QueueHasHash, QueueHasActorSeq, QueueGiven}
use Rattle.hub_release.specs.Operations.{Stock, FreedBy}
use Rattle.clock_checked.specs.Told.{SliceAsked, get_told, op_told, remove_told, after_told, before_told}
use Rattle.clock_struct.specs.Clocks.{StructDone, ClockIncluded, ClockMerged, ClockIsolated, ClockCovered}
use Rattle.hub_clock_slices.specs.Face.{SliceGave, SliceChanged, range_of}
use Rattle.waiting.specs.Refused.{queue_number}
use Rattle.queue.specs.Asked.{yes_or_no}
use Rattle.agreement.specs.ActorsAgree.{opening_agrees, inserting_agrees, removing_agrees}
use Rattle.agreement.specs.AskingAgrees.{listed_reply, place_reply, yes_no_reply, look_up_agrees, has_agrees, current_agrees, index_agrees, actor_seq_agrees, owner_agrees, heads_agree, head_nodes_agree, deps_agree, missing_agrees, outside_agrees, clock_agrees, op_clock_agrees, actors_agree}
use Rattle.agreement.specs.ClocksAgree.{ends_at_clock, begins_at_clock, get_agrees, include_agrees, isolate_agrees, op_agrees, remove_agrees, merge_agrees, covers_agrees, after_agrees, before_agrees}
use Rattle.agreement.specs.PushingAgrees.{answer_room, push_agrees, hand_over_agrees, release_agrees, iter_agrees, waits_agrees}
use Rattle.answer_buffer.specs.Answers.{Listed, Place, YesNo}

-- where what is lent is valid r is the outcome's number, and else it is 1
pub record CallGives (held : Type 0) (r : ℕ) (o : Outcome) : Type 0 where
  pub met : held → r ≡ number o
  pub unmet : (held → ⊥) → r ≡ number not_valid

-- ---- the forms of a promise

checked_gives : {P : Tables → Type 0} {n : Tables → ℕ} {new : Tables → Tables} {t t' : Tables} {r : ℕ} (o : Outcome) → n t ≡ number o → Checked P n new t r t' → CallGives (P t) r o
checked_gives o e p = record { met = λ v. (p.met v).0 ∙ e; unmet = λ n. (p.unmet n).0 }

asks_gives : {L : Type 0} {of : L → Reply} {answer : Tables → L} {buffer : Tables → List ℕ} {out told out' told' : List ℕ} {t : Tables} {r : ℕ} (o : Outcome) → reply_number (of (answer t)) ≡ number o
    → Asks of answer buffer out told r out' told' t → CallGives (Valid t) r o
asks_gives o e p = record { met = λ v. (p.met v).number ∙ e; unmet = λ n. (p.unmet n).0 }

listed_gives : {answer : Tables → Listed} {buffer : Tables → List ℕ} {out told out' told' : List ℕ} {t : Tables} {r : ℕ} (o : Outcome) → listed_number (answer t) ≡ number o
    → Asks of_listed answer buffer out told r out' told' t → CallGives (Valid t) r o
listed_gives {answer} {t = t} o e p = asks_gives o (listed_reply (answer t) ∙ e) p

place_gives : {answer : Tables → Place} {told told' : List ℕ} {t : Tables} {r : ℕ} (o : Outcome) → place_number (answer t) ≡ number o → Tells of_place answer told r told' t → CallGives (Valid t) r o
place_gives {answer} {t = t} o e p = asks_gives o (place_reply (answer t) ∙ e) p

yes_no_gives : {answer : Tables → YesNo} {told told' : List ℕ} {t : Tables} {r : ℕ} (o : Outcome) → yes_no_number (answer t) ≡ number o → Tells of_yes_no answer told r told' t → CallGives (Valid t) r o
yes_no_gives {answer} {t = t} o e p = asks_gives o (yes_no_reply (answer t) ∙ e) p

numbered_gives : {A : Type 0} {num : A → ℕ} {held : Type 0} {good bad : A} {left : A → Type 0} {r : ℕ} (o : Outcome) → num good ≡ number o → num bad ≡ number not_valid
    → Numbered num held good bad left r → CallGives held r o
numbered_gives o e b p = record { met = λ v. (p.met v).0 ∙ e; unmet = λ n. (p.unmet n).0 ∙ b }

-- ---- what changes a graph

module _ (r : ℕ) (t : Tables) where
  pub open_gives : (a : ℕ) (us : List ℕ) → Opened a r us t → CallGives (Lengths t) r (judged_open (actor_room t) a)
  open_gives a us p = checked_gives (judged_open (actor_room t) a) (ap number (opening_agrees t a)) p

  pub add_gives : (x : Change) (l l' : List ℕ) (t' : Tables) → Added x l l' t r t' → CallGives (Valid t) r (outcome (judged (hub t) x))
  add_gives x l l' t' p = record { met = λ v. (p.tables.met v).0 ∙ ap (λ (j : Verdict). number (outcome j)) (judged_agrees t x v.sound); unmet = λ n. (p.tables.unmet n).0 }

  pub insert_actor_gives : (q : ℕ) (ns cs us : List ℕ) → Inserted q r ns cs us t → CallGives (Valid t) r (judged_insert (actor_room t) (hub t) q)
  insert_actor_gives q ns cs us p = checked_gives (judged_insert (actor_room t) (hub t) q) (ap number (inserting_agrees t q)) p

  pub remove_actor_gives : (q : ℕ) (ns cs us : List ℕ) → Removed q r ns cs us t → CallGives (Valid t) r (judged_remove (hub t) q)
  remove_actor_gives q ns cs us p = checked_gives (judged_remove (hub t) q) (ap number (removing_agrees t q)) p

  pub load_gives : (c : Columns) (t' : Tables) → Loaded c t r t' → CallGives (Lengths t) r (judged_load (change_room_of t) (edge_room_of t) (actor_room t) c)
  load_gives c t' p = checked_gives (judged_load (change_room_of t) (edge_room_of t) (actor_room t) c) refl p

  pub forget_gives : (cs : List ℕ) → Forgot r cs t → CallGives (Valid t) r done
  forget_gives cs p = checked_gives done refl p

-- ---- questions

module _ (r : ℕ) (t : Tables) (told told' : List ℕ) where
  pub hash_to_index_gives : (h : List ℕ) → HashToIndex h told r told' t → CallGives (Valid t) r (judged_look_up (graph t) h)
  hash_to_index_gives h p = place_gives (judged_look_up (graph t) h) (look_up_agrees (graph t) h) p

  pub has_change_gives : (h : List ℕ) → HasChange h told r told' t → CallGives (Valid t) r (judged_known h)
  has_change_gives h p = yes_no_gives (judged_known h) (has_agrees (graph t) h) p

  pub heads_are_current_gives : (list : List ℕ) → HeadsAreCurrent list told r told' t → CallGives (Valid t) r (judged_current list)
  heads_are_current_gives list p = yes_no_gives (judged_current list) (current_agrees (graph t) list) p

  -- a question for a number alone
  tells_gives : {answer : Tables → ℕ} → Tells gives answer told r told' t → CallGives (Valid t) r done
  tells_gives p = asks_gives done refl p

  pub len_gives : Len told r told' t → CallGives (Valid t) r done
  len_gives p = tells_gives p

  pub num_actors_gives : NumActors told r told' t → CallGives (Valid t) r done
  num_actors_gives p = tells_gives p

  pub seq_for_actor_gives : (a : ℕ) → SeqForActor a told r told' t → CallGives (Valid t) r done
  seq_for_actor_gives a p = tells_gives p

  pub max_op_for_actor_gives : (a : ℕ) → MaxOpForActor a told r told' t → CallGives (Valid t) r done
  max_op_for_actor_gives a p = tells_gives p

  pub max_op_gives : MaxOp told r told' t → CallGives (Valid t) r done
  max_op_gives p = tells_gives p

  pub chained_gives : IsChained told r told' t → CallGives (Valid t) r done
  chained_gives p = asks_gives done refl p

  module _ (out out' : List ℕ) where
    pub index_to_hash_gives : (k : ℕ) → IndexToHash k out told r out' told' t → CallGives (Valid t) r (judged_index (graph t) k (length out))
    index_to_hash_gives k p = listed_gives (judged_index (graph t) k (length out)) (index_agrees (graph t) k (length out)) p

    pub hash_for_actor_seq_gives : (a q : ℕ) → HashForActorSeq a q out told r out' told' t → CallGives (Valid t) r (judged_actor_seq (graph t) a q (length out))
    hash_for_actor_seq_gives a q p = listed_gives (judged_actor_seq (graph t) a q (length out)) (actor_seq_agrees (graph t) a q (length out)) p

    pub owner_gives : (a c : ℕ) → OwnerOf a c out told r out' told' t → CallGives (Valid t) r (judged_owner (graph t) a c (length out))
    owner_gives a c p = listed_gives (judged_owner (graph t) a c (length out)) (owner_agrees (graph t) a c (length out)) p

    pub heads_gives : HeadsOf out told r out' told' t → CallGives (Valid t) r (judged_heads (graph t) (length out))
    heads_gives p = listed_gives (judged_heads (graph t) (length out)) (heads_agree (graph t) (length out)) p

    pub head_indexes_gives : HeadIndexes out told r out' told' t → CallGives (Valid t) r (judged_head_nodes (graph t) (length out))
    head_indexes_gives p = listed_gives (judged_head_nodes (graph t) (length out)) (head_nodes_agree (graph t) (length out)) p

    pub deps_for_hash_gives : (h : List ℕ) → DepsForHash h out told r out' told' t → CallGives (Valid t) r (judged_deps (graph t) h (length out))
    deps_for_hash_gives h p = listed_gives (judged_deps (graph t) h (length out)) (deps_agree (graph t) h (length out)) p

    pub clock_of_gives : (list : List ℕ) → ClockOf list out told r out' told' t → CallGives (Valid t) r (judged_clock (hub t) list (length out))
    clock_of_gives list p = listed_gives (judged_clock (hub t) list (length out)) (clock_agrees t list (length out)) p

    pub clock_at_gives : (list : List ℕ) → ClockAt list out told r out' told' t → CallGives (Valid t) r (judged_clock (hub t) list (length out))
    clock_at_gives list p = listed_gives (judged_clock (hub t) list (length out)) (op_clock_agrees t list (length out)) p

    pub missing_gives : (have : List ℕ) → MissingFrom have out told r out' told' t → CallGives (Valid t) r (judged_missing (graph t) have (length out))
    missing_gives have p = listed_gives (judged_missing (graph t) have (length out)) (missing_agrees (graph t) have (length out)) p

    pub remove_ancestors_gives : (list of : List ℕ) → RemoveAncestors list of out told r out' told' t → CallGives (Valid t) r (judged_outside (graph t) list of (length out))
    remove_ancestors_gives list of p = listed_gives (judged_outside (graph t) list of (length out)) (outside_agrees (graph t) list of (length out)) p

    pub actor_ids_gives : (which : ℕ) → ActorIds which out told r out' told' t → CallGives (Valid t) r (judged_actors (hub t) (actor_listed (graph t) (which_of which)) (length out))
    actor_ids_gives which p = listed_gives (judged_actors (hub t) (actor_listed (graph t) (which_of which)) (length out)) (actors_agree t (which_of which) (length out)) p

-- ---- batch and queue

-- a yes or no has the number 0
told_done : (b : Bool) → queue_number (yes_or_no b) ≡ number done
told_done b = refl

module _ (r : ℕ) (s : Store) where
  pub queue_open_gives : (cs' : List ℕ) → QueueOpened s r cs' → CallGives (StoreLaid s.hashes s.numbers s.deps s.count) r done
  queue_open_gives cs' p = numbered_gives done refl refl p

  pub push_gives : (h : List ℕ) (key seq top ops : ℕ) (needs : List ℕ) (s' : Store) → BatchPushed s h key seq top ops needs r s'
      → CallGives (GoodStore s) r (judged_push (room s.hashes) (store_queue s) (change h key seq top ops needs))
  push_gives h key seq top ops needs s' p =
      numbered_gives (judged_push (room s.hashes) (store_queue s) (change h key seq top ops needs)) (push_agrees s.hashes s.numbers s.deps s.count h key seq top ops needs) refl p

  pub hand_over_gives : (b s' : Store) (bcs' : List ℕ) → HandedOver s b r s' bcs' → CallGives (GoodStore s × GoodStore b) r (judged_hand_over (room s.hashes) (store_queue s) (store_queue b))
  hand_over_gives b s' bcs' p =
      numbered_gives (judged_hand_over (room s.hashes) (store_queue s) (store_queue b))
      (hand_over_agrees s.hashes s.numbers s.deps s.count b.hashes b.numbers b.deps b.count) refl p

  pub branch_gives : (key from : ℕ) (s' : Store) → BranchRemoved s key from r s' → CallGives (GoodStore s) r done
  branch_gives key from s' p = numbered_gives done refl refl p

  module _ (told told' : List ℕ) where
    pub is_empty_gives : QueueIsEmpty s told r told' → CallGives (GoodStore s) r done
    is_empty_gives p = numbered_gives done (told_done (eqb (waiting s.count) 0)) refl p

    pub has_hash_gives : (h : List ℕ) → QueueHasHash s h told r told' → CallGives (GoodStore s) r (judged_waits h)
    has_hash_gives h p = numbered_gives (judged_waits h) (waits_agrees s.hashes s.numbers s.deps s.count h) refl p

    pub has_actor_seq_gives : (key seq : ℕ) → QueueHasActorSeq s key seq told r told' → CallGives (GoodStore s) r done
    has_actor_seq_gives key seq p = numbered_gives done (told_done (has_actor_seq (store_queue s) key seq)) refl p

    pub iter_gives : (th tn td th' tn' td' : List ℕ) → QueueGiven s th tn td told r th' tn' td' told' → CallGives (GoodStore s) r (judged_iter (store_queue s) (answer_room th tn td))
    iter_gives th tn td th' tn' td' p = numbered_gives (judged_iter (store_queue s) (answer_room th tn td)) (iter_agrees s.hashes s.numbers s.deps s.count th tn td) refl p

-- what a release comes to, known being the first k of the hashes gs
abbrev pub released_outcome : List ℕ → ℕ → Stock → Outcome
released_outcome gs k m = judged_release (known_in gs k) (queue_of m.hashes m.numbers m.deps (waiting m.count)) (answer_room m.thashes m.tnumbers m.tdeps)

module _ (r : ℕ) (m m' : Stock) where
  pub release_gives : (t : Tables) → FreedBy m r m' t → CallGives (Valid t × GoodStore (record { hashes = m.hashes; numbers = m.numbers; deps = m.deps; count = m.count })) r (released_outcome t.hashes (changes t) m)
  release_gives t p =
      numbered_gives (released_outcome t.hashes (changes t) m)
      (release_agrees m.hashes m.numbers m.deps m.count t.hashes (changes t) m.thashes m.tnumbers m.tdeps) refl p

-- ---- clocks

-- on slices
module _ (r : ℕ) (c : List ℕ) (n : ℕ) where
  pub clock_get_gives : (a : ℕ) (l l' : List ℕ) → SliceGave (get_told c n a) l r l' → r ≡ number (judged_lent (clock_lent n (length c)) done)
  clock_get_gives a l l' p = p.number ∙ get_agrees c n a

  pub clock_op_covers_gives : (a counter : ℕ) (l l' : List ℕ) → SliceAsked (op_told c n a counter) l r l' → r ≡ number (judged_lent (clock_lent n (length c)) (judged_place n a))
  clock_op_covers_gives a counter l l' p = p.number ∙ op_agrees c n a counter

  -- (`clock_new_actor_gives`, the same of an actor put in, stands in proofs/NewActorCall.antt)
  pub clock_remove_actor_gives : (q : ℕ) (c' : List ℕ) → SliceChanged (remove_told c n q) r c' → r ≡ number (judged_lent (clock_lent n (length c)) (judged_place n q))
  clock_remove_actor_gives q c' p = p.number ∙ remove_agrees c n q

-- of a range, b the clock that it begins at
module _ (r kind : ℕ) (b : List ℕ) (n : ℕ) (c : List ℕ) (m a counter : ℕ) (l l' : List ℕ) where
  pub clock_visible_after_gives : SliceAsked (after_told (range_of kind) b n c m a counter) l r l'
      → r ≡ number (judged_lent (clock_lent n (length b) && clock_lent m (length c)) (judged_seen (ends_at_clock (range_of kind)) m a))
  clock_visible_after_gives p = p.number ∙ after_agrees b n c m (range_of kind) a counter

  pub clock_visible_before_gives : SliceAsked (before_told (range_of kind) b n c m a counter) l r l'
      → r ≡ number (judged_lent (clock_lent n (length b) && clock_lent m (length c)) (judged_seen (begins_at_clock (range_of kind)) n a))
  clock_visible_before_gives p = p.number ∙ before_agrees b n c m (range_of kind) a counter

-- as structs
module _ (r : ℕ) (c : List ℕ) (n : ℕ) (c' : List ℕ) (n' : ℕ) where
  pub clock_include_gives : (a x : ℕ) (l l' : List ℕ) → ClockIncluded c n a x l r c' n' l' → r ≡ number (judged_lent (clock_lent n (length c)) (judged_place n a))
  clock_include_gives a x l l' p = p.0.asked.number ∙ include_agrees c n a (Some x)

  pub clock_merge_gives : (b : List ℕ) (m : ℕ) → ClockMerged c n b m r c' n' → r ≡ number (judged_lent (clock_lent n (length c) && clock_lent m (length b)) done)
  clock_merge_gives b m p = ap (λ (d : StructDone). d.number) p.0 ∙ merge_agrees c n b m

  pub clock_isolate_gives : (a : ℕ) → ClockIsolated c n a r c' n' → r ≡ number (judged_lent (clock_lent n (length c)) (judged_place n a))
  clock_isolate_gives a p = ap (λ (d : StructDone). d.number) p.0 ∙ isolate_agrees c n a

pub clock_covers_gives : (r : ℕ) (c : List ℕ) (n : ℕ) (b : List ℕ) (m : ℕ) (l l' : List ℕ) → ClockCovered c n b m l r l' → r ≡ number (judged_lent (clock_lent n (length c) && clock_lent m (length b)) (judged_covers n m))
clock_covers_gives r c n b m l l' p = p.number ∙ covers_agrees c n b m
