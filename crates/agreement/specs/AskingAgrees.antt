-- The number of every question's answer is that of the paper's judgement: first the law over the shape, then a line for each question.
-- Assumes nothing.
use Rattle.std.specs.Prelude.{◌≡◌, Bool, not, cond, ◌&&◌, ◌||◌, List, [], ◌∷◌, map, ℕ, suc, ◌*◌, eqb, ltb, leb, length}
use Rattle.std.proofs.Math.Path.{refl}
use Rattle.std.proofs.Common.{ap, ◌∙◌, arith}
use Rattle.std.proofs.Math.Bool.{true, false}
use borrow.Author.Tests.{leb-true, leb-false, ltb-true, ltb-false, le-leb, lt-leb, lt-ltb, le-ltb}
use Rattle.paper.specs.Lists.{tally}
use Rattle.paper.specs.Numbers.{Outcome, number, done, not_found, no_owner}
use Rattle.paper.specs.Graph.{Graph, node, nodes, heads, change_at, owner}
use Rattle.paper.proofs.Bools.{by_bool}
use Rattle.paper.proofs.Count.{pick_length}
use Rattle.paper.proofs.Each.{length_each}
use Rattle.paper.specs.Asking.{not_hash, not_hashes, judged_room, judged_question, judged_look_up, judged_known, judged_node, judged_index, judged_actor_seq, judged_owner, judged_actors, judged_heads, judged_head_nodes, judged_current, judged_deps, judged_clock, judged_missing, judged_outside}
use Rattle.tables.specs.Tables.{Tables, graph, actors}
use Rattle.judge.specs.Hub.{hub}
use Rattle.answer_buffer.specs.Answers.{place_number, yes_no_number, listed_number, list_answer, one_hash, whole_list, node_hash}
use Rattle.lookups.specs.Lookups.{looked_up, has, actor_listed, actor_list}
use Rattle.lookups.specs.declared.Which.{Which}
use Rattle.heads.specs.Heads.{head_hashes, head_places}
use Rattle.current_heads.specs.Current.{current, current_told}
use Rattle.list_clock.specs.Clocks.{clock_told, clock_entries, whole_clock}
use Rattle.op_clock.specs.OpClocks.{op_clock_told, op_entries, whole_op_clock}
use Rattle.missing.specs.Missing.{missing_told, missing_hashes}
use Rattle.deps.specs.Deps.{deps_told, hash_deps, node_deps}
use Rattle.ancestors.specs.Ancestors.{removed_told, outside_bytes}
use Rattle.hub_answer.specs.Asks.{reply_number, of_listed, of_place, of_yes_no}
use Rattle.answer_buffer.specs.Answers.{Listed, Place, YesNo}
use Rattle.answer_buffer.specs.declared.Refusal.TheVariants.{Malformed, NotFound, NoOwner, Short}
use Rattle.std.specs.Prelude.{true, false, Ok, Err}

-- ---- the shape

-- 15 exactly where the list does not fit
pub room_agrees : (l : List ℕ) (room : ℕ) → listed_number (list_answer l room) ≡ number (judged_room (length l) room)
unfolding list_answer judged_room
room_agrees l room =
    by_bool (leb (length l) room) (λ y. rw (y, le-ltb room (length l) (leb-true (length l) room y)))
    (λ n. rw (n, lt-ltb room (length l) (leb-false (length l) room n)))

-- what is asked with is well shaped and the list is answered, or it is not
pub list_agrees : (well : Bool) (l : List ℕ) (n room : ℕ) → length l ≡ n → listed_number (cond well (list_answer l room) (Err Malformed)) ≡ number (judged_question (not well) false done n room)
unfolding judged_question
list_agrees true l n room e = room_agrees l room ∙ ap (λ (m : ℕ). number (judged_room m room)) e
list_agrees false l n room e = refl

-- nothing is written into the buffer: 15 is not given
shown_agrees : (well : Bool) (n room : ℕ) → listed_number (cond well (Ok n) (Err Malformed)) ≡ number (judged_question (not well) false done 0 room)
unfolding judged_question judged_room
shown_agrees true n room = rw (le-ltb room 0 (omega arith))
shown_agrees false n room = refl

-- a node's hash is answered, or it is refused
pub node_agrees : (g : Graph) (k : ℕ) (refusal : Listed) (o : Outcome) (room : ℕ) → listed_number refusal ≡ number o → listed_number (node_hash g k refusal room) ≡ number (judged_node g k o room)
unfolding node_hash judged_node judged_question
node_agrees g k refusal o room e =
    by_bool (ltb k g.size) (λ y. rw (y, lt-leb g.size k (ltb-true k g.size y)) (room_agrees (g.hash k) room))
    (λ n. rw (n, le-leb g.size k (ltb-false k g.size n)) e)

-- the number that a C function gives is that of the answer
pub listed_reply : (a : Listed) → reply_number (of_listed a) ≡ listed_number a
listed_reply (Ok n) = refl
listed_reply (Err Malformed) = refl
listed_reply (Err NotFound) = refl
listed_reply (Err NoOwner) = refl
listed_reply (Err Short) = refl

pub place_reply : (a : Place) → reply_number (of_place a) ≡ place_number a
place_reply a = listed_reply a

pub yes_no_reply : (a : YesNo) → reply_number (of_yes_no a) ≡ yes_no_number a
yes_no_reply (Ok b) = refl
yes_no_reply (Err Malformed) = refl
yes_no_reply (Err NotFound) = refl
yes_no_reply (Err NoOwner) = refl
yes_no_reply (Err Short) = refl

-- a list that goes through a function keeps its length
map_long : {A B : Type 0} (f : A → B) (l : List A) → length (map f l) ≡ length l
map_long f [] = refl
map_long f (x ∷ l) = ap suc (map_long f l)

not_and : (a b : Bool) → not (a && b) ≡ (not a || not b)
not_and true b = refl
not_and false b = refl

-- ---- one hash, one node

module _ (g : Graph) where
  pub look_up_agrees : (h : List ℕ) → place_number (looked_up g h) ≡ number (judged_look_up g h)
  unfolding looked_up judged_look_up judged_question judged_room not_hash
  look_up_agrees h =
      by_bool (one_hash h)
      (λ w.
      rw w
      (by_bool (ltb (node g h) g.size) (λ y. rw (y, lt-leb g.size (node g h) (ltb-true (node g h) g.size y)))
      (λ n. rw (n, le-leb g.size (node g h) (ltb-false (node g h) g.size n)))))
      (λ b. rw b)

  -- yes and no have the number 0
  told : (well b : Bool) → yes_no_number (cond well (Ok b) (Err Malformed)) ≡ number (judged_question (not well) false done 0 0)
  unfolding judged_question judged_room
  told true b = refl
  told false b = refl

  pub has_agrees : (h : List ℕ) → yes_no_number (has g h) ≡ number (judged_known h)
  unfolding has judged_known not_hash
  has_agrees h = told (one_hash h) (ltb (node g h) g.size)

  pub current_agrees : (bytes : List ℕ) → yes_no_number (current_told g bytes) ≡ number (judged_current bytes)
  unfolding current_told judged_current not_hashes
  current_agrees bytes = told (whole_list bytes) (current g bytes)

  pub index_agrees : (k room : ℕ) → listed_number (node_hash g k (Err NotFound) room) ≡ number (judged_index g k room)
  unfolding judged_index
  index_agrees k room = node_agrees g k (Err NotFound) not_found room refl

  pub actor_seq_agrees : (a q room : ℕ) → listed_number (node_hash g (change_at g a q) (Err NotFound) room) ≡ number (judged_actor_seq g a q room)
  unfolding judged_actor_seq
  actor_seq_agrees a q room = node_agrees g (change_at g a q) (Err NotFound) not_found room refl

  pub owner_agrees : (a c room : ℕ) → listed_number (node_hash g (owner g a c) (Err NoOwner) room) ≡ number (judged_owner g a c room)
  unfolding judged_owner
  owner_agrees a c room = node_agrees g (owner g a c) (Err NoOwner) no_owner room refl

  -- ---- lists

  pub heads_agree : (room : ℕ) → listed_number (list_answer (head_hashes g) room) ≡ number (judged_heads g room)
  unfolding judged_heads head_hashes
  heads_agree room = list_agrees true (head_hashes g) _ room refl

  pub head_nodes_agree : (room : ℕ) → listed_number (list_answer (head_places g) room) ≡ number (judged_head_nodes g room)
  unfolding judged_head_nodes head_places nodes
  head_nodes_agree room = list_agrees true (head_places g) (length (heads g)) room (map_long (node g) (heads g))

  pub deps_agree : (h : List ℕ) (room : ℕ) → listed_number (deps_told g h room) ≡ number (judged_deps g h room)
  unfolding deps_told judged_deps not_hash hash_deps node_deps
  deps_agree h room = list_agrees (one_hash h) (hash_deps g h) _ room refl

  pub missing_agrees : (have : List ℕ) (room : ℕ) → listed_number (missing_told g have room) ≡ number (judged_missing g have room)
  unfolding missing_told judged_missing not_hashes missing_hashes
  missing_agrees have room =
      by_bool (eqb (length have) 0) (λ y. rw y (shown_agrees (whole_list have) (32 * g.size) room))
      (λ n. rw n (list_agrees (whole_list have) (missing_hashes g have) _ room refl))

  pub outside_agrees : (list of : List ℕ) (room : ℕ) → listed_number (removed_told g list of room) ≡ number (judged_outside g list of room)
  unfolding removed_told judged_outside not_hashes outside_bytes
  outside_agrees list of room = rw (← not_and (whole_list list) (whole_list of)) (list_agrees (whole_list list && whole_list of) (outside_bytes g list of) _ room refl)

module _ (t : Tables) where
  pub clock_agrees : (bytes : List ℕ) (room : ℕ) → listed_number (clock_told t bytes room) ≡ number (judged_clock (hub t) bytes room)
  unfolding clock_told judged_clock not_hashes
  clock_agrees bytes room = list_agrees (whole_list bytes) (whole_clock t bytes) (actors t) room (length_each (clock_entries (graph t) bytes) (actors t))

  pub op_clock_agrees : (bytes : List ℕ) (room : ℕ) → listed_number (op_clock_told t bytes room) ≡ number (judged_clock (hub t) bytes room)
  unfolding op_clock_told judged_clock not_hashes
  op_clock_agrees bytes room = list_agrees (whole_list bytes) (whole_op_clock t bytes) (actors t) room (length_each (op_entries (graph t) bytes) (actors t))

  pub actors_agree : (w : Which) (room : ℕ) → listed_number (list_answer (actor_list t w) room) ≡ number (judged_actors (hub t) (actor_listed (graph t) w) room)
  unfolding judged_actors actor_list
  actors_agree w room = list_agrees true (actor_list t w) (tally (actor_listed (graph t) w) (actors t)) room (pick_length (actor_listed (graph t) w) (actors t))
