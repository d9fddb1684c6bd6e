-- Demand 1 of the questions: whatever tables are lent, the number is one of the paper's, and every number but that of done leaves the buffer and the places.
-- Assumes nothing.
use Rattle.std.specs.Prelude.{◌≡◌, refl, Bool, true, false, cond, ◌&&◌, List, [], ◌∷◌, ◌++◌, ℕ, ◌*◌, leb, ltb, eqb, length, drop}
use Rattle.std.proofs.Common.{◌∙◌}
use Rattle.paper.specs.Numbers.{done, not_valid}
use Rattle.paper.specs.Graph.{Graph, change_at, owner}
use Rattle.tables.specs.Tables.{Tables, graph}
use Rattle.answer_buffer.specs.Answers.{list_answer, filled, whole_list, one_hash, node_hash, node_hash_filled}
use Rattle.lookups.specs.Lookups.{actor_list}
use Rattle.heads.specs.Heads.{head_hashes, head_places}
use Rattle.list_clock.specs.Clocks.{whole_clock, clock_told, clock_filled}
use Rattle.op_clock.specs.OpClocks.{whole_op_clock, op_clock_told, op_clock_filled}
use Rattle.missing.specs.Missing.{missing_hashes, missing_told, missing_filled}
use Rattle.deps.specs.Deps.{hash_deps, deps_told, deps_filled}
use Rattle.ancestors.specs.Ancestors.{outside_bytes, removed_told, removed_filled}
use Rattle.hub_list_clock.specs.Operations.{ClockOf}
use Rattle.hub_op_clock.specs.Operations.{ClockAt}
use Rattle.hub_missing.specs.Operations.{MissingFrom}
use Rattle.hub_owner.specs.Operations.{OwnerOf}
use Rattle.hub_heads.specs.Operations.{HeadsOf, HeadIndexes}
use Rattle.hub_hashes.specs.Operations.{IndexToHash, HashForActorSeq}
use Rattle.hub_deps.specs.Operations.{DepsForHash}
use Rattle.hub_ancestors.specs.Operations.{RemoveAncestors}
use Rattle.hub_sizes.specs.Operations.{ActorIds, which_of, Len, NumActors}
use Rattle.hub_lookups.specs.Operations.{HashToIndex, HasChange}
use Rattle.hub_counts.specs.Operations.{SeqForActor, MaxOpForActor, MaxOp}
use Rattle.hub_current_heads.specs.Operations.{HeadsAreCurrent}
use Rattle.hub_chained.specs.Operations.{IsChained}
use Rattle.hub_answer.specs.Asks.{Reply, gives, refuses, reply_number, told_by, of_listed}
use Rattle.demands.specs.Refusals.{InTable, NotDone, DemandOne}
use Rattle.demands.specs.RefusalLaws.{in_table, by_answer, either_way}
use Rattle.demands.specs.Questions.{Question, clock_of, clock_at, missing_from, owner_of, heads, head_indexes, index_to_hash, hash_for_actor_seq, deps_for_hash, actor_ids, remove_ancestors, answer_on, buffer_on, Answers, NumberQuestion, hash_to_index, has_change, seq_of_actor, max_op_of_actor, max_op_of_all, how_many, how_many_actors, are_heads, chained_asked, reply_of, number_asked, AnswersNumber}
use Rattle.answer_buffer.specs.Answers.{Listed}
use Rattle.answer_buffer.specs.declared.Refusal.TheVariants.{Malformed, NotFound, NoOwner, Short}
use Rattle.std.specs.Prelude.{Ok, Err}

-- a refusal's number is not that of done
abbrev refused_with : Listed → Type 0
refused_with l = NotDone (reply_number (of_listed l))

list_kept : (l out : List ℕ) → refused_with (list_answer l (length out)) → filled l out ≡ out
unfolding list_answer filled
list_kept l out = go (leb (length l) (length out))
  where
    go : (b : Bool) → refused_with (cond b (Ok (length l)) (Err Short)) → cond b (l ++ drop (length l) out) out ≡ out
    go true n = absurd (n refl)
    go false n = refl

-- behind a test
either_kept : (b : Bool) (a c : Listed) (x out : List ℕ) → (refused_with a → x ≡ out) → refused_with (cond b a c) → cond b x out ≡ out
either_kept true a c x out k n = k n
either_kept false a c x out k n = refl

-- the table itself is shown, or the list goes into the buffer
table_kept : (b : Bool) (n : ℕ) (l out : List ℕ) → refused_with (cond b (Ok n) (list_answer l (length out))) → cond b out (filled l out) ≡ out
table_kept true n l out z = refl
table_kept false n l out z = list_kept l out z

node_kept : (g : Graph) (k : ℕ) (c : Listed) (out : List ℕ) → refused_with (node_hash g k c (length out)) → node_hash_filled g k out ≡ out
unfolding node_hash node_hash_filled
node_kept g k c out = either_kept (ltb k g.size) (list_answer (g.hash k) (length out)) c (filled (g.hash k) out) out (list_kept (g.hash k) out)

kept : (q : Question) (t : Tables) (out : List ℕ) → refused_with (answer_on q (length out) t) → buffer_on q out t ≡ out
unfolding clock_told clock_filled op_clock_told op_clock_filled missing_told missing_filled deps_told deps_filled removed_told removed_filled
kept (clock_of l) t out = either_kept (whole_list l) (list_answer (whole_clock t l) (length out)) (Err Malformed) (filled (whole_clock t l) out) out (list_kept (whole_clock t l) out)
kept (clock_at l) t out = either_kept (whole_list l) (list_answer (whole_op_clock t l) (length out)) (Err Malformed) (filled (whole_op_clock t l) out) out (list_kept (whole_op_clock t l) out)
kept (missing_from have) t out =
    let l = missing_hashes (graph t) have in
    let all : Listed = Ok (32 * (graph t).size) in
    let none = eqb (length have) 0 in
    either_kept (whole_list have) (cond none all (list_answer l (length out))) (Err Malformed) (cond none out (filled l out)) out (table_kept none (32 * (graph t).size) l out)
kept (owner_of a c) t out = node_kept (graph t) (owner (graph t) a c) (Err NoOwner) out
kept heads t out = list_kept (head_hashes (graph t)) out
kept head_indexes t out = list_kept (head_places (graph t)) out
kept (index_to_hash k) t out = node_kept (graph t) k (Err NotFound) out
kept (hash_for_actor_seq a q) t out = node_kept (graph t) (change_at (graph t) a q) (Err NotFound) out
kept (deps_for_hash h) t out = either_kept (one_hash h) (list_answer (hash_deps (graph t) h) (length out)) (Err Malformed) (filled (hash_deps (graph t) h) out) out (list_kept (hash_deps (graph t) h) out)
kept (actor_ids w) t out = list_kept (actor_list t w) out
kept (remove_ancestors l hs) t out =
    let r = outside_bytes (graph t) l hs in
    either_kept (whole_list l && whole_list hs) (list_answer r (length out)) (Err Malformed) (filled r out) out (list_kept r out)

untold : (y : Reply) (told : List ℕ) → NotDone (reply_number y) → told_by y told ≡ told
untold (gives n) told z = absurd (z refl)
untold (refuses o) told z = refl

-- every reply's number is one of the table's
replied : (y : Reply) → InTable (reply_number y)
replied (gives n) = in_table done
replied (refuses o) = in_table o

-- with a buffer
pub question_demand : (q : Question) (out told : List ℕ) (r : ℕ) (out' told' : List ℕ) (t : Tables) → Answers q out told r out' told' t → DemandOne r (out ∷ told ∷ []) (out' ∷ told' ∷ [])
question_demand q out told r out' told' t p =
    let l = answer_on q (length out) t in
    either_way
    (λ v. let s = p.met v in by_answer s.number (replied (of_listed l)) (λ n. both (s.filled ∙ kept q t out n) (s.places ∙ untold (of_listed l) told n)))
    (λ i. let u = p.unmet i in by_answer u.0 (in_table not_valid) (λ _. both u.1 u.2))
  where
    both : out' ≡ out → told' ≡ told → (out' ∷ told' ∷ []) ≡ (out ∷ told ∷ [])
    both a b = rw (a, b)

-- without one
pub number_demand : (q : NumberQuestion) (told : List ℕ) (r : ℕ) (told' : List ℕ) (t : Tables) → AnswersNumber q told r told' t → DemandOne r (told ∷ []) (told' ∷ [])
number_demand q told r told' t p =
    let y = reply_of q (number_asked q t) in
    either_way
    (λ v. let s = p.met v in by_answer s.number (replied y) (λ n. alone (s.places ∙ untold y told n)))
    (λ i. let u = p.unmet i in by_answer u.0 (in_table not_valid) (λ _. alone u.2))
  where
    alone : told' ≡ told → (told' ∷ []) ≡ (told ∷ [])
    alone e = rw e

-- ---- each question's public promise is this one

module _ (out told : List ℕ) (r : ℕ) (out' told' : List ℕ) (t : Tables) where
  pub is_clock_of : (l : List ℕ) → ClockOf l out told r out' told' t → Answers (clock_of l) out told r out' told' t
  is_clock_of l p = p

  pub is_clock_at : (l : List ℕ) → ClockAt l out told r out' told' t → Answers (clock_at l) out told r out' told' t
  is_clock_at l p = p

  pub is_missing : (have : List ℕ) → MissingFrom have out told r out' told' t → Answers (missing_from have) out told r out' told' t
  is_missing have p = p

  pub is_owner : (a c : ℕ) → OwnerOf a c out told r out' told' t → Answers (owner_of a c) out told r out' told' t
  is_owner a c p = p

  pub is_heads : HeadsOf out told r out' told' t → Answers heads out told r out' told' t
  is_heads p = p

  pub is_head_indexes : HeadIndexes out told r out' told' t → Answers head_indexes out told r out' told' t
  is_head_indexes p = p

  pub is_index_to_hash : (k : ℕ) → IndexToHash k out told r out' told' t → Answers (index_to_hash k) out told r out' told' t
  is_index_to_hash k p = p

  pub is_hash_for_actor_seq : (a q : ℕ) → HashForActorSeq a q out told r out' told' t → Answers (hash_for_actor_seq a q) out told r out' told' t
  is_hash_for_actor_seq a q p = p

  pub is_deps_for_hash : (h : List ℕ) → DepsForHash h out told r out' told' t → Answers (deps_for_hash h) out told r out' told' t
  is_deps_for_hash h p = p

  pub is_actor_ids : (w : ℕ) → ActorIds w out told r out' told' t → Answers (actor_ids (which_of w)) out told r out' told' t
  is_actor_ids w p = p

  pub is_remove_ancestors : (l hs : List ℕ) → RemoveAncestors l hs out told r out' told' t → Answers (remove_ancestors l hs) out told r out' told' t
  is_remove_ancestors l hs p = p

module _ (told : List ℕ) (r : ℕ) (told' : List ℕ) (t : Tables) where
  pub is_hash_to_index : (h : List ℕ) → HashToIndex h told r told' t → AnswersNumber (hash_to_index h) told r told' t
  is_hash_to_index h p = p

  pub is_has_change : (h : List ℕ) → HasChange h told r told' t → AnswersNumber (has_change h) told r told' t
  is_has_change h p = p

  pub is_seq_for_actor : (a : ℕ) → SeqForActor a told r told' t → AnswersNumber (seq_of_actor a) told r told' t
  is_seq_for_actor a p = p

  pub is_max_op_for_actor : (a : ℕ) → MaxOpForActor a told r told' t → AnswersNumber (max_op_of_actor a) told r told' t
  is_max_op_for_actor a p = p

  pub is_max_op : MaxOp told r told' t → AnswersNumber max_op_of_all told r told' t
  is_max_op p = p

  pub is_len : Len told r told' t → AnswersNumber how_many told r told' t
  is_len p = p

  pub is_num_actors : NumActors told r told' t → AnswersNumber how_many_actors told r told' t
  is_num_actors p = p

  pub is_heads_are_current : (l : List ℕ) → HeadsAreCurrent l told r told' t → AnswersNumber (are_heads l) told r told' t
  is_heads_are_current l p = p

  pub is_chained : IsChained told r told' t → AnswersNumber chained_asked told r told' t
  is_chained p = p
