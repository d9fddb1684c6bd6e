-- What `cg_add` leaves in the place for the unknown dependency; a known change is accepted and changes nothing, and its number is answered for no other.
-- Assumes nothing.
use Rattle.std.specs.Prelude.{◌≡◌, refl, Bool, true, false, not, cond, ◌||◌, List, ℕ, suc, ◌+◌, ◌%◌, ◌<◌, eqb, ltb, leb, length, Ok, Err}
use Rattle.std.proofs.Common.{sym, ap, ◌∙◌, arith}
use Rattle.std.proofs.Math.Decide.{ℕ_discrete}
use borrow.Author.Tests.{eqb-true, eqb-false, eq-eqb, lt-ltb, ltb-true, ltb-false}
use Rattle.paper.specs.Lists.{hashes_of}
use Rattle.paper.specs.Numbers.{Outcome, number, done, not_valid, malformed, already_known, unknown_dependency, no_actor, wrong_sequence, wrong_ops, many_dependencies, no_node_room, no_edge_room}
use Rattle.paper.specs.Graph.{node}
use Rattle.paper.specs.Adding.{Hub, Change, Verdict, plain, unknown, outcome, seq_for_actor, edges_used, first_unknown_place, judged}
use Rattle.paper.proofs.Bools.{by_bool, not-both}
use Rattle.tables.specs.Tables.{Tables, graph}
use Rattle.tables.specs.Valid.{Valid}
use Rattle.judge.specs.Hub.{hub}
use Rattle.judge.specs.HubLaws.{judged_agrees}
use Rattle.judge.specs.Judge.{tables_judged, judged_number, verdict}
use Rattle.judge.specs.Judged.{Judged}
use Rattle.judge.specs.declared.AddRefusal.TheVariants.{Malformed, Known, Unknown, NoActor, WrongSequence, BadOps, TooManyDeps, NoNodeRoom, NoEdgeRoom}
use Rattle.lent_place.specs.Places.{told_in}
use Rattle.hub_add.specs.Operations.{unknown_in, Added}
use Rattle.demands.specs.Operations.{add}
use Rattle.demands.proofs.OperationLaws.{refused_keeps}
use Rattle.demands.specs.RefusalLaws.{stable}
use Rattle.demands.specs.Ties.{is_add}
use Rattle.demands.specs.Adds.{KnownChange, AddLeaves}

-- ---- the paper's judgement, from its number back

-- the first three tests, and then the rest
abbrev firsts : Bool → Bool → Bool → ℕ → Verdict → Verdict
firsts m k f i w = cond m (plain malformed) (cond k (plain already_known) (cond f (unknown i) w))

-- the verdict's number is n
abbrev HasNumber : ℕ → Verdict → Type 0
HasNumber n v = number (outcome v) ≡ n

number_known : (m k f : Bool) (i : ℕ) (w : Verdict) → (HasNumber (number already_known) w → ⊥) → HasNumber (number already_known) (firsts m k f i w) → (m ≡ false) × (k ≡ true)
number_known true k f i w n e = absurd (omega arith)
number_known false true f i w n e = (refl, refl)
number_known false false true i w n e = absurd (omega arith)
number_known false false false i w n e = absurd (n e)

number_unknown : (m k f : Bool) (i : ℕ) (w : Verdict) → (HasNumber (number unknown_dependency) w → ⊥) → HasNumber (number unknown_dependency) (firsts m k f i w) → (f ≡ true) × (firsts m k f i w ≡ unknown i)
number_unknown true k f i w n e = absurd (omega arith)
number_unknown false true f i w n e = absurd (omega arith)
number_unknown false false true i w n e = (refl, refl)
number_unknown false false false i w n e = absurd (n e)

-- the tests after the first three
abbrev laters : Bool → Bool → Bool → Bool → Bool → Bool → Verdict
laters a s o d n e =
    cond a (plain no_actor) (cond s (plain wrong_sequence) (cond o (plain wrong_ops) (cond d (plain many_dependencies) (cond n (plain no_node_room) (cond e (plain no_edge_room) (plain done))))))

laters_not : (k : ℕ) → number done < k → k < number no_actor → (a s o d n e : Bool) → HasNumber k (laters a s o d n e) → ⊥
laters_not k l h true s o d n e q = omega arith
laters_not k l h false true o d n e q = omega arith
laters_not k l h false false true d n e q = omega arith
laters_not k l h false false false true n e q = omega arith
laters_not k l h false false false false true e q = omega arith
laters_not k l h false false false false false true q = omega arith
laters_not k l h false false false false false false q = omega arith

-- neither test fails
shaped : (a b : Bool) → (not a || not b) ≡ false → (a ≡ true) × (b ≡ true)
shaped true true e = (refl, refl)
shaped true false e = not-both {b = true} refl e
shaped false b e = not-both {b = true} refl e

module _ (u : Hub) (x : Change) where
  abbrev hs : List (List ℕ)
  hs = hashes_of x.deps

  abbrev wrong : Bool
  wrong = not (eqb (length x.hash) 32) || not (eqb (length x.deps % 32) 0)

  abbrev there : Bool
  there = ltb (node u.graph x.hash) u.graph.size

  abbrev gap : Bool
  gap = ltb (first_unknown_place u.graph hs) (length hs)

  abbrev later : Verdict
  later = laters (leb u.actors x.actor) (not (eqb x.seq (suc (seq_for_actor u.graph x.actor)))) (ltb 4294967295 x.max_op || ltb x.max_op x.ops) (ltb 32 (length hs)) (leb u.change_room u.graph.size) (ltb u.edge_room (edges_used u.graph + length hs))

  later_not : (k : ℕ) → number done < k → k < number no_actor → HasNumber k later → ⊥
  later_not k l h = laters_not k l h (leb u.actors x.actor) (not (eqb x.seq (suc (seq_for_actor u.graph x.actor)))) (ltb 4294967295 x.max_op || ltb x.max_op x.ops) (ltb 32 (length hs)) (leb u.change_room u.graph.size) (ltb u.edge_room (edges_used u.graph + length hs))

  known_judged : KnownChange u.graph x → judged u x ≡ plain already_known
  unfolding judged
  known_judged k = rw (eq-eqb (length x.hash) 32 k.hash_long, eq-eqb (length x.deps % 32) 0 k.deps_whole, lt-ltb (node u.graph x.hash) u.graph.size k.known)

  judged_known : HasNumber (number already_known) (judged u x) → KnownChange u.graph x
  unfolding judged
  judged_known e =
      let s = number_known wrong there gap (first_unknown_place u.graph hs) later (later_not (number already_known) (omega arith) (omega arith)) e in
      let w = shaped (eqb (length x.hash) 32) (eqb (length x.deps % 32) 0) s.0 in
      record {
        hash_long = eqb-true (length x.hash) 32 w.0;
        deps_whole = eqb-true (length x.deps % 32) 0 w.1;
        known = ltb-true (node u.graph x.hash) u.graph.size s.1;
      }

  judged_unknown : HasNumber (number unknown_dependency) (judged u x) → (first_unknown_place u.graph hs < length hs) × (judged u x ≡ unknown (first_unknown_place u.graph hs))
  unfolding judged
  judged_unknown e =
      let s = number_unknown wrong there gap (first_unknown_place u.graph hs) later (later_not (number unknown_dependency) (omega arith) (omega arith)) e in
      (ltb-true (first_unknown_place u.graph hs) (length hs) s.0, s.1)

-- ---- numbers that are not different are the same

stable_eq : (a b : ℕ) → ((a ≡ b → ⊥) → ⊥) → a ≡ b
stable_eq a b n = by_bool (eqb a b) (eqb-true a b) (λ f. absurd (n (eqb-false a b f)))

stable_lt : (a b : ℕ) → ((a < b → ⊥) → ⊥) → a < b
stable_lt a b n = by_bool (ltb a b) (ltb-true a b) (λ f. absurd (n (λ l. let g = ltb-false a b f in omega arith)))

-- ---- the place

abbrev position : Verdict → ℕ
position (plain o) = 0
position (unknown i) = i

plain_not : {C : Type 0} (o : Outcome) (i : ℕ) → plain o ≡ unknown i → C
plain_not o i e = let z : ◌≡◌ {A = ℕ} 0 1 = cc in absurd (omega arith)

told_first : (j : Judged) (i : ℕ) (l : List ℕ) → verdict j ≡ unknown i → unknown_in j l ≡ told_in i l
told_first (Err (Unknown k)) i l e = ap (λ (n : ℕ). told_in n l) (ap position e)
told_first (Ok u) i l e = plain_not done i e
told_first (Err Malformed) i l e = plain_not malformed i e
told_first (Err Known) i l e = plain_not already_known i e
told_first (Err NoActor) i l e = plain_not no_actor i e
told_first (Err WrongSequence) i l e = plain_not wrong_sequence i e
told_first (Err BadOps) i l e = plain_not wrong_ops i e
told_first (Err TooManyDeps) i l e = plain_not many_dependencies i e
told_first (Err NoNodeRoom) i l e = plain_not no_node_room i e
told_first (Err NoEdgeRoom) i l e = plain_not no_edge_room i e

untold : (j : Judged) (l : List ℕ) → (judged_number j ≡ number unknown_dependency → ⊥) → unknown_in j l ≡ l
untold (Err (Unknown k)) l n = absurd (n refl)
untold (Ok u) l n = refl
untold (Err Malformed) l n = refl
untold (Err Known) l n = refl
untold (Err NoActor) l n = refl
untold (Err WrongSequence) l n = refl
untold (Err BadOps) l n = refl
untold (Err TooManyDeps) l n = refl
untold (Err NoNodeRoom) l n = refl
untold (Err NoEdgeRoom) l n = refl

module _ (x : Change) (l l' : List ℕ) (t : Tables) (r : ℕ) (t' : Tables) (p : Added x l l' t r t') where
  abbrev first : ℕ
  first = first_unknown_place (graph t) (hashes_of x.deps)

  -- the number is the paper's, where the tables are valid
  judged_number_lem : Valid t → r ≡ number (outcome (judged (hub t) x))
  judged_number_lem v = (p.tables.met v).0 ∙ ap (λ (w : Verdict). number (outcome w)) (judged_agrees t x v.sound)

  -- a number above that of tables that are not valid is not given for such
  not_invalid : number not_valid < r → (Valid t → ⊥) → ⊥
  not_invalid l n = let u = p.tables.unmet n in omega (arith, u.0)

  place_stays : (r ≡ number unknown_dependency → ⊥) → l' ≡ l
  place_stays n = stable l' l (λ d. d (p.place.unmet (λ v. d (p.place.met v ∙ untold (tables_judged t x) l (λ e. n ((p.tables.met v).0 ∙ e))))))

  place_names : r ≡ number unknown_dependency → l' ≡ told_in first l
  place_names e =
      stable l' (told_in first l)
      (λ d.
      not_invalid (omega arith)
      (λ v. d (p.place.met v ∙ told_first (tables_judged t x) first l (judged_agrees t x v.sound ∙ (judged_unknown (hub t) x (sym (judged_number_lem v) ∙ e)).1))))

  pub add_leaves : AddLeaves x l l' t r t'
  add_leaves = record {
    tables_kept = refused_keeps (add x) t t' r (is_add x l l' t r t' p);
    place_kept = place_stays;
    place_told = place_names;
    position_low = λ e. stable_lt first (length (hashes_of x.deps)) (λ d. not_invalid (omega arith) (λ v. d (judged_unknown (hub t) x (sym (judged_number_lem v) ∙ e)).0));
    no_place = λ e. elim (ℕ_discrete r (number unknown_dependency)) [
      | yes q ↦ place_names q ∙ ap (λ (k : List ℕ). told_in first k) e
      | no n ↦ place_stays n ∙ e
    ];
  }

  -- ---- a known change

  pub known_accepted : Valid t → KnownChange (graph t) x → (r ≡ number already_known) × (t' ≡ t) × (l' ≡ l)
  known_accepted v k =
      let e : r ≡ number already_known = judged_number_lem v ∙ ap (λ (w : Verdict). number (outcome w)) (known_judged (hub t) x k) in
      (e, add_leaves.tables_kept (λ z. omega arith), add_leaves.place_kept (λ z. omega arith))

  -- the number is given for no other change
  pub known_exactly : r ≡ number already_known → KnownChange (graph t) x
  known_exactly e = record {
    hash_long = stable_eq (length x.hash) 32 (λ d. from (λ k. d k.hash_long));
    deps_whole = stable_eq (length x.deps % 32) 0 (λ d. from (λ k. d k.deps_whole));
    known = stable_lt (node (graph t) x.hash) (graph t).size (λ d. from (λ k. d k.known));
  }
    where
      from : (KnownChange (graph t) x → ⊥) → ⊥
      from d = not_invalid (omega arith) (λ v. d (judged_known (hub t) x (sym (judged_number_lem v) ∙ e)))
