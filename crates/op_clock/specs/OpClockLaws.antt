-- The op clock from the sequence clock in one pass over the nodes, and each answer from its condition.
-- Assumes nothing.
use Rattle.std.specs.Prelude.{◌≡◌, refl, Bool, true, false, cond, ◌&&◌, List, ◌++◌, ℕ, zero, suc, ◌+◌, ◌-◌, ◌%◌, ◌≤◌, ◌<◌, eqb, length, drop, get_or, set, replicate}
use Rattle.std.proofs.Math.Path.{sym, ap}
use Rattle.std.proofs.Common.{◌∙◌, add-one, arith, length-set, get_or-set_same, get_or-set_other, eq-eqb, ne_eqb, eqb-true}
use Rattle.std.proofs.Math.Logic.{⊎_elim}
use Rattle.std.proofs.lemmas.List.{length-replicate}
use Rattle.std.proofs.lemmas.Bool.{eqb-false}
use Rattle.paper.specs.Lists.{each_below, first_below}
use Rattle.paper.specs.Graph.{Graph, change_at, max_op_of, op_clock, ValidGraph as ValidGraph}
use Rattle.paper.proofs.Bools.{by_bool, to_false, not-both, and_fst, and_snd, below_or_not}
use Rattle.paper.proofs.First.{first_says}
use Rattle.paper.proofs.Chain.{same_node}
use Rattle.paper.proofs.Each.{length_each, to_each, each_ext}
use Rattle.tables.specs.Tables.{Tables, graph, changes, actors, actor_at, seq_at, max_op_at}
use Rattle.tables.specs.Valid.{Valid}
use Rattle.tables.specs.DepsLaws.{valid_graph}
use Rattle.walk.specs.Whole.{cleared}
use Rattle.lookups.specs.LookupLaws.{max_op_known, max_op_none}
use Rattle.answer_buffer.specs.Answers.{list_answer, filled}
use Rattle.answer_buffer.specs.AnswerLaws.{filled_done}
use Rattle.answer_buffer.specs.Room.{room, actor_low}
use Rattle.list_clock.specs.Clocks.{clock_entries, Entries}
use Rattle.op_clock.specs.OpClocks.{op_entries, whole_op_clock, op_clock_told, op_clock_filled, latest, latest_at, Placed}
use Rattle.answer_buffer.specs.declared.Refusal.TheVariants.{Malformed}
use Rattle.std.specs.Prelude.{Err}

-- ---- the last that passes, where no more than one does

latest_none : (p : ℕ → Bool) (f : ℕ → ℕ) (m : ℕ) → ((j : ℕ) → j < m → p j ≡ false) → latest p f m ≡ 0
unfolding latest
latest_none p f zero h = refl
latest_none p f (suc m) h = rw (h m (omega arith)) (latest_none p f m (λ j l. h j (omega arith)))

latest_is : (p : ℕ → Bool) (f : ℕ → ℕ) (m k : ℕ) → k < m → p k ≡ true → ((j : ℕ) → j < m → p j ≡ true → j ≡ k) → latest p f m ≡ f k
unfolding latest
latest_is p f zero k l t one = absurd (omega arith)
latest_is p f (suc m) k l t one =
    by_bool (p m)
    (λ y. rw y (ap f (one m (omega arith) y)))
    (λ n. rw n (latest_is p f m k (lower n) t (λ j b. one j (omega arith))))
  where
    lower : p m ≡ false → k < m
    lower n = ⊎_elim (λ b. b) (λ b. let e : k ≡ m = omega arith in not-both t (ap p e ∙ n)) (below_or_not k m)

-- ---- on valid graphs it is the op clock: no two changes of an actor have the same sequence

module _ (g : Graph) (v : ValidGraph g) (a q : ℕ) where
  abbrev here : ℕ → Bool
  here k = eqb (g.actor k) a && eqb (g.seq k) q

  is_here : (j : ℕ) → here j ≡ true → (g.actor j ≡ a) × (g.seq j ≡ q)
  is_here j t = (eqb-true (g.actor j) a (and_fst (eqb (g.actor j) a) (eqb (g.seq j) q) t), eqb-true (g.seq j) q (and_snd (eqb (g.actor j) a) (eqb (g.seq j) q) t))

  pub latest_change : latest (λ k. eqb (g.actor k) a && eqb (g.seq k) q) g.max_op g.size ≡ max_op_of g (change_at g a q)
  unfolding change_at
  latest_change =
      let s = first_says here g.size in
      ⊎_elim
      (λ l.
      let t = s.passes l in
      let w = is_here (first_below here g.size) t in
      latest_is here g.max_op g.size (first_below here g.size) l t (λ j b y. let z = is_here j y in same_node g v j (first_below here g.size) b l (z.0 ∙ sym w.0) (z.1 ∙ sym w.1))
      ∙ sym (max_op_known g (first_below here g.size) l))
      (λ l. latest_none here g.max_op g.size (λ j b. s.none_before j (omega arith)) ∙ sym (max_op_none g (first_below here g.size) l))
      (below_or_not (first_below here g.size) g.size)

-- ---- the pass: out has the entries for the first k nodes

pub record Passing (ns clock : List ℕ) (n w : ℕ) (out : List ℕ) (k : ℕ) : Type 0 where
  pub inside : k ≤ n
  pub long : length out ≡ w
  pub each : (a : ℕ) → a < w → get_or out a 0 ≡ latest_at ns clock k a

pub passing_start : (ns clock : List ℕ) (n w : ℕ) (out : List ℕ) → out ≡ replicate w 0 → Passing ns clock n w out 0
unfolding latest_at latest
passing_start ns clock n w out e = record {
  inside = omega arith;
  long = ap length e ∙ length-replicate {A = ℕ} w 0;
  each = λ a l. ap (λ (o : List ℕ). get_or o a 0) e ∙ cleared w a;
}

latest_next : (ns clock : List ℕ) (k a : ℕ) → latest_at ns clock (k + 1) a ≡ cond (eqb (actor_at ns k) a && eqb (seq_at ns k) (get_or clock a 0)) (max_op_at ns k) (latest_at ns clock k a)
unfolding latest_at latest
latest_next ns clock k a = rw (add-one k) refl

module _ {ns clock : List ℕ} {n w : ℕ} {out : List ℕ} {k : ℕ} (p : Passing ns clock n w out k) where
  pub passing_next : k < n → actor_at ns k < w → Passing ns clock n w (set out (actor_at ns k) (cond (eqb (seq_at ns k) (get_or clock (actor_at ns k) 0)) (max_op_at ns k) (get_or out (actor_at ns k) 0))) (k + 1)
  passing_next l b = record {
    inside = omega arith;
    long = length-set out (actor_at ns k) _ ∙ p.long;
    each =
        λ a h.
        by_bool (eqb (actor_at ns k) a)
        (λ t.
        let e = eqb-true (actor_at ns k) a t in
        let v = cond (eqb (seq_at ns k) (get_or clock (actor_at ns k) 0)) (max_op_at ns k) (get_or out (actor_at ns k) 0) in
        ap (λ (x : ℕ). get_or (set out (actor_at ns k) v) x 0) (sym e)
        ∙ get_or-set_same out (actor_at ns k) v 0 (let i = p.long in omega arith)
        ∙ ap (λ (x : ℕ). cond (eqb (seq_at ns k) (get_or clock x 0)) (max_op_at ns k) (get_or out x 0)) e
        ∙ ap (cond (eqb (seq_at ns k) (get_or clock a 0)) (max_op_at ns k)) (p.each a h)
        ∙ sym (latest_next ns clock k a ∙ ap (λ (b : Bool). cond (b && eqb (seq_at ns k) (get_or clock a 0)) (max_op_at ns k) (latest_at ns clock k a)) t))
        (λ f.
        let d = eqb-false (actor_at ns k) a f in
        get_or-set_other out (actor_at ns k) a _ 0 (λ q. d (sym q)) ∙ p.each a h ∙ sym (latest_next ns clock k a ∙ ap (λ (b : Bool). cond (b && eqb (seq_at ns k) (get_or clock a 0)) (max_op_at ns k) (latest_at ns clock k a)) f));
  }

  -- node k has its actor's entry
  pub passing_hit : k < n → actor_at ns k < w → seq_at ns k ≡ get_or clock (actor_at ns k) 0 → Passing ns clock n w (set out (actor_at ns k) (max_op_at ns k)) (k + 1)
  passing_hit l b e = rw (eq-eqb (seq_at ns k) (get_or clock (actor_at ns k) 0) e) at (passing_next l b)

  -- it does not
  pub passing_skip : k < n → (seq_at ns k ≡ get_or clock (actor_at ns k) 0 → ⊥) → Passing ns clock n w out (k + 1)
  passing_skip l d = record {
    inside = omega arith;
    long = p.long;
    each =
        λ a h.
        let no : (eqb (actor_at ns k) a && eqb (seq_at ns k) (get_or clock a 0)) ≡ false =
        to_false (eqb (actor_at ns k) a && eqb (seq_at ns k) (get_or clock a 0))
        (λ t.
        let e = eqb-true (actor_at ns k) a (and_fst (eqb (actor_at ns k) a) (eqb (seq_at ns k) (get_or clock a 0)) t) in
        let q = eqb-true (seq_at ns k) (get_or clock a 0) (and_snd (eqb (actor_at ns k) a) (eqb (seq_at ns k) (get_or clock a 0)) t) in
        d (q ∙ ap (λ (x : ℕ). get_or clock x 0) (sym e))) in
        p.each a h ∙ sym (latest_next ns clock k a ∙ ap (λ (b : Bool). cond b (max_op_at ns k) (latest_at ns clock k a)) no);
  }

  pub passing_end : n ≤ k → out ≡ each_below (latest_at ns clock n) w
  passing_end l =
      let e : k ≡ n = (let i = p.inside in omega arith) in
      to_each (latest_at ns clock n) w out p.long (λ a h. p.each a h ∙ ap (λ (i : ℕ). latest_at ns clock i a) e)

-- ---- the op clock of a list, from its sequence clock

module _ (t : Tables) (v : Valid t) (bytes clock₀ clock : List ℕ) (e : Entries t bytes clock₀ clock) where
  pub ops_are : (w : ℕ) → w ≡ actors t → each_below (latest_at t.nodes clock (changes t)) w ≡ whole_op_clock t bytes
  unfolding latest_at op_entries op_clock clock_entries
  ops_are w q =
      ap (each_below (latest_at t.nodes clock (changes t))) q
      ∙ each_ext (latest_at t.nodes clock (changes t)) (op_entries (graph t) bytes) (actors t)
      (λ a l.
      latest_change (graph t) (valid_graph t v.sound) a (get_or clock a 0)
      ∙ ap (λ (x : ℕ). max_op_of (graph t) (change_at (graph t) a x)) (e.each a l))

  pub placed : 64 ≤ length clock₀ → (w : ℕ) → w ≡ actors t → Placed t.nodes (changes t) clock w
  placed l w q = record {
    inside = (room t v).nodes_in;
    few = (room t v).few;
    wide = (let r = (room t v).few_actors in let k = e.long in omega arith);
    actors = λ k b. let a = actor_low t v k b in omega arith;
  }

-- ---- each answer

module _ (t : Tables) (bytes : List ℕ) where
  pub ops_bad : (length bytes % 32 ≡ 0 → ⊥) → (room : ℕ) → op_clock_told t bytes room ≡ Err Malformed
  unfolding op_clock_told
  ops_bad n room = rw (ne_eqb (length bytes % 32) 0 n)

  pub unfilled_bad : (length bytes % 32 ≡ 0 → ⊥) → (out : List ℕ) → op_clock_filled t bytes out ≡ out
  unfolding op_clock_filled
  unfilled_bad n out = rw (ne_eqb (length bytes % 32) 0 n)

  pub ops_good : length bytes % 32 ≡ 0 → (room : ℕ) → op_clock_told t bytes room ≡ list_answer (whole_op_clock t bytes) room
  unfolding op_clock_told
  ops_good e room = rw (eq-eqb (length bytes % 32) 0 e)

  pub filled_good : length bytes % 32 ≡ 0 → (out : List ℕ) → op_clock_filled t bytes out ≡ filled (whole_op_clock t bytes) out
  unfolding op_clock_filled
  filled_good e out = rw (eq-eqb (length bytes % 32) 0 e)

  pub ops_long : length (whole_op_clock t bytes) ≡ actors t
  ops_long = length_each (op_entries (graph t) bytes) (actors t)

  -- the part of the buffer that the op clock is written to, and what lies past it
  pub ops_seam : (out last : List ℕ) (a : ℕ) → a ≡ actors t → a ≤ length out → last ≡ whole_op_clock t bytes → last ++ drop (a - 0) out ≡ filled (whole_op_clock t bytes) out
  ops_seam out last a e l s =
      let k = ops_long in
      let z : a - 0 ≡ length (whole_op_clock t bytes) = omega arith in
      ap (λ (x : List ℕ). x ++ drop (a - 0) out) s ∙ ap (λ (i : ℕ). whole_op_clock t bytes ++ drop i out) z ∙ sym (filled_done (whole_op_clock t bytes) out (omega arith))
