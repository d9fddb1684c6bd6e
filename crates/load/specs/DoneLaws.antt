-- What an accepted load gives, and the tables opened for it.
-- Assumes nothing.
use Rattle.std.proofs.Math.Path.{refl}
use Rattle.std.specs.Prelude.{◌≡◌, Err, true, List, ℕ, ◌%◌, ◌≤◌, eqb, ltb, length, set, []}
use Rattle.std.proofs.Common.{sym, ap, ◌∙◌, subst, arith, eq-eqb, ne_eqb, eqb-true, ltb-false}
use Rattle.paper.specs.Numbers.{Outcome, number, done}
use Rattle.paper.specs.Loading.{Columns, listed_changes, deps_before, agree, judged_load, changes_of}
use Rattle.paper.proofs.Bools.{by_bool}
use Rattle.paper.proofs.Loading.{Agreed}
use Rattle.tables.specs.Tables.{Tables, tables, change_room_of, edge_room_of, actor_room}
use Rattle.tables.specs.Valid.{Lengths, Valid}
use Rattle.graph.specs.Place.{adds}
use Rattle.columns.specs.declared.LoadRefusal.{LoadRefusal}
use Rattle.columns.specs.declared.LoadRefusal.TheVariants.{Malformed, NoActorRoom, Disagree, NoNodeRoom, NoEdgeRoom}
use Rattle.columns.specs.Columns.{loading_outcome, columns}
use Rattle.actors.specs.Actors.{opened}
use Rattle.actors.specs.ActorLaws.{three}
use Rattle.actors.specs.Lives.{opened_valid}
use Rattle.load.specs.Load.{loading, loaded, Fillable}

-- ---- accepted

-- every refusal's condition fails
pub record Taken (n e a : ℕ) (c : Columns) : Type 0 where
  pub hashes_whole : length c.hashes % 32 ≡ 0
  pub heads_whole : length c.heads % 32 ≡ 0
  pub actors_fit : c.actor_count ≤ a
  pub agreeing : agree c ≡ true
  pub nodes_fit : listed_changes c ≤ n
  pub edges_fit : deps_before c (listed_changes c) ≤ e

pub taken : (n e a : ℕ) (c : Columns) → number (judged_load n e a c) ≡ 0 → Taken n e a c
unfolding judged_load
taken n e a c h =
    by_bool (eqb (length c.hashes % 32) 0)
    (λ w.
    by_bool (eqb (length c.heads % 32) 0)
    (λ v.
    by_bool (ltb a c.actor_count)
    (λ t. let z : ◌≡◌ {A = ℕ} 12 0 = rw (w, v, t) at h in absurd (omega arith))
    (λ r.
    by_bool (agree c)
    (λ g.
    by_bool (ltb n (listed_changes c))
    (λ t. let z : ◌≡◌ {A = ℕ} 9 0 = rw (w, v, r, g, t) at h in absurd (omega arith))
    (λ m.
    by_bool (ltb e (deps_before c (listed_changes c)))
    (λ t. let z : ◌≡◌ {A = ℕ} 10 0 = rw (w, v, r, g, m, t) at h in absurd (omega arith))
    (λ o.
    record {
      hashes_whole = eqb-true (length c.hashes % 32) 0 w;
      heads_whole = eqb-true (length c.heads % 32) 0 v;
      actors_fit = ltb-false a c.actor_count r;
      agreeing = g;
      nodes_fit = ltb-false n (listed_changes c) m;
      edges_fit = ltb-false e (deps_before c (listed_changes c)) o;
    })))
    (λ f. let z : ◌≡◌ {A = ℕ} 18 0 = rw (w, v, r, f) at h in absurd (omega arith))))
    (λ f. let z : ◌≡◌ {A = ℕ} 2 0 = rw (w, f) at h in absurd (omega arith)))
    (λ f. let z : ◌≡◌ {A = ℕ} 2 0 = rw f at h in absurd (omega arith))

-- ---- the tables afterwards

module _ (t : Tables) (c : Columns) where
  pub loaded_done : number (loading t c) ≡ 0 → loaded t c ≡ adds (opened t c.actor_count) (changes_of c)
  unfolding loaded
  loaded_done e = rw (eq-eqb (number (loading t c)) 0 e)

  pub loaded_refused : (number (loading t c) ≡ 0 → ⊥) → loaded t c ≡ t
  unfolding loaded
  loaded_refused n = rw (ne_eqb (number (loading t c)) 0 n)

  -- the judgement is over the tables' room
  pub told : (w : ℕ) (o : Outcome) → w ≡ actor_room t → o ≡ judged_load (change_room_of t) (edge_room_of t) w c → o ≡ loading t c
  told w o e q = q ∙ ap (λ (n : ℕ). judged_load (change_room_of t) (edge_room_of t) n c) e

  pub no_error : done ≡ loading t c → number (loading t c) ≡ 0
  no_error e = ap number (sym e)

  -- an error leaves the tables
  pub kept : (e : LoadRefusal) → loading_outcome (Err e) ≡ loading t c → t ≡ loaded t c
  kept e q = sym (loaded_refused (λ z. refused e (ap number q ∙ z)))
    where
      refused : (d : LoadRefusal) → number (loading_outcome (Err d)) ≡ 0 → ⊥
      refused Malformed z = omega arith
      refused NoActorRoom z = omega arith
      refused Disagree z = omega arith
      refused NoNodeRoom z = omega arith
      refused NoEdgeRoom z = omega arith

-- ---- opening

module _ (hs ns ts xs cs us : List ℕ) (a : ℕ) (l : Lengths (tables hs ns ts xs cs us)) where
  -- as the code stores the counts
  pub stored : tables hs ns ts xs cs (set (set (set us 0 0) 1 0) 2 a) ≡ opened (tables hs ns ts xs cs us) a
  stored = ap (tables hs ns ts xs cs) (three us a l.counts_three)

  pub stored_valid : a ≤ actor_room (tables hs ns ts xs cs us) → Valid (tables hs ns ts xs cs (set (set (set us 0 0) 1 0) 2 a))
  stored_valid h = subst Valid (sym stored) (opened_valid (tables hs ns ts xs cs us) a l h)

-- ---- what filling needs

pub fillable_columns : (c : Columns) → Agreed c → Fillable c
unfolding deps_before
fillable_columns c g = record {
  actors_long = g.actors_long;
  seqs_long = g.seqs_long;
  max_ops_long = g.max_ops_long;
  op_counts_long = g.op_counts_long;
  dep_counts_long = g.dep_counts_long;
  few = g.few;
  enough = g.enough;
  down = g.down;
}

-- ---- laws that no proof needs any more: filling does not look at heads and actors' number

module _ (hs ws ss ms os ds vs ts : List ℕ) (a : ℕ) where
  pub fillable : Agreed (columns hs ws ss ms os ds vs ts a) → Fillable (columns hs ws ss ms os ds vs [] 0)
  unfolding deps_before
  fillable g = let f = fillable_columns (columns hs ws ss ms os ds vs ts a) g in record {
    actors_long = f.actors_long;
    seqs_long = f.seqs_long;
    max_ops_long = f.max_ops_long;
    op_counts_long = f.op_counts_long;
    dep_counts_long = f.dep_counts_long;
    few = f.few;
    enough = f.enough;
    down = f.down;
  }

  pub same_changes : changes_of (columns hs ws ss ms os ds vs [] 0) ≡ changes_of (columns hs ws ss ms os ds vs ts a)
  unfolding changes_of deps_before
  same_changes = refl
