-- Whatever opening, putting in or taking away answers, valid tables are valid afterwards, and a refusal leaves them as they were.
-- Assumes nothing.
use Rattle.std.specs.Prelude.{◌≡◌, refl, Result, Ok, Err, ℕ, ◌≤◌, eqb, ltb, leb}
use Rattle.std.proofs.Common.{sym, subst, arith, leb-true, leb-false, ltb-true, ltb-false, eqb-true}
use Rattle.std.proofs.lemmas.Bool.{eqb-false}
use Rattle.paper.proofs.Bools.{by_bool}
use Rattle.tables.specs.Tables.{Tables, changes, edges, actors, actor_room}
use Rattle.tables.specs.Valid.{Lengths, HashesDistinct, Numbers, Running, Heads, Rows, Valid, count_of}
use Rattle.tables.specs.Valid.Laid.{none}
use Rattle.actors.specs.declared.ActorRefusal.{ActorRefusal}
use Rattle.actors.specs.Actors.{actor_number, inserting, removing, actor_inserted, actor_removed, opened, if_actors_done}
use Rattle.actors.specs.ActorLaws.{inserting_done, inserting_high, inserting_full, removing_none, removing_used, removing_done}
use Rattle.actors.specs.Renamed.{inserted_valid, removed_valid}

-- a refusal leaves the tables as they were
pub refused : (j : Result (Unit {0}) ActorRefusal) (new old : Tables) → (actor_number j ≡ 0 → ⊥) → if_actors_done j new old ≡ old
refused (Ok x) new old n = absurd (n refl)
refused (Err e) new old n = refl

-- tables with nothing in use are valid, whatever lies in them
pub nothing_valid : (t : Tables) → Lengths t → changes t ≡ 0 → edges t ≡ 0 → actors t ≤ actor_room t → Valid t
unfolding HashesDistinct Numbers Running Heads Rows
nothing_valid t l n e a =
    record {
      sound =
          record {
            lengths = l;
            counts = record { changes_fit = omega arith; edges_fit = omega arith; actors_fit = a };
            distinct = λ j h. absurd (omega arith);
            numbers = λ k h. absurd (omega arith);
            laid = none n e;
            running = λ k h. absurd (omega arith);
            heads = λ k h. absurd (omega arith);
          };
      rows = λ k h. absurd (omega arith);
    }

module _ (t : Tables) where
  -- an opened graph is valid: table lengths alone are asked for
  pub opened_valid : (a : ℕ) → Lengths t → a ≤ actor_room t → Valid (opened t a)
  opened_valid a l h =
      nothing_valid (opened t a)
      (record {
        hashes_whole = l.hashes_whole;
        changes_limit = l.changes_limit;
        nodes_same = l.nodes_same;
        edges_limit = l.edges_limit;
        nexts_same = l.nexts_same;
        actors_limit = l.actors_limit;
        clocks_whole = l.clocks_whole;
        counts_three = refl;
      })
      refl refl h

  pub insert_valid : (p : ℕ) → Valid t → Valid (if_actors_done (inserting t p) (actor_inserted t p) t)
  insert_valid p v =
      by_bool (leb p (actors t))
      (λ y.
      let l = leb-true p (actors t) y in
      by_bool (ltb (actors t) (actor_room t))
      (λ z. let h = ltb-true (actors t) (actor_room t) z in subst (λ (j : Result (Unit {0}) ActorRefusal). Valid (if_actors_done j (actor_inserted t p) t)) (sym (inserting_done t p l h)) (inserted_valid t p v l h))
      (λ z. subst (λ (j : Result (Unit {0}) ActorRefusal). Valid (if_actors_done j (actor_inserted t p) t)) (sym (inserting_full t p l (ltb-false (actors t) (actor_room t) z))) v))
      (λ n. subst (λ (j : Result (Unit {0}) ActorRefusal). Valid (if_actors_done j (actor_inserted t p) t)) (sym (inserting_high t p (leb-false p (actors t) n))) v)

  pub remove_valid : (p : ℕ) → Valid t → Valid (if_actors_done (removing t p) (actor_removed t p) t)
  remove_valid p v =
      by_bool (leb (actors t) p)
      (λ y. subst (λ (j : Result (Unit {0}) ActorRefusal). Valid (if_actors_done j (actor_removed t p) t)) (sym (removing_none t p (leb-true (actors t) p y))) v)
      (λ n.
      let l = leb-false (actors t) p n in
      by_bool (eqb (count_of t.nodes p (changes t)) 0)
      (λ z. let e = eqb-true (count_of t.nodes p (changes t)) 0 z in subst (λ (j : Result (Unit {0}) ActorRefusal). Valid (if_actors_done j (actor_removed t p) t)) (sym (removing_done t p l e)) (removed_valid t p v l e))
      (λ z. subst (λ (j : Result (Unit {0}) ActorRefusal). Valid (if_actors_done j (actor_removed t p) t)) (sym (removing_used t p l (eqb-false (count_of t.nodes p (changes t)) 0 z))) v))
