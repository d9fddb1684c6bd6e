-- The hub's room agrees with itself, and a graph opened in it is valid.
-- Assumes nothing.
use Rattle.std.specs.Prelude.{◌≡◌, Result, ℕ, ◌/◌, ◌≤◌}
use Rattle.std.proofs.Math.Path.{refl}
use Rattle.std.proofs.Common.{sym, ap, subst, ◌∙◌, arith}
use Rattle.tables.specs.Tables.{Tables, change_room_of, actor_room, width_of}
use Rattle.tables.specs.Valid.{Lengths, Valid}
use Rattle.actors.specs.declared.ActorRefusal.{ActorRefusal}
use Rattle.actors.specs.Actors.{opening, opened, if_actors_done}
use Rattle.actors.specs.ActorLaws.{opening_done}
use Rattle.actors.specs.Lives.{opened_valid}
use Rattle.samples.specs.Room.{Room}

module _ (t : Tables) (r : Room t) where
  changes_are : change_room_of t ≡ 4096
  changes_are = ap (λ (n : ℕ). n / 32) r.hashes_long

  actors_are : actor_room t ≡ 64
  unfolding width_of
  actors_are = rw (r.hashes_long, r.clocks_long) refl

  pub room_lengths : Lengths t
  room_lengths =
      record {
        hashes_whole = let c = changes_are in let l = r.hashes_long in omega arith;
        changes_limit = let c = changes_are in omega arith;
        nodes_same = let c = changes_are in let l = r.nodes_long in omega arith;
        edges_limit = let l = r.targets_long in omega arith;
        nexts_same = r.nexts_long ∙ sym r.targets_long;
        actors_limit = let a = actors_are in omega arith;
        clocks_whole = rw (changes_are, actors_are) r.clocks_long;
        counts_three = r.counts_long;
      }

  -- whatever is answered to opening it for one actor, the tables are then valid
  pub room_opened : (j : Result (Unit {0}) ActorRefusal) (u : Tables) → j ≡ opening t 1 → u ≡ if_actors_done j (opened t 1) t → Valid u
  room_opened j u e q =
      let l : 1 ≤ actor_room t = let a = actors_are in omega arith in
      subst Valid (sym (q ∙ ap (λ (i : Result (Unit {0}) ActorRefusal). if_actors_done i (opened t 1) t) (e ∙ opening_done t 1 l))) (opened_valid t 1 room_lengths l)
