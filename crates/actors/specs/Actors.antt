-- Actors: opening an empty graph for a number of them, one more at a place, one less. The answers, and the tables afterwards.
-- Assumes nothing.
use Rattle.std.specs.Prelude.{◌≡◌, Result, Ok, Err, cond, ◌&&◌, List, [], ◌∷◌, ℕ, zero, suc, ◌+◌, ◌*◌, ◌-◌, ◌<◌, eqb, ltb, leb, length, get_or, set}
use denote.Ref.{MutBor}
use Rattle.std.specs.Fn.{Shared}
use Rattle.paper.specs.Numbers.{Outcome, number, done, no_actor, actor_has_changes, no_actor_room}
use Rattle.clock.specs.Clock.{entry_of, raised}
use Rattle.tables.specs.Tables.{Tables, changes, actors, actor_room, actor_at}
use Rattle.tables.specs.Valid.{count_of}
use Rattle.actors.specs.declared.ActorRefusal.{ActorRefusal}
use Rattle.actors.specs.declared.ActorRefusal.TheVariants.{NoActor, HasChanges, NoRoom}

-- ---- answers

-- an answer in the paper's words
abbrev pub actor_outcome : Result (Unit {0}) ActorRefusal → Outcome
actor_outcome (Ok x) = done
actor_outcome (Err NoActor) = no_actor
actor_outcome (Err HasChanges) = actor_has_changes
actor_outcome (Err NoRoom) = no_actor_room

-- the paper's number
abbrev pub actor_number : Result (Unit {0}) ActorRefusal → ℕ
actor_number j = number (actor_outcome j)

-- opening for a actors: 12 for more than there is room
unfoldable pub opening : Tables → ℕ → Result (Unit {0}) ActorRefusal
opening t a = cond (leb a (actor_room t)) (Ok tt) (Err NoRoom)

-- one more at place p: 12 for a place above the count, and where there is no room
unfoldable pub inserting : Tables → ℕ → Result (Unit {0}) ActorRefusal
inserting t p = cond (leb p (actors t) && ltb (actors t) (actor_room t)) (Ok tt) (Err NoRoom)

-- the one at place p away: 5 for a place not below the count, and then 11 where it has changes
unfoldable pub removing : Tables → ℕ → Result (Unit {0}) ActorRefusal
removing t p = cond (leb (actors t) p) (Err NoActor) (cond (eqb (count_of t.nodes p (changes t)) 0) (Ok tt) (Err HasChanges))

-- ---- numbers and clocks, where an actor comes in at place p (numbers p and above move up by one: `raised p`) or goes

-- numbers above p move down by one
abbrev pub lower : ℕ → ℕ → ℕ
lower p a = cond (leb a p) a (a - 1)

-- the entries of a clock move with their actors, and the new one has nothing
abbrev pub widen : ℕ → (ℕ → ℕ) → ℕ → ℕ
widen p c i = cond (ltb i p) (c i) (cond (eqb i p) 0 (c (i - 1)))

abbrev pub narrow : ℕ → (ℕ → ℕ) → ℕ → ℕ
narrow p c i = cond (ltb i p) (c i) (c (suc i))

-- ---- the tables

-- the nodes table with the actors of the first n nodes renumbered by f
unfoldable pub renumbered : (ℕ → ℕ) → ℕ → List ℕ → List ℕ
renumbered f zero ns = ns
renumbered f (suc n) ns = set (renumbered f n ns) (6 * n) (f (actor_at ns n))

-- the table cs with s 0, s 1, .. from b on, m of them
unfoldable pub row_filled : ℕ → (ℕ → ℕ) → ℕ → List ℕ → List ℕ
row_filled b s zero cs = cs
row_filled b s (suc m) cs = set (row_filled b s m cs) (b + m) (s m)

-- the row of w entries from b on as a clock: nothing past its end
abbrev pub row_at : List ℕ → ℕ → ℕ → ℕ → ℕ
row_at cs b w i = cond (ltb i w) (get_or cs (b + i) 0) 0

-- the clock table with each of the first n rows of w entries changed by s
unfoldable pub rows_by : ((ℕ → ℕ) → ℕ → ℕ) → ℕ → ℕ → List ℕ → List ℕ
rows_by s w zero cs = cs
rows_by s w (suc n) cs = row_filled (n * w) (s (row_at cs (n * w) w)) w (rows_by s w n cs)

-- the nodes in use renumbered by f, their rows changed by s, and a actors counted. All else stays
abbrev pub renamed : (ℕ → ℕ) → ((ℕ → ℕ) → ℕ → ℕ) → ℕ → Tables → Tables
renamed f s a t =
    record {
      hashes = t.hashes;
      nodes = renumbered f (changes t) t.nodes;
      targets = t.targets;
      nexts = t.nexts;
      clocks = rows_by s (actor_room t) (changes t) t.clocks;
      counts = set t.counts 2 a;
    }

abbrev pub actor_inserted : Tables → ℕ → Tables
actor_inserted t p = renamed (raised p) (widen p) (actors t + 1) t

abbrev pub actor_removed : Tables → ℕ → Tables
actor_removed t p = renamed (lower p) (narrow p) (actors t - 1) t

-- nothing in use, and a actors counted. All else stays
abbrev pub opened : Tables → ℕ → Tables
opened t a = record { hashes = t.hashes; nodes = t.nodes; targets = t.targets; nexts = t.nexts; clocks = t.clocks; counts = 0 ∷ 0 ∷ a ∷ [] }

-- the new tables where the answer is Ok, and else the old ones
abbrev pub if_actors_done : Result (Unit {0}) ActorRefusal → Tables → Tables → Tables
if_actors_done (Ok x) new old = new
if_actors_done (Err e) new old = old

-- ---- a change of a row of w entries that is lent

-- the row of which a function leaves `left` is changed by s, as a clock
abbrev pub RowBy : ((ℕ → ℕ) → ℕ → ℕ) → ℕ → List ℕ → List ℕ → Type 0
RowBy s w row left = (length left ≡ length row) × ((i : ℕ) → i < w → get_or left i 0 ≡ s (entry_of row) i)

-- f may be called at a `&mut` to the row
abbrev pub FnTakesAtMut : {F T R : Type 0} → Shared F (MutBor T × Unit {0}) R → F → T → Type 0
FnTakesAtMut {F} {T} g f x = (p : MutBor T) → p.now ≡ x → g.pre f (p, tt)

-- such a call may give r, and leave x' there
pub record FnReturnsAtMut {F T R : Type 0} (g : Shared F (MutBor T × Unit {0}) (R × (MutBor T × Unit {0}))) (f : F) (x : T) (r : R) (x' : T) : Type 0 where
  pub shown : MutBor T
  pub shows : shown.now ≡ x
  pub left : MutBor T
  pub met : g.post f (shown, tt) (r, (left, tt))
  pub leaves : left.now ≡ x'
