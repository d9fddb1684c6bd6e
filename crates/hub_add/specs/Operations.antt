-- What adding a change comes to, of the lent tables before and after.
-- Assumes nothing.
use Rattle.std.specs.Prelude.{◌≡◌, refl, List, ℕ, ◌<◌, Ok, Err}
use Rattle.paper.specs.Numbers.{number, not_valid}
use Rattle.paper.specs.Adding.{Change}
use Rattle.tables.specs.Tables.{Tables, edge_room_of}
use Rattle.tables.specs.Valid.{Valid}
use Rattle.judge.specs.Judge.{tables_judged, judged_number}
use Rattle.graph.specs.Place.{added_tables}
use Rattle.judge.specs.Judged.{Judged}
use Rattle.judge.specs.declared.AddRefusal.TheVariants.{Malformed, Known, Unknown, NoActor, WrongSequence, BadOps, TooManyDeps, NoNodeRoom, NoEdgeRoom}
use Rattle.edges.specs.Told.{Checked, Answered, valid_bounding, checked_refused, answered_refused}
use Rattle.lent_place.specs.Places.{told_in}

-- the number that adding the change gives, and the tables afterwards
abbrev pub add_number : Change → Tables → ℕ
add_number x t = judged_number (tables_judged t x)

abbrev pub add_tables : Change → Tables → Tables
add_tables x t = added_tables t x

-- the place for the unknown dependency afterwards: its position in the list where there is one, and else what stood there
abbrev pub unknown_in : Judged → List ℕ → List ℕ
unknown_in (Err (Unknown i)) l = told_in i l
unknown_in (Ok tt) l = l
unknown_in (Err Malformed) l = l
unknown_in (Err Known) l = l
unknown_in (Err NoActor) l = l
unknown_in (Err WrongSequence) l = l
unknown_in (Err BadOps) l = l
unknown_in (Err TooManyDeps) l = l
unknown_in (Err NoNodeRoom) l = l
unknown_in (Err NoEdgeRoom) l = l

-- adding the change to the tables t answers r and leaves t', and the place for the unknown dependency, which held l, holds l'
pub record Added (x : Change) (l l' : List ℕ) (t : Tables) (r : ℕ) (t' : Tables) : Type 0 where
  pub tables : Checked Valid (add_number x) (add_tables x) t r t'
  pub place : Answered Valid (λ (u : Tables). l' ≡ unknown_in (tables_judged u x) l) (l' ≡ l) t

pub added_refused : (x : Change) (l l' : List ℕ) (t : Tables) → 16384 < edge_room_of t → l' ≡ l → Added x l l' t (number not_valid) t
added_refused x l l' t many same = record {
  tables = checked_refused Valid valid_bounding t many (add_number x) (add_tables x) (number not_valid) t (refl, refl);
  place = answered_refused Valid valid_bounding t many (λ (u : Tables). l' ≡ unknown_in (tables_judged u x) l) (l' ≡ l) same;
}
