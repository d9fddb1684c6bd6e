-- The operations that change a graph, and what each promises of the lent tables: the promises of the public functions, and nothing else of them.
-- Assumes nothing.
use Rattle.std.specs.Prelude.{List, [], ◌∷◌, ℕ}
use Rattle.paper.specs.Numbers.{number, done}
use Rattle.paper.specs.Adding.{Change}
use Rattle.paper.specs.Loading.{Columns}
use Rattle.tables.specs.Tables.{Tables}
use Rattle.tables.specs.Valid.{Lengths, Valid}
use Rattle.judge.specs.Judge.{tables_judged, judged_number}
use Rattle.actors.specs.Actors as actors
use Rattle.actors.specs.Actors.{opening, opened, inserting, actor_inserted, removing, actor_removed, if_actors_done}
use Rattle.cache.specs.Cache.{forgotten, with_clocks}
use Rattle.graph.specs.Place.{added_tables}
use Rattle.load.specs.Load.{loading, loaded}
use Rattle.edges.specs.Told.{Checked}

pub data Operation : Type 0 where
  -- opened for so many actors
  open_for : ℕ → Operation
  add : Change → Operation
  insert_actor : ℕ → Operation
  remove_actor : ℕ → Operation
  load : Columns → Operation
  -- the cached clocks thrown away
  forget : Operation

-- what is asked of the tables: opening and loading look at lengths alone
abbrev pub Lendable : Operation → Tables → Type 0
Lendable (open_for a) = Lengths
Lendable (add x) = Valid
Lendable (insert_actor p) = Valid
Lendable (remove_actor p) = Valid
Lendable (load c) = Lengths
Lendable forget = Valid

-- the number on tables that may be lent
abbrev pub number_on : Operation → Tables → ℕ
number_on (open_for a) t = actors.actor_number (opening t a)
number_on (add x) t = judged_number (tables_judged t x)
number_on (insert_actor p) t = actors.actor_number (inserting t p)
number_on (remove_actor p) t = actors.actor_number (removing t p)
number_on (load c) t = number (loading t c)
number_on forget t = number done

-- the tables afterwards
abbrev pub tables_on : Operation → Tables → Tables
tables_on (open_for a) t = if_actors_done (opening t a) (opened t a) t
tables_on (add x) t = added_tables t x
tables_on (insert_actor p) t = if_actors_done (inserting t p) (actor_inserted t p) t
tables_on (remove_actor p) t = if_actors_done (removing t p) (actor_removed t p) t
tables_on (load c) t = loaded t c
tables_on forget t = with_clocks t (forgotten t)

-- the promise: what it is lent is checked, then number and tables are these; else the number is 1 and nothing changes
abbrev pub Promised : Operation → Tables → ℕ → Tables → Type 0
Promised o t r t' = Checked (Lendable o) (number_on o) (tables_on o) t r t'

-- one operation after the other, refused ones among them
pub data Runs : Tables → List Operation → Tables → Type 0 where
  rest : (t : Tables) → Runs t [] t
  then : (t t' t'' : Tables) (o : Operation) (os : List Operation) (r : ℕ) → Promised o t r t' → Runs t' os t'' → Runs t (o ∷ os) t''
