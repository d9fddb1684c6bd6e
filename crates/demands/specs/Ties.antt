-- The promises that the theorems speak of are those of the functions that C calls: each is taken as it stands.
-- Assumes nothing.
use Rattle.std.specs.Prelude.{List, ℕ}
use Rattle.paper.specs.Adding.{Change}
use Rattle.paper.specs.Loading.{Columns}
use Rattle.tables.specs.Tables.{Tables}
use Rattle.hub_open.specs.Operations.{Opened, counted}
use Rattle.hub_add.specs.Operations.{Added}
use Rattle.hub_actors.specs.Operations.{Inserted, Removed, renewed}
use Rattle.hub_load.specs.Operations.{Loaded}
use Rattle.hub_forget.specs.Operations.{Forgot, clocked}
use Rattle.demands.specs.Operations.{open_for, add, insert_actor, remove_actor, load, forget, Promised}

pub is_open : (a r : ℕ) (us : List ℕ) (t : Tables) → Opened a r us t → Promised (open_for a) t r (counted t us)
is_open a r us t p = p

pub is_add : (x : Change) (l l' : List ℕ) (t : Tables) (r : ℕ) (t' : Tables) → Added x l l' t r t' → Promised (add x) t r t'
is_add x l l' t r t' p = p.tables

pub is_insert_actor : (q r : ℕ) (ns cs us : List ℕ) (t : Tables) → Inserted q r ns cs us t → Promised (insert_actor q) t r (renewed t ns cs us)
is_insert_actor q r ns cs us t p = p

pub is_remove_actor : (q r : ℕ) (ns cs us : List ℕ) (t : Tables) → Removed q r ns cs us t → Promised (remove_actor q) t r (renewed t ns cs us)
is_remove_actor q r ns cs us t p = p

pub is_load : (c : Columns) (t : Tables) (r : ℕ) (t' : Tables) → Loaded c t r t' → Promised (load c) t r t'
is_load c t r t' p = p

pub is_forget : (r : ℕ) (cs : List ℕ) (t : Tables) → Forgot r cs t → Promised forget t r (clocked t cs)
is_forget r cs t p = p
