-- Demand 1 of the operations that change a graph: whatever tables are lent, the number is one of the paper's, and every number but that of done leaves all tables.
-- Assumes nothing.
use Rattle.std.specs.Prelude.{◌≡◌, refl, ℕ}
use Rattle.std.proofs.Common.{ap, ◌∙◌}
use Rattle.paper.specs.Numbers.{done, not_valid}
use Rattle.paper.specs.Adding.{outcome}
use Rattle.tables.specs.Tables.{Tables}
use Rattle.judge.specs.Judge.{tables_judged, verdict}
use Rattle.actors.specs.Actors.{actor_outcome, opening, opened, inserting, actor_inserted, removing, actor_removed}
use Rattle.actors.specs.Lives.{refused}
use Rattle.graph.specs.PlaceLaws.{added_refused, same_tables}
use Rattle.load.specs.Load.{loading}
use Rattle.load.specs.DoneLaws.{loaded_refused}
use Rattle.demands.specs.Refusals.{InTable, NotDone, DemandOne, table_lists}
use Rattle.demands.specs.RefusalLaws.{in_table, list_at, by_answer, either_way}
use Rattle.demands.specs.Operations.{Operation, open_for, add, insert_actor, remove_actor, load, forget, number_on, tables_on, Promised}

-- a refusal leaves the tables as they were
pub operation_keeps : (o : Operation) (t : Tables) → NotDone (number_on o t) → tables_on o t ≡ t
operation_keeps (open_for a) t n = refused (opening t a) (opened t a) t n
operation_keeps (add x) t n = added_refused t x n
operation_keeps (insert_actor p) t n = refused (inserting t p) (actor_inserted t p) t n
operation_keeps (remove_actor p) t n = refused (removing t p) (actor_removed t p) t n
operation_keeps (load c) t n = loaded_refused t c n
operation_keeps forget t n = absurd (n refl)

-- the numbers are those of the paper's table
numbered : (o : Operation) (t : Tables) → InTable (number_on o t)
numbered (open_for a) t = in_table (actor_outcome (opening t a))
numbered (add x) t = in_table (outcome (verdict (tables_judged t x)))
numbered (insert_actor p) t = in_table (actor_outcome (inserting t p))
numbered (remove_actor p) t = in_table (actor_outcome (removing t p))
numbered (load c) t = in_table (loading t c)
numbered forget t = in_table done

module _ (o : Operation) (t t' : Tables) (r : ℕ) (p : Promised o t r t') where
  pub operation_demand : DemandOne r (table_lists t) (table_lists t')
  operation_demand =
      either_way
      (λ v. let m = p.met v in by_answer m.0 (numbered o t) (λ n. ap table_lists (m.1 ∙ operation_keeps o t n)))
      (λ u. let m = p.unmet u in by_answer m.0 (in_table not_valid) (λ _. ap table_lists m.1))

  -- the same of the tables as one
  pub refused_keeps : NotDone r → t' ≡ t
  unfolding list_at
  refused_keeps n = let e = operation_demand.keeps n in same_tables (ap (list_at 0) e) (ap (list_at 1) e) (ap (list_at 2) e) (ap (list_at 3) e) (ap (list_at 4) e) (ap (list_at 5) e)
