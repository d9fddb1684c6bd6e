-- Demand 3 as one theorem: by the promises of the operations alone, over any list of them.
-- Assumes nothing.
use Rattle.std.specs.Prelude.{◌≡◌, refl, Ok, Err, Bool, true, false, cond, List, [], ◌∷◌, ℕ, leb}
use Rattle.std.proofs.Common.{sym, subst, arith, leb-true}
use Rattle.std.proofs.Math.Decide.{ℕ_discrete}
use Rattle.paper.specs.Numbers.{number, done}
use Rattle.tables.specs.Tables.{Tables, actor_room}
use Rattle.tables.specs.Valid.{Lengths, Valid}
use Rattle.cache.specs.CheckLaws.{forgotten_valid}
use Rattle.actors.specs.Actors.{actor_number, opening, opened, if_actors_done}
use Rattle.actors.specs.declared.ActorRefusal.TheVariants.{NoRoom}
use Rattle.actors.specs.Lives.{opened_valid, insert_valid, remove_valid}
use Rattle.graph.specs.Life.{added_valid}
use Rattle.load.specs.Loaded.{loads}
use Rattle.demands.specs.Operations.{Operation, open_for, add, insert_actor, remove_actor, load, forget, Lendable, number_on, tables_on, Promised, Runs, rest, then}
use Rattle.demands.proofs.OperationLaws.{operation_keeps}
use Rattle.demands.specs.Demands.{Right, right}

-- ---- one operation

opening_valid : (a : ℕ) (t : Tables) → Lengths t → actor_number (opening t a) ≡ number done → Valid (if_actors_done (opening t a) (opened t a) t)
unfolding opening
opening_valid a t l = go (leb a (actor_room t)) refl
  where
    go : (b : Bool) → leb a (actor_room t) ≡ b → actor_number (cond b (Ok tt) (Err NoRoom)) ≡ number done → Valid (if_actors_done (cond b (Ok tt) (Err NoRoom)) (opened t a) t)
    go true e _ = opened_valid t a l (leb-true a (actor_room t) e)
    go false e z = absurd (omega arith)

-- where it is done the tables are valid afterwards; opening and loading make valid ones of any whose lengths agree
done_valid : (o : Operation) (t : Tables) → Lendable o t → number_on o t ≡ number done → Valid (tables_on o t)
done_valid (open_for a) t l e = opening_valid a t l e
done_valid (add x) t v e = added_valid t x v
done_valid (insert_actor p) t v e = insert_valid t p v
done_valid (remove_actor p) t v e = remove_valid t p v
done_valid (load c) t l e = (loads t c l e).valid
done_valid forget t v e = forgotten_valid t v.sound

-- valid tables may be lent to every operation
lendable : (o : Operation) (t : Tables) → Valid t → Lendable o t
lendable (open_for a) t v = v.sound.lengths
lendable (add x) t v = v
lendable (insert_actor p) t v = v
lendable (remove_actor p) t v = v
lendable (load c) t v = v.sound.lengths
lendable forget t v = v

stays : (o : Operation) (t : Tables) → Valid t → Valid (tables_on o t)
stays o t v = elim (ℕ_discrete (number_on o t) (number done)) [
  | yes e ↦ done_valid o t (lendable o t v) e
  | no n ↦ subst Valid (sym (operation_keeps o t n)) v
]

-- ---- demand 3: after any operations, refused ones among them

pub runs_valid : (t t' : Tables) (os : List Operation) → Runs t os t' → Valid t → Valid t'
runs_valid t t' [] (rest _) v = v
runs_valid t t' (o ∷ os) (then _ t₁ _ _ _ r p more) v = runs_valid t₁ t' os more (subst Valid (sym (p.met (lendable o t v)).1) (stays o t v))

-- from tables that were opened, whatever lay in them before: after each of any operations, cached clocks kept or not, the clocks are right
pub demand_3 : (a : ℕ) (os : List Operation) (t t₀ t' : Tables) → Lengths t → Promised (open_for a) t (number done) t₀ → Runs t₀ os t' → Right t'
demand_3 a os t t₀ t' l p runs =
    let o = p.met l in
    right t' (runs_valid t₀ t' os runs (subst Valid (sym o.1) (done_valid (open_for a) t l (sym o.0))))
