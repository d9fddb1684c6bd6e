-- The parts are the first edges of the two tables, and what is said of these holds of the records.
use Rattle.std.specs.Prelude.{[], ◌≤◌, length, take}
use Rattle.std.proofs.Common.{◌≡◌, ⊎_elim, rules, arith}
use Rattle.tables.specs.Tables.{tables}
use Rattle.edges.specs.Told.{AskedOverFirst}
use Rattle.edges.proofs.Told.{asked_of}
use Rattle.edges.proofs.unpacked.Goals as goal

pub returns-clause-some : goal.returns-clause-some
returns-clause-some c =
    let a = c.args in
    let room : (length a.edges.now ≤ length a.targets.now) × (length a.edges.now ≤ length a.nexts.now) = search rules in
    let targets : c.in_ok-get.field-0.now ≡ take (length a.edges.now) a.targets.now = search rules in
    let nexts : c.in_ok-get-2.field-0.now ≡ take (length a.edges.now) a.nexts.now = search rules in
    let parts : AskedOverFirst (λ t. (c.in_ok-get.field-0.now ≡ t.targets) × (c.in_ok-get-2.field-0.now ≡ t.nexts)) ⊥ (length a.edges.now) (tables [] [] a.targets.now a.nexts.now [] []) =
    record { within = λ _ _. (targets, nexts); beyond = ⊎_elim (λ l. omega (arith, room.0)) (λ l. omega (arith, room.1)) } in
    asked_of a.edges.now [] [] [] [] c.requires parts (λ _ no. absurd no)
