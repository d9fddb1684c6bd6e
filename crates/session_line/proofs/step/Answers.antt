-- Each arm by its law: what was read gives the command back, the line that is called answers it, and only `add` changes the tables.
-- Assumes nothing.
use Rattle.std.proofs.Common.{◌≡◌, refl, rules, arith, Option, Some, None, Ok, Err}
use Rattle.std.specs.Option.{ok_or}
use Rattle.command.specs.declared.Line.{Line}
use Rattle.session_line.specs.declared.NoAnswer.{NoAnswer}
use Rattle.session_line.specs.declared.NoAnswer.TheVariants.{Bad}
use Rattle.tables.specs.Tables.{tables}
use Rattle.session_line.specs.SizeLaws.{line_sized}
use Rattle.session_line.specs.ArmLaws.{bad_arm, bad_tables, heads_arm, heads_tables, owner_arm, owner_tables, clock_room, clock_arm, clock_tables, missing_room, missing_arm, missing_tables, add_room, add_arm, add_tables_lem}
use Rattle.session_line.proofs.step.Goals as goal

-- what `ok_or` gives tells what was read
was_read : {o : Option Line} {l m : Line} → Ok l ≡ ok_or o Bad → l ≡ m → o ≡ Some m
was_read {o = None} e q = cc
was_read {o = Some x} e q = cc

not_read : {o : Option Line} {e : NoAnswer} → Err e ≡ ok_or o Bad → o ≡ None
not_read {o = None} q = refl
not_read {o = Some x} q = cc

pub overflow_mul-n : goal.overflow_mul-n
overflow_mul-n c = let r = clock_room (tables c.args.hashes.now c.args.nodes.now c.args.targets.now c.args.nexts.now c.args.clocks.now c.args.counts.now) c.read.ensures (line_sized _) _ (was_read c.in_ok-asked.ensures.value c.in-Clock.is) in omega (arith, r, c.read.auto)

pub overflow_mul-n-in-Missing : goal.overflow_mul-n-in-Missing
overflow_mul-n-in-Missing c = let r = missing_room (tables c.args.hashes.now c.args.nodes.now c.args.targets.now c.args.nexts.now c.args.clocks.now c.args.counts.now) c.read.ensures (line_sized _) _ (was_read c.in_ok-asked.ensures.value c.in-Missing.is) in omega (arith, r, c.read.auto)

pub overflow_mul-change : goal.overflow_mul-change
overflow_mul-change c = let r = add_room (tables c.args.hashes.now c.args.nodes.now c.args.targets.now c.args.nexts.now c.args.clocks.now c.args.counts.now) c.read.ensures (line_sized _) _ _ _ _ _ (was_read c.in_ok-asked.ensures.value c.in-Add.is) in omega (arith, r, c.read.auto)

pub slice_bounds-clock_line-end : goal.slice_bounds-clock_line-end
slice_bounds-clock_line-end c = clock_room (tables c.args.hashes.now c.args.nodes.now c.args.targets.now c.args.nexts.now c.args.clocks.now c.args.counts.now) c.read.ensures (line_sized _) _ (was_read c.in_ok-asked.ensures.value c.in-Clock.is)

pub slice_bounds-missing_line-end : goal.slice_bounds-missing_line-end
slice_bounds-missing_line-end c = missing_room (tables c.args.hashes.now c.args.nodes.now c.args.targets.now c.args.nexts.now c.args.clocks.now c.args.counts.now) c.read.ensures (line_sized _) _ (was_read c.in_ok-asked.ensures.value c.in-Missing.is)

pub slice_bounds-change-end-in-Add : goal.slice_bounds-change-end-in-Add
slice_bounds-change-end-in-Add c = add_room (tables c.args.hashes.now c.args.nodes.now c.args.targets.now c.args.nexts.now c.args.clocks.now c.args.counts.now) c.read.ensures (line_sized _) _ _ _ _ _ (was_read c.in_ok-asked.ensures.value c.in-Add.is)

pub returns-in-Heads-clause-stepped : goal.returns-in-Heads-clause-stepped
returns-in-Heads-clause-stepped c = heads_arm (tables c.args.hashes.now c.args.nodes.now c.args.targets.now c.args.nexts.now c.args.clocks.now c.args.counts.now) c.read.ensures (line_sized _) (was_read c.in_ok-asked.ensures.value c.in-Heads.is) _ _ _ _ _ c.ok_or-in-Heads.ensures.value c.heads_line.ensures

pub returns-in-Heads-clause-counts_after : goal.returns-in-Heads-clause-counts_after
returns-in-Heads-clause-counts_after c = heads_tables (tables c.args.hashes.now c.args.nodes.now c.args.targets.now c.args.nexts.now c.args.clocks.now c.args.counts.now) c.read.ensures (line_sized _) (was_read c.in_ok-asked.ensures.value c.in-Heads.is)

pub returns-in-Clock-clause-stepped : goal.returns-in-Clock-clause-stepped
returns-in-Clock-clause-stepped c = clock_arm (tables c.args.hashes.now c.args.nodes.now c.args.targets.now c.args.nexts.now c.args.clocks.now c.args.counts.now) c.read.ensures (line_sized _) _ (was_read c.in_ok-asked.ensures.value c.in-Clock.is) _ _ _ _ _ c.ok_or-in-Clock.ensures.value c.clock_line.ensures

pub returns-in-Clock-clause-counts_after : goal.returns-in-Clock-clause-counts_after
returns-in-Clock-clause-counts_after c = clock_tables (tables c.args.hashes.now c.args.nodes.now c.args.targets.now c.args.nexts.now c.args.clocks.now c.args.counts.now) c.read.ensures (line_sized _) _ (was_read c.in_ok-asked.ensures.value c.in-Clock.is)

pub returns-in-Missing-clause-stepped : goal.returns-in-Missing-clause-stepped
returns-in-Missing-clause-stepped c = missing_arm (tables c.args.hashes.now c.args.nodes.now c.args.targets.now c.args.nexts.now c.args.clocks.now c.args.counts.now) c.read.ensures (line_sized _) _ (was_read c.in_ok-asked.ensures.value c.in-Missing.is) _ _ _ _ _ c.ok_or-in-Missing.ensures.value c.missing_line.ensures

pub returns-in-Missing-clause-counts_after : goal.returns-in-Missing-clause-counts_after
returns-in-Missing-clause-counts_after c = missing_tables (tables c.args.hashes.now c.args.nodes.now c.args.targets.now c.args.nexts.now c.args.clocks.now c.args.counts.now) c.read.ensures (line_sized _) _ (was_read c.in_ok-asked.ensures.value c.in-Missing.is)

pub returns-in-Owner-clause-stepped : goal.returns-in-Owner-clause-stepped
returns-in-Owner-clause-stepped c = owner_arm (tables c.args.hashes.now c.args.nodes.now c.args.targets.now c.args.nexts.now c.args.clocks.now c.args.counts.now) c.read.ensures (line_sized _) _ _ (was_read c.in_ok-asked.ensures.value c.in-Owner.is) _ _ _ _ _ c.ok_or-in-Owner.ensures.value c.owner_line.ensures

pub returns-in-Owner-clause-counts_after : goal.returns-in-Owner-clause-counts_after
returns-in-Owner-clause-counts_after c = owner_tables (tables c.args.hashes.now c.args.nodes.now c.args.targets.now c.args.nexts.now c.args.clocks.now c.args.counts.now) c.read.ensures (line_sized _) _ _ (was_read c.in_ok-asked.ensures.value c.in-Owner.is)

pub returns-in-Add-clause-stepped : goal.returns-in-Add-clause-stepped
returns-in-Add-clause-stepped c = add_arm (tables c.args.hashes.now c.args.nodes.now c.args.targets.now c.args.nexts.now c.args.clocks.now c.args.counts.now) c.read.ensures (line_sized _) _ _ _ _ _ (was_read c.in_ok-asked.ensures.value c.in-Add.is) refl _ _ _ _ _ c.ok_or-in-Add.ensures.value c.add_line.ensures.said

pub returns-in-Add-clause-counts_after : goal.returns-in-Add-clause-counts_after
returns-in-Add-clause-counts_after c = add_tables_lem (tables c.args.hashes.now c.args.nodes.now c.args.targets.now c.args.nexts.now c.args.clocks.now c.args.counts.now) c.read.ensures (line_sized _) _ _ _ _ _ (was_read c.in_ok-asked.ensures.value c.in-Add.is) refl _ c.add_line.ensures.counts_after

pub returns-in_err-asked-clause-stepped : goal.returns-in_err-asked-clause-stepped
returns-in_err-asked-clause-stepped c =
    let b : c.from_residual.result ≡ Err Bad = search rules in
    rw b (bad_arm (tables c.args.hashes.now c.args.nodes.now c.args.targets.now c.args.nexts.now c.args.clocks.now c.args.counts.now) c.read.ensures (line_sized _) (not_read c.in_err-asked.ensures.value) c.args.at c.args.out.now)

pub returns-in_err-asked-clause-counts_after : goal.returns-in_err-asked-clause-counts_after
returns-in_err-asked-clause-counts_after c = bad_tables (tables c.args.hashes.now c.args.nodes.now c.args.targets.now c.args.nexts.now c.args.clocks.now c.args.counts.now) c.read.ensures (line_sized _) (not_read c.in_err-asked.ensures.value)
