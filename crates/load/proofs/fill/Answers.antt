use Rattle.std.proofs.Common.{refl, arith}
use Rattle.columns.specs.Columns.{listed}
use Rattle.load.specs.LoadLaws.{filled_start, filled_valid, lent_fits, lent_few, lent_inside, filled_next, filled_end}
use Rattle.load.proofs.fill.Goals as goal

pub loop-k-init : goal.loop-k-init
loop-k-init c = filled_start _ _

pub overflow_add-deps : goal.overflow_add-deps
overflow_add-deps c = omega (arith, lent_fits (listed c.args.columns.now) c.requires.fillable c.loop-k.invariant (omega arith))

pub offset_bounds-columns-at : goal.offset_bounds-columns-at
offset_bounds-columns-at c = omega (arith, lent_fits (listed c.args.columns.now) c.requires.fillable c.loop-k.invariant (omega arith))

pub slice_bounds-deps-end : goal.slice_bounds-deps-end
slice_bounds-deps-end c = omega (arith, lent_fits (listed c.args.columns.now) c.requires.fillable c.loop-k.invariant (omega arith))

pub add_listed-requires-clause-valid : goal.add_listed-requires-clause-valid
add_listed-requires-clause-valid c = filled_valid c.requires.valid c.loop-k.invariant

pub add_listed-requires-clause-k_in_bounds : goal.add_listed-requires-clause-k_in_bounds
add_listed-requires-clause-k_in_bounds c =
    let s = listed c.args.columns.now in
    (omega arith, lent_few s c.requires.fillable c.loop-k.invariant (omega arith), lent_inside s c.requires.fillable c.loop-k.invariant (omega arith))

pub loop-k-preserved : goal.loop-k-preserved
loop-k-preserved c = filled_next (listed c.args.columns.now) c.requires.fillable c.loop-k.invariant (omega arith) refl c.add_listed.ensures

pub returns : goal.returns
returns c = filled_end c.loop-k.invariant (omega arith)
