use Rattle.std.proofs.Common.{◌+◌, ◌∙◌, refl, arith}
use Rattle.records.specs.RecordLaws.{filled_start, filled_next, source_front, rooms_less, rooms_same, copied_lengths}
use Rattle.records.proofs.append.Goals as goal

pub loop-p-init : goal.loop-p-init
loop-p-init c = (record { hashes = refl; numbers = refl; deps = refl }, filled_start _ _ _ _ _ _ _ _)

pub loop-p-preserved : goal.loop-p-preserved
loop-p-preserved c =
    let source = source_front c.requires.rooms c.requires.few in
    let room = rooms_same c.loop-p.invariant.0 (rooms_less (c.args.n + c.loop-p.p + 1) c.requires.rooms_2 (omega arith)) in
    let kept = copied_lengths (source.rooms _ c.loop-p-test.true) (source.few _ c.loop-p-test.true) room c.copy_record.ensures in (
      record { hashes = kept.hashes ∙ c.loop-p.invariant.0.hashes; numbers = kept.numbers ∙ c.loop-p.invariant.0.numbers; deps = kept.deps ∙ c.loop-p.invariant.0.deps },
      filled_next c.loop-p.invariant.1 c.copy_record.ensures,
    )
