use Rattle.std.proofs.Common.{◌*◌, ◌∙◌, ap, arith}
use Rattle.list_laws.specs.Over.{over}
use Rattle.records.specs.RecordLaws.{pasted_over, five_part}
use Rattle.records.proofs.move_record.Goals as goal

pub returns : goal.returns
returns c =
    record {
      hashes = c.shift.ensures;
      numbers = c.copy_within.ensures.after ∙ (pasted_over c.args.numbers.now (5 * c.args.at) (5 * c.args.k) 5 (omega (arith, c.requires.rooms.numbers)) ∙ ap (over c.args.numbers.now (5 * c.args.at)) (five_part c.args.numbers.now c.args.k (omega (arith, c.requires.rooms.numbers))));
      deps = c.shift-2.ensures;
    }
