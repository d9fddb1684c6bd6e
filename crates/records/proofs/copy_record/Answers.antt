use Rattle.std.proofs.Common.{◌*◌, ◌∙◌, ap, arith}
use Rattle.list_laws.specs.Over.{over}
use Rattle.records.specs.RecordLaws.{copied_over, five_part}
use Rattle.records.proofs.copy_record.Goals as goal

pub returns : goal.returns
returns c =
    record {
      hashes = c.copy.ensures;
      numbers = rw c.copy_from_slice.ensures.after (copied_over c.args.tnumbers.now c.args.numbers.now (5 * c.args.at) (5 * c.args.k) 5 (omega (arith, c.requires.rooms.numbers)) ∙ ap (over c.args.tnumbers.now (5 * c.args.at)) (five_part c.args.numbers.now c.args.k (omega (arith, c.requires.rooms.numbers))));
      deps = c.copy-2.ensures;
    }
