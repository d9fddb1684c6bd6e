use Rattle.std.proofs.Common.{sym, ap, ◌∙◌, arith}
use Rattle.std.specs.Prelude.{Ok}
use Rattle.hash.specs.HashLaws.{hash_length}
use Rattle.answer_buffer.specs.AnswerLaws.{listed_done, listed_short, filled_done, filled_short, over_front}
use Rattle.answer_buffer.proofs.hash_into.Goals as goal

pub returns-then-out-lt32 : goal.returns-then-out-lt32
returns-then-out-lt32 c = let n = hash_length c.args.hashes.now c.args.k c.requires in record {
  value = sym (listed_short _ _ (omega arith));
  out_after = sym (filled_short _ _ (omega arith));
}

pub returns : goal.returns
returns c = let n = hash_length c.args.hashes.now c.args.k c.requires in record {
  value = ap Ok (sym n) ∙ sym (listed_done _ _ (omega arith));
  out_after = c.put_hash.ensures ∙ over_front _ _ ∙ sym (filled_done _ _ (omega arith));
}
