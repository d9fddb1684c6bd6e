use Rattle.std.proofs.Common.{refl, sym, ap, ◌∙◌, arith, length-take, length-drop}
use Rattle.std.specs.Prelude.{Ok}
use Rattle.tables.specs.Tables.{actors}
use Rattle.tables.specs.Lent.{lists}
use Rattle.answer_buffer.specs.AnswerLaws.{listed_done, listed_short, filled_short}
use Rattle.list_clock.specs.ClockLaws.{clock_bad, unfilled_bad, clock_good, filled_good, clock_long, clock_seam}
use Rattle.list_clock.proofs.seq_clock_for_heads.Goals as goal

-- Short exactly where the buffer has fewer entries than there are actors; else the clock stands in its first entries.
pub returns-then-list-ne0 : goal.returns-then-list-ne0
returns-then-list-ne0 c = let t = lists c.args.tables.now in record {
  value = sym (clock_bad t _ c.if-list-ne0.true _);
  out_after = sym (unfilled_bad t _ c.if-list-ne0.true _);
}

pub returns-then-out-a : goal.returns-then-out-a
returns-then-out-a c =
    let t = lists c.args.tables.now in
    let n = clock_long t c.args.list.now in
    let l = c.if-out-a.true in
    record {
      value = sym (clock_good t _ c.if-list-ne0.false _ ∙ listed_short _ _ (omega arith));
      out_after = sym (filled_good t _ c.if-list-ne0.false _ ∙ filled_short _ _ (omega arith));
    }

pub returns : goal.returns
returns c =
    let s = c.args in
    let t = lists s.tables.now in
    let n = clock_long t s.list.now in
    let l = c.if-out-a.false in
    record {
      value = ap Ok (sym n) ∙ sym (clock_good t _ c.if-list-ne0.false _ ∙ listed_done _ _ (omega arith));
      out_after = clock_seam t s.list.now s.out.now (actors t) refl l c.clock_into.ensures (simp (length-take, length-drop) (omega arith)) ∙ sym (filled_good t s.list.now c.if-list-ne0.false s.out.now);
    }
