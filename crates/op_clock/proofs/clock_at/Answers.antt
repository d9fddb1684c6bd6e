use Rattle.std.proofs.Common.{refl, sym, ap, ◌∙◌, arith, length-take}
use Rattle.std.specs.Prelude.{Ok}
use Rattle.tables.specs.Tables.{actors}
use Rattle.tables.specs.Lent.{lists}
use Rattle.answer_buffer.specs.AnswerLaws.{listed_done, listed_short, filled_short}
use Rattle.op_clock.specs.OpClockLaws.{ops_are, placed, ops_bad, unfilled_bad, ops_good, filled_good, ops_long, ops_seam}
use Rattle.op_clock.proofs.clock_at.Goals as goal

pub returns-then-list-ne0 : goal.returns-then-list-ne0
returns-then-list-ne0 c = let t = lists c.args.tables.now in record {
  value = sym (ops_bad t _ c.if-list-ne0.true _);
  out_after = sym (unfilled_bad t _ c.if-list-ne0.true _);
}

-- Short exactly where the buffer has fewer entries than there are actors.
pub returns-then-out-a : goal.returns-then-out-a
returns-then-out-a c =
    let t = lists c.args.tables.now in
    let n = ops_long t c.args.list.now in
    let l = c.if-out-a.true in
    record {
      value = sym (ops_good t _ c.if-list-ne0.false _ ∙ listed_short _ _ (omega arith));
      out_after = sym (filled_good t _ c.if-list-ne0.false _ ∙ filled_short _ _ (omega arith));
    }

pub ops_into-requires : goal.ops_into-requires
ops_into-requires c =
    let l = c.if-out-a.false in
    placed (lists c.args.tables.now) c.requires c.args.list.now _ _ c.list_clock.ensures (omega arith) _ (simp length-take (omega arith))

-- The pass over the nodes turns the list's clock into its op clock.
pub returns : goal.returns
returns c =
    let s = c.args in
    let t = lists s.tables.now in
    let n = ops_long t s.list.now in
    let l = c.if-out-a.false in
    record {
      value = ap Ok (sym n) ∙ sym (ops_good t _ c.if-list-ne0.false _ ∙ listed_done _ _ (omega arith));
      out_after = ops_seam t s.list.now s.out.now _ (actors t) refl l (c.ops_into.ensures ∙ ops_are t c.requires s.list.now _ _ c.list_clock.ensures _ (simp length-take (omega arith))) ∙ sym (filled_good t s.list.now c.if-list-ne0.false s.out.now);
    }
