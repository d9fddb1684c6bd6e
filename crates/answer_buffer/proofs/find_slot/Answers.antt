use Rattle.std.proofs.Common.{sym, ap, ◌∙◌, arith, ◌≡◌}
use Rattle.std.specs.Prelude.{Some}
use Rattle.answer_buffer.specs.SlotLaws.{slot_less, slot_same, slot_greater, slot_end}
use Rattle.answer_buffer.proofs.find_slot.Goals as goal

pub returns-in-Less : goal.returns-in-Less
returns-in-Less c = sym (slot_less _ _ _ _ c.loop-i-test.true (sym c.compare.ensures ∙ c.in-Less.is)) ∙ c.loop-i.invariant

pub returns-in-Equal : goal.returns-in-Equal
returns-in-Equal c = sym (slot_same _ _ _ _ c.loop-i-test.true (sym c.compare.ensures ∙ c.in-Equal.is)) ∙ c.loop-i.invariant

pub loop-i-preserved : goal.loop-i-preserved
loop-i-preserved c = sym (slot_greater _ _ _ _ c.loop-i-test.true (sym c.compare.ensures ∙ c.in-Greater.is)) ∙ c.loop-i.invariant

pub returns : goal.returns
returns c = let e : c.loop-i.i ≡ c.args.c = omega arith in ap Some (sym e) ∙ sym (slot_end _ _ _ _ c.loop-i-test.false) ∙ c.loop-i.invariant
