use Rattle.std.proofs.Common.{ℕ, List, length, sym, ap, ◌∙◌, arith, eqb-true}
use Rattle.std.proofs.lemmas.Bool.{eqb-false}
use Rattle.tables.specs.Tables.{graph}
use Rattle.tables.specs.Lent.{lists}
use Rattle.answer_buffer.specs.Room.{room}
use Rattle.answer_buffer.specs.Answers.{list_answer, filled}
use Rattle.missing.specs.MissingLaws.{missing_is, within, bad_told, bad_filled, empty_told, empty_filled, list_told, list_filled}
use Rattle.missing.proofs.get_hashes.Goals as goal

pub returns-then-have-ne0 : goal.returns-then-have-ne0
returns-then-have-ne0 c = let g = graph (lists c.args.tables.now) in record {
  value = sym (bad_told g c.args.have.now c.if-have-ne0.true _);
  out_after = sym (bad_filled g c.args.have.now c.if-have-ne0.true _);
}

pub returns-then-is_empty : goal.returns-then-is_empty
returns-then-is_empty c =
    let g = graph (lists c.args.tables.now) in
    let none = eqb-true _ _ (sym c.is_empty.ensures ∙ c.if-is_empty.true) in
    record {
      value = sym (empty_told g c.args.have.now c.if-have-ne0.false none _);
      out_after = sym (empty_filled g c.args.have.now c.if-have-ne0.false none _);
    }

pub above_into-requires : goal.above_into-requires
above_into-requires c =
    let t = lists c.args.tables.now in
    (within t c.requires c.args.have.now _ _ c.list_clock.ensures (omega arith), (room t c.requires).hashes_in)

-- What is above the clock of the have-list is the paper's missing list.
pub returns : goal.returns
returns c =
    let s = c.args in
    let t = lists s.tables.now in
    let m = missing_is t c.requires s.have.now _ _ c.list_clock.ensures in
    let some = eqb-false _ _ (sym c.is_empty.ensures ∙ c.if-is_empty.false) in
    record {
      value = c.above_into.ensures.value ∙ ap (λ (x : List ℕ). list_answer x (length s.out.now)) m ∙ sym (list_told (graph t) s.have.now c.if-have-ne0.false some _);
      out_after = c.above_into.ensures.out_after ∙ ap (λ (x : List ℕ). filled x s.out.now) m ∙ sym (list_filled (graph t) s.have.now c.if-have-ne0.false some _);
    }
