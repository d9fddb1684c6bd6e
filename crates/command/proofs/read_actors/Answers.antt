-- The word `actors`, a number from 1 to 16, and nothing more: one law for each of the ways out. Assumes nothing.
use Rattle.std.proofs.Common.{sym, ◌∙◌, arith}
use borrow.Author.Tests.{ltb-true, ltb-false}
use Rattle.paper.specs.Bytes.{bytes}
use Rattle.paper.specs.Command.{actors_word}
use Rattle.text.specs.CursorLaws.{field_found}
use Rattle.command.specs.ReadLaws.{actors_none, actors_word_lem, actors_number, actors_more, actors_few, actors_many, actors_count}
use Rattle.command.proofs.read_actors.Goals as goal

pub returns-in_err-first : goal.returns-in_err-first
returns-in_err-first c = c.from_residual.ensures ∙ actors_none _ (sym c.in_err-first.ensures)

pub bytes-requires : goal.bytes-requires
bytes-requires c = let f = field_found _ _ _ (sym c.in_ok-first.ensures) in (f.ordered, f.within)

pub returns-then-not-same_bytes : goal.returns-then-not-same_bytes
unfolding bytes actors_word
returns-then-not-same_bytes c =
    actors_word_lem _ _ (field_found _ _ _ (sym c.in_ok-first.ensures)) (rw c.bytes.ensures at (sym c.same_bytes.ensures ∙ c.if-not-same_bytes.true))

pub returns-in_err-n : goal.returns-in_err-n
unfolding bytes actors_word
returns-in_err-n c =
    c.from_residual-in_err-n.ensures
    ∙ actors_number _ _ (field_found _ _ _ (sym c.in_ok-first.ensures)) (rw c.bytes.ensures at (sym c.same_bytes.ensures ∙ c.if-not-same_bytes.false)) (sym c.in_err-n.ensures)

pub returns-then-not-past : goal.returns-then-not-past
unfolding bytes actors_word
returns-then-not-past c =
    actors_more _ _ (field_found _ _ _ (sym c.in_ok-first.ensures)) (rw c.bytes.ensures at (sym c.same_bytes.ensures ∙ c.if-not-same_bytes.false)) _ _ (sym c.in_ok-n.ensures) (ltb-false _ _ (sym c.past.ensures ∙ c.if-not-past.true))

pub returns-in-1-to-16 : goal.returns-in-1-to-16
unfolding bytes actors_word
returns-in-1-to-16 c =
    actors_count _ _ (field_found _ _ _ (sym c.in_ok-first.ensures)) (rw c.bytes.ensures at (sym c.same_bytes.ensures ∙ c.if-not-same_bytes.false)) _ _ (sym c.in_ok-n.ensures) (ltb-true _ _ (sym c.past.ensures ∙ c.if-not-past.false)) (omega arith) (omega arith)

pub returns-in_default : goal.returns-in_default
unfolding bytes actors_word
returns-in_default c =
    actors_few _ _ (field_found _ _ _ (sym c.in_ok-first.ensures)) (rw c.bytes.ensures at (sym c.same_bytes.ensures ∙ c.if-not-same_bytes.false)) _ _ (sym c.in_ok-n.ensures) (ltb-true _ _ (sym c.past.ensures ∙ c.if-not-past.false)) (omega arith)

pub returns-in_default-2 : goal.returns-in_default-2
unfolding bytes actors_word
returns-in_default-2 c =
    actors_many _ _ (field_found _ _ _ (sym c.in_ok-first.ensures)) (rw c.bytes.ensures at (sym c.same_bytes.ensures ∙ c.if-not-same_bytes.false)) _ _ (sym c.in_ok-n.ensures) (ltb-true _ _ (sym c.past.ensures ∙ c.if-not-past.false)) (omega arith)
