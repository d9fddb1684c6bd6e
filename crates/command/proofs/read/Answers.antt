-- The answer and both buffers are what the paper's command for the line says: one law for each way out, by the first field and by what is read after it.
-- Assumes nothing.
use Rattle.std.proofs.Common.{sym}
use Rattle.text.specs.CursorLaws.{field_found}
use Rattle.command.specs.ReadLaws.{read_none, read_other, read_heads_last, read_owned, read_added, read_clock, read_clock_not, read_missing, read_missing_not}
use Rattle.command.proofs.read.Goals as goal

pub returns-in_err-first : goal.returns-in_err-first
returns-in_err-first c = rw c.from_residual.ensures (read_none _ _ _ (sym c.in_err-first.ensures))

pub bytes-requires : goal.bytes-requires
bytes-requires c = let f = field_found _ _ _ (sym c.in_ok-first.ensures) in (f.ordered, f.within)

pub returns-in_err-read_word : goal.returns-in_err-read_word
returns-in_err-read_word c =
    rw c.from_residual-in_err-read_word.ensures
    (read_other _ _ _ _ (field_found _ _ _ (sym c.in_ok-first.ensures)) (rw c.bytes.ensures at (sym c.in_err-read_word.ensures)))

pub returns-in-Heads : goal.returns-in-Heads
returns-in-Heads c =
    let w = rw c.in-Heads.is at c.in_ok-read_word.ensures in
    rw c.then_some.ensures
    (read_heads_last _ _ _ _ (field_found _ _ _ (sym c.in_ok-first.ensures)) (rw c.bytes.ensures at (sym w)) _ c.past.ensures)

pub returns-in_err-read_list-in-Clock : goal.returns-in_err-read_list-in-Clock
returns-in_err-read_list-in-Clock c =
    let w = rw c.in-Clock.is at c.in_ok-read_word.ensures in
    rw c.from_residual-in_err-read_list-in-Clock.ensures
    (read_clock_not _ _ _ _ (field_found _ _ _ (sym c.in_ok-first.ensures)) _ c.read_list.ensures.list_after (rw c.bytes.ensures at (sym w)) (sym c.in_err-read_list-in-Clock.ensures.value))

pub returns-in_ok-read_list-in-Clock : goal.returns-in_ok-read_list-in-Clock
returns-in_ok-read_list-in-Clock c =
    let w = rw c.in-Clock.is at c.in_ok-read_word.ensures in
    read_clock _ _ _ _ (field_found _ _ _ (sym c.in_ok-first.ensures)) _ c.read_list.ensures.list_after (rw c.bytes.ensures at (sym w)) _ (sym c.in_ok-read_list-in-Clock.ensures.value)

pub returns-in_err-read_list-in-Missing : goal.returns-in_err-read_list-in-Missing
returns-in_err-read_list-in-Missing c =
    let w = rw c.in-Missing.is at c.in_ok-read_word.ensures in
    rw c.from_residual-in_err-read_list-in-Missing.ensures
    (read_missing_not _ _ _ _ (field_found _ _ _ (sym c.in_ok-first.ensures)) _ c.read_list-in-Missing.ensures.list_after (rw c.bytes.ensures at (sym w)) (sym c.in_err-read_list-in-Missing.ensures.value))

pub returns-in_ok-read_list-in-Missing : goal.returns-in_ok-read_list-in-Missing
returns-in_ok-read_list-in-Missing c =
    let w = rw c.in-Missing.is at c.in_ok-read_word.ensures in
    read_missing _ _ _ _ (field_found _ _ _ (sym c.in_ok-first.ensures)) _ c.read_list-in-Missing.ensures.list_after (rw c.bytes.ensures at (sym w)) _ (sym c.in_ok-read_list-in-Missing.ensures.value)

pub returns-in-Owner : goal.returns-in-Owner
returns-in-Owner c =
    let w = rw c.in-Owner.is at c.in_ok-read_word.ensures in
    read_owned _ _ _ _ (field_found _ _ _ (sym c.in_ok-first.ensures)) (rw c.bytes.ensures at (sym w)) _ c.read_owner.ensures

pub returns-in-Add : goal.returns-in-Add
returns-in-Add c =
    let w = rw c.in-Add.is at c.in_ok-read_word.ensures in
    read_added _ _ _ _ (field_found _ _ _ (sym c.in_ok-first.ensures)) (rw c.bytes.ensures at (sym w)) _ _ _ c.read_add.ensures
