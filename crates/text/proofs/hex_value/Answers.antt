-- By cases: a digit, a letter, below `0`, between, above `f`: one law for each. Assumes nothing.
use Rattle.std.proofs.Common.{sym, arith}
use Rattle.text.specs.WordsLaws.{hex_low, hex_digit_lem, hex_between, hex_letter, hex_high}
use Rattle.text.proofs.hex_value.Goals as goal

pub returns-in-48-to-57 : goal.returns-in-48-to-57
returns-in-48-to-57 c = sym (hex_digit_lem _ (omega arith) (omega arith))

pub returns-in-97-to-102 : goal.returns-in-97-to-102
returns-in-97-to-102 c = sym (hex_letter _ (omega arith) (omega arith))

pub returns-in_default : goal.returns-in_default
returns-in_default c = sym (hex_low _ (omega arith))

pub returns-in_default-2 : goal.returns-in_default-2
returns-in_default-2 c = sym (hex_between _ (omega arith) (omega arith))

pub returns-in_default-3 : goal.returns-in_default-3
returns-in_default-3 c = sym (hex_high _ (omega arith))
