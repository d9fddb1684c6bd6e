-- How much a line that asks lists, and how it ends.
-- Assumes nothing.
use Rattle.std.specs.Prelude.{◌≡◌, refl, ℕ, Option, Result, Ok, Err, ok_or}
use Rattle.std.specs.Result.{result_unwrap_or}
use Rattle.answer_buffer.specs.Answers.{Listed}
use Rattle.session_line.specs.declared.NoAnswer.{NoAnswer}
use Rattle.session_line.specs.declared.NoAnswer.TheVariants.{Full}

-- how many bytes were listed, and 0 at a refusal
abbrev pub count_of : Listed → ℕ
count_of (Ok n) = n
count_of (Err r) = 0

-- what a refusal is read as
pub unwrapped : (l : Listed) → result_unwrap_or l 0 ≡ count_of l
unwrapped (Ok n) = refl
unwrapped (Err r) = refl

-- a line whose answer was written, or did not fit
abbrev pub told_of : Option ℕ → Result ℕ NoAnswer
told_of p = ok_or p Full
