-- What the questions on a queue tell in a lent place: yes as 1 and no as 0, or how many; a refusal leaves it as it was.
-- Assumes nothing.
use Rattle.std.specs.Prelude.{List, ℕ, Bool, cond, Result, Ok, Err}
use Rattle.lent_place.specs.Places.{told_in}
use Rattle.waiting.specs.declared.QueueRefusal.{QueueRefusal}

abbrev pub queue_yes_in : Result Bool QueueRefusal → List ℕ → List ℕ
queue_yes_in (Ok b) told = told_in (cond b 1 0) told
queue_yes_in (Err e) told = told

abbrev pub listed_count_in : Result ℕ QueueRefusal → List ℕ → List ℕ
listed_count_in (Ok n) told = told_in n told
listed_count_in (Err e) told = told
