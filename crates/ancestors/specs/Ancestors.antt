-- The listed hashes outside a history as an answer, and the tests that the scans make.
-- Assumes nothing.
use Rattle.std.specs.Prelude.{Bool, true, not, cond, ◌&&◌, List, ℕ, Some, None, Option}
use Rattle.paper.specs.Lists.{names, hash_at, hashes_from, hashes_of, keep, ascending}
use Rattle.paper.specs.Text.{flat}
use Rattle.paper.specs.Graph.{Graph, remove_ancestors}
use Rattle.hash.specs.Hash.{find_hash}
use Rattle.walk.specs.Marks.{marked}
use Rattle.answer_buffer.specs.Answers.{whole_list, list_answer, filled}
use Rattle.answer_buffer.specs.Answers.{Listed}
use Rattle.answer_buffer.specs.declared.Refusal.TheVariants.{Malformed}
use Rattle.std.specs.Prelude.{Err}

-- the bytes of the paper's list: the hashes of `list` outside the history of those of `of`, ascending, each once
unfoldable pub outside_bytes : Graph → List ℕ → List ℕ → List ℕ
outside_bytes g list of = flat (remove_ancestors g (hashes_of list) (hashes_of of))

unfoldable pub removed_told : Graph → List ℕ → List ℕ → ℕ → Listed
removed_told g list of room = cond (whole_list list && whole_list of) (list_answer (outside_bytes g list of) room) (Err Malformed)

unfoldable pub removed_filled : Graph → List ℕ → List ℕ → List ℕ → List ℕ
removed_filled g list of out = cond (whole_list list && whole_list of) (filled (outside_bytes g list of) out) out

-- ---- by marks

-- what a search found is not marked
abbrev pub unmarked : List ℕ → Option ℕ → Bool
unmarked m (Some k) = not (marked m k)
unmarked m None = true

-- the hash h is none of the first n, or its node is not marked
abbrev pub hash_stays : List ℕ → ℕ → List ℕ → List ℕ → Bool
hash_stays hs n m h = unmarked m (find_hash hs n h)

-- hash i of the list is kept, and is none of those before it
abbrev pub first_kept : List ℕ → ℕ → List ℕ → List ℕ → ℕ → Bool
first_kept hs n m list i = not (names (hash_at list i) (hashes_from list i 0)) && hash_stays hs n m (hash_at list i)

-- the bytes of those kept, ascending, each once
unfoldable pub kept_bytes : List ℕ → ℕ → List ℕ → List ℕ → List ℕ
kept_bytes hs n m list = flat (ascending (keep (hash_stays hs n m) (hashes_of list)))
