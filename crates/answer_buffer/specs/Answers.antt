-- The answers of questions: their numbers, and what a lent buffer holds afterwards.
-- Assumes nothing.
use Rattle.std.specs.Prelude.{Bool, cond, Result, Ok, Err, List, ◌++◌, ℕ, ◌%◌, eqb, ltb, leb, length, drop}
use Rattle.paper.specs.Numbers.{number, done, malformed, not_found, no_owner, short_buffer}
use Rattle.paper.specs.Graph.{Graph}
use Rattle.answer_buffer.specs.declared.Refusal.{Refusal}
use Rattle.answer_buffer.specs.declared.Refusal.TheVariants.{Malformed, NotFound, NoOwner, Short}

-- a node's number, or why there is none
abbrev pub Place : Type 0
Place = Result ℕ Refusal

-- yes or no, or why neither
abbrev pub YesNo : Type 0
YesNo = Result Bool Refusal

-- how many elements of the lent buffer the answer takes, or why nothing is written
abbrev pub Listed : Type 0
Listed = Result ℕ Refusal

abbrev pub refusal_number : Refusal → ℕ
refusal_number Malformed = number malformed
refusal_number NotFound = number not_found
refusal_number NoOwner = number no_owner
refusal_number Short = number short_buffer

abbrev pub answer_number : {A : Type 0} → Result A Refusal → ℕ
answer_number (Ok a) = number done
answer_number (Err r) = refusal_number r

abbrev pub place_number : Place → ℕ
place_number p = answer_number p

abbrev pub yes_no_number : YesNo → ℕ
yes_no_number t = answer_number t

abbrev pub listed_number : Listed → ℕ
listed_number l = answer_number l

-- the answer for a list that goes into a buffer of `room` elements: 15 exactly where it is shorter than the list
unfoldable pub list_answer : List ℕ → ℕ → Listed
list_answer l room = cond (leb (length l) room) (Ok (length l)) (Err Short)

-- the buffer afterwards: the list and what lay past it, or, where it does not fit, as it was
unfoldable pub filled : List ℕ → List ℕ → List ℕ
filled l out = cond (leb (length l) (length out)) (l ++ drop (length l) out) out

-- a hash that is lent is 32 bytes, a list of hashes a multiple of them
abbrev pub one_hash : List ℕ → Bool
one_hash h = eqb (length h) 32

abbrev pub whole_list : List ℕ → Bool
whole_list bytes = eqb (length bytes % 32) 0

-- the hash of node k as an answer, and the buffer afterwards; where k is no node, the refusal
unfoldable pub node_hash : Graph → ℕ → Listed → ℕ → Listed
node_hash g k refusal room = cond (ltb k g.size) (list_answer (g.hash k) room) refusal

unfoldable pub node_hash_filled : Graph → ℕ → List ℕ → List ℕ
node_hash_filled g k out = cond (ltb k g.size) (filled (g.hash k) out) out
