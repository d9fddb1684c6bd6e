-- Whether a list is the heads', and the tests that the scans make.
-- Assumes nothing.
use Rattle.std.specs.Prelude.{Bool, not, cond, ◌&&◌, ◌||◌, List, ℕ, eqb}
use Rattle.paper.specs.Lists.{hash_at, names, hashes_of, same_list}
use Rattle.paper.specs.Graph.{Graph, heads}
use Rattle.paper.specs.Loading.{same_hashes}
use Rattle.tables.specs.Tables.{head_at}
use Rattle.answer_buffer.specs.Answers.{whole_list}
use Rattle.answer_buffer.specs.Answers.{YesNo}
use Rattle.answer_buffer.specs.declared.Refusal.TheVariants.{Malformed}
use Rattle.std.specs.Prelude.{Ok, Err}

-- the list names exactly the heads, order and repeats ignored: each listed hash is a head's, and each head's is listed
unfoldable pub current : Graph → List ℕ → Bool
current g bytes = same_hashes (hashes_of bytes) (heads g)

unfoldable pub current_told : Graph → List ℕ → YesNo
current_told g bytes = cond (whole_list bytes) (Ok (current g bytes)) (Err Malformed)

-- node k is flagged as a head, and its hash is h
abbrev pub head_is : List ℕ → List ℕ → List ℕ → ℕ → Bool
head_is hs ns h k = eqb (head_at ns k) 1 && same_list (hash_at hs k) h

-- node k is not flagged as a head, or its hash is listed
abbrev pub head_named : List ℕ → List ℕ → List ℕ → ℕ → Bool
head_named hs ns bytes k = not (eqb (head_at ns k) 1) || names (hash_at hs k) (hashes_of bytes)
