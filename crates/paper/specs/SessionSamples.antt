-- Sessions with their answers: the paper's worked example, and lists that are easily read wrongly.
-- Assumes nothing.
use Rattle.std.specs.Prelude.{cond, List, [], ◌∷◌, ◌++◌, ℕ, zero, suc, eqb, replicate}
use Prim.Native.String.{String}
use Rattle.paper.specs.Bytes.{bytes}
use Rattle.paper.specs.Command.{header}

-- a line as the paper shows it: a tab for a space, and the digit n 64 times for Hn
unfoldable pub shown : List ℕ → List ℕ
shown [] = []
shown (b ∷ []) = cond (eqb b 32) 9 b ∷ []
shown (b ∷ d ∷ bs) = cond (eqb b 72) (replicate 64 d ++ shown bs) (cond (eqb b 32) 9 b ∷ shown (d ∷ bs))

-- lines so shown, each ended by LF
unfoldable pub lines : List String → List ℕ
lines [] = []
lines (l ∷ ls) = shown (bytes l) ++ (10 ∷ lines ls)

-- the same after the first line
unfoldable pub after_header : List String → List ℕ
after_header ls = header ++ (10 ∷ lines ls)

-- H1 n times, joined by commas, before a rest
unfoldable pub ones : ℕ → String → List ℕ
ones zero rest = shown (bytes rest)
ones (suc n) rest = replicate 64 49 ++ (44 ∷ ones n rest)

pub record Run : Type 0 where
  pub given : List ℕ
  pub answered : List ℕ

abbrev pub run : List ℕ → List ℕ → Run
run g a = record { given = g; answered = a }

abbrev pub runs : List Run
runs =
    -- the worked example
    run
    (after_header
    ("actors 2"
    ∷ "add H1 0 1 3 3 -"
    ∷ "add H2 1 1 5 2 H1"
    ∷ "add H3 0 2 5 2 H1"
    ∷ "heads"
    ∷ "clock H2"
    ∷ "missing H2"
    ∷ "owner 0 4"
    ∷ "add H2 1 9 9 9 H4"
    ∷ "add H5 0 3 6 1 H4"
    ∷ []))
    (lines ("add 0" ∷ "add 0" ∷ "add 0" ∷ "heads H2,H3" ∷ "clock 1,1" ∷ "missing H3" ∷ "owner H3" ∷ "add 3" ∷ "add 4 H4" ∷ []))
    -- nothing; the first line unended; the second missing; no line that asks
    ∷ run [] (lines ("bad 1" ∷ []))
    ∷ run header (lines ("bad 1" ∷ []))
    ∷ run (after_header []) (lines ("bad 2" ∷ []))
    ∷ run (after_header ("actors 2" ∷ [])) []
    -- answers before a bad line stand, nothing follows it
    ∷ run (after_header ("actors 2" ∷ "heads" ∷ "x" ∷ "heads" ∷ [])) (lines ("heads -" ∷ "bad 4" ∷ []))
    -- the first two lines have their place; there are 1 to 16 actors
    ∷ run (after_header ("actors 2" ∷ "actors 2" ∷ [])) (lines ("bad 3" ∷ []))
    ∷ run (lines ("actors 2" ∷ [])) (lines ("bad 1" ∷ []))
    ∷ run (after_header ("actors 16" ∷ [])) []
    ∷ run (after_header ("actors 17" ∷ [])) (lines ("bad 2" ∷ []))
    ∷ run (after_header ("actors 0" ∷ [])) (lines ("bad 2" ∷ []))
    ∷ run (after_header ("actors 02" ∷ [])) (lines ("bad 2" ∷ []))
    -- a blank line is a line; an unended line is bad
    ∷ run (after_header ("actors 2" ∷ "heads" ∷ "" ∷ [])) (lines ("heads -" ∷ "bad 4" ∷ []))
    ∷ run (after_header ("actors 2" ∷ []) ++ bytes "heads") (lines ("bad 3" ∷ []))
    -- numbers above a field's meaning are refusals; one that has no 64 bits is bad
    ∷ run (after_header ("actors 2" ∷ "add H1 99 1 1 1 -" ∷ "add H1 0 0 1 1 -" ∷ "add H1 0 18446744073709551615 1 1 -" ∷ "add H1 0 1 4294967296 1 -" ∷ "add H1 0 1 1 2 -" ∷ []))
    (lines ("add 5" ∷ "add 6" ∷ "add 6" ∷ "add 7" ∷ "add 7" ∷ []))
    ∷ run (after_header ("actors 2" ∷ "add H1 0 18446744073709551616 1 1 -" ∷ [])) (lines ("bad 3" ∷ []))
    -- an unknown actor and the counter 0 own nothing
    ∷ run (after_header ("actors 2" ∷ "owner 2 1" ∷ "owner 0 0" ∷ [])) (lines ("owner 14" ∷ "owner 14" ∷ []))
    -- a clock has an entry for each actor; unknown and repeated hashes
    ∷ run (after_header ("actors 3" ∷ "clock -" ∷ "missing -" ∷ "add H1 0 1 1 1 -" ∷ "clock H9" ∷ "clock H1,H9,H1" ∷ "missing H9,H9" ∷ []))
    (lines ("clock 0,0,0" ∷ "missing -" ∷ "add 0" ∷ "clock 0,0,0" ∷ "clock 1,0,0" ∷ "missing H1" ∷ []))
    -- CR, a leading zero, upper case
    ∷ run (after_header ("actors 2" ∷ "heads\r" ∷ [])) (lines ("bad 3" ∷ []))
    ∷ run (after_header ("actors 2" ∷ "owner 00 1" ∷ [])) (lines ("bad 3" ∷ []))
    ∷ run (after_header ("actors 2" ∷ "clock HA" ∷ [])) (lines ("bad 3" ∷ []))
    ∷ run (after_header ("actors 2" ∷ "clock Ha" ∷ [])) (lines ("clock 0,0" ∷ []))
    -- `-` joined with hashes, empty members, `-` for a hash
    ∷ run (after_header ("actors 2" ∷ "clock -,H1" ∷ [])) (lines ("bad 3" ∷ []))
    ∷ run (after_header ("actors 2" ∷ "clock H1," ∷ [])) (lines ("bad 3" ∷ []))
    ∷ run (after_header ("actors 2" ∷ "clock ,H1" ∷ [])) (lines ("bad 3" ∷ []))
    ∷ run (after_header ("actors 2" ∷ "clock " ∷ [])) (lines ("bad 3" ∷ []))
    ∷ run (after_header ("actors 2" ∷ "add - 0 1 1 1 -" ∷ [])) (lines ("bad 3" ∷ []))
    -- a change that names itself; the session goes on after a refusal
    ∷ run (after_header ("actors 2" ∷ "add H1 0 1 1 1 H1" ∷ "heads" ∷ [])) (lines ("add 4 H1" ∷ "heads -" ∷ []))
    -- 33 dependencies give 8, and 4 where one after them is unknown
    ∷ run (after_header ("actors 2" ∷ "add H1 0 1 1 1 -" ∷ []) ++ shown (bytes "add H2 0 2 1 1 ") ++ ones 32 "H1\n") (lines ("add 0" ∷ "add 8" ∷ []))
    ∷ run (after_header ("actors 2" ∷ "add H1 0 1 1 1 -" ∷ []) ++ shown (bytes "add H2 0 2 1 1 ") ++ ones 33 "H9\n") (lines ("add 0" ∷ "add 4 H9" ∷ []))
    ∷ []
