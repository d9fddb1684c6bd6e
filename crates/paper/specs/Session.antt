-- The text session: bytes in, bytes out, line after line, over a graph of the bench room. `session` is what the session function promises.
-- Assumes nothing.
use Rattle.std.specs.Prelude.{Bool, true, false, cond, List, [], ◌∷◌, ◌++◌, map, ℕ, suc, leb, ltb, length, drop, replicate}
use Rattle.std.proofs.Math.Option.{Option, none, some}
use Rattle.paper.specs.Bytes.{bytes}
use Rattle.paper.specs.Lists.{each_below, same_list, hash_at}
use Rattle.paper.specs.Numbers.{number, done, unknown_dependency, no_owner, short_buffer}
use Rattle.paper.specs.Graph as graph
use Rattle.paper.specs.Graph.{Graph, nodes}
use Rattle.paper.specs.Adding.{Hub, Change, Verdict, plain, unknown, judged, added}
use Rattle.paper.specs.Text.{parted, flat, digits_of, hex_of, list_text, clock_text}
use Rattle.paper.specs.Command.{Command, heads, clock, missing, owner, add, bad, header, heads_word, clock_word, missing_word, owner_word, add_word, actors_of, command_of}

-- ---- what a command answers, and what it does to the graph

-- an empty graph of the bench room with n actors: 256 changes, 1,024 edges
unfoldable pub bench : ℕ → Hub
bench n =
    record {
      graph = record { size = 0; hash = λ k. []; actor = λ k. 0; seq = λ k. 0; max_op = λ k. 0; ops = λ k. 0; deps = λ k. [] };
      actors = n;
      change_room = 256;
      edge_room = 1024;
    }

-- an answer line: a word, tab, a text, LF
unfoldable pub answer_line : List ℕ → List ℕ → List ℕ
answer_line word text = word ++ (9 ∷ (text ++ (10 ∷ [])))

-- the change that an `add` line hands over
abbrev pub change_of : List ℕ → ℕ → ℕ → ℕ → ℕ → List (List ℕ) → Change
change_of h a s m k ds = record { hash = h; actor = a; seq = s; max_op = m; ops = k; deps = flat ds }

-- what adding comes to: its number, and after 4 a tab and the hash that is unknown
unfoldable pub verdict_text : Change → Verdict → List ℕ
verdict_text x (plain o) = digits_of (number o)
verdict_text x (unknown i) = digits_of (number unknown_dependency) ++ (9 ∷ hex_of (hash_at x.deps i))

-- the owner's hash, or 14 where there is none
unfoldable pub owner_text : Graph → ℕ → List ℕ
owner_text g k = cond (ltb k g.size) (hex_of (g.hash k)) (digits_of (number no_owner))

-- the entries of a clock, one for each actor
unfoldable pub entries : Hub → List (List ℕ) → List ℕ
entries u hs = each_below (graph.clock u.graph (nodes u.graph hs)) u.actors

-- the hashes of the missing list
unfoldable pub missed : Hub → List (List ℕ) → List (List ℕ)
missed u hs = map u.graph.hash (graph.missing u.graph (nodes u.graph hs))

unfoldable pub answer : Hub → Command → List ℕ
answer u heads = answer_line heads_word (list_text (graph.heads u.graph))
answer u (clock hs) = answer_line clock_word (clock_text (entries u hs))
answer u (missing hs) = answer_line missing_word (list_text (missed u hs))
answer u (owner a c) = answer_line owner_word (owner_text u.graph (graph.owner u.graph a c))
answer u (add h a s m k ds) = answer_line add_word (verdict_text (change_of h a s m k ds) (judged u (change_of h a s m k ds)))
answer u bad = []

-- only `add` changes the graph
unfoldable pub after_command : Hub → Command → Hub
after_command u heads = u
after_command u (clock hs) = u
after_command u (missing hs) = u
after_command u (owner a c) = u
after_command u (add h a s m k ds) = added u (change_of h a s m k ds)
after_command u bad = u

-- ---- line after line

-- what is to come: the first line, the second, lines that ask of a graph; or nothing after a bad line
pub data Phase : Type 0 where
  first : Phase
  second : Phase
  asking : Hub → Phase
  ended : Phase

-- a phase, and the bytes that were answered on the way to it
pub record PhaseAfter : Type 0 where
  pub phase : Phase
  pub said : List ℕ

-- `bad`, tab, the line's number, LF
unfoldable pub bad_text : ℕ → List ℕ
bad_text n = answer_line (bytes "bad") (digits_of n)

-- line n is bad, and nothing follows
unfoldable pub bad_line : ℕ → PhaseAfter
bad_line n = record { phase = ended; said = bad_text n }

-- the first line: is it the header?
unfoldable pub first_line : ℕ → Bool → PhaseAfter
first_line n true = record { phase = second; said = [] }
first_line n false = bad_line n

-- the second line: how many actors?
unfoldable pub second_line : ℕ → Option ℕ → PhaseAfter
second_line n none = bad_line n
second_line n (some actors) = record { phase = asking (bench actors); said = [] }

-- a line that asks
unfoldable pub asked_line : ℕ → Hub → Command → PhaseAfter
asked_line n u heads = record { phase = asking (after_command u heads); said = answer u heads }
asked_line n u (clock hs) = record { phase = asking (after_command u (clock hs)); said = answer u (clock hs) }
asked_line n u (missing hs) = record { phase = asking (after_command u (missing hs)); said = answer u (missing hs) }
asked_line n u (owner a c) = record { phase = asking (after_command u (owner a c)); said = answer u (owner a c) }
asked_line n u (add h a s m k ds) = record { phase = asking (after_command u (add h a s m k ds)); said = answer u (add h a s m k ds) }
asked_line n u bad = bad_line n

-- line n of at most 2,400 bytes
unfoldable pub short_line : Phase → ℕ → List ℕ → PhaseAfter
short_line first n l = first_line n (same_list l header)
short_line second n l = second_line n (actors_of l)
short_line (asking u) n l = asked_line n u (command_of l)
short_line ended n l = record { phase = ended; said = [] }

-- a line that is too long
unfoldable pub long_line : Phase → ℕ → PhaseAfter
long_line first n = bad_line n
long_line second n = bad_line n
long_line (asking u) n = bad_line n
long_line ended n = record { phase = ended; said = [] }

-- line n, which LF ends
unfoldable pub line_step : Phase → ℕ → List ℕ → PhaseAfter
line_step p n l = cond (leb (length l) 2400) (short_line p n l) (long_line p n)

-- what stands after the last LF as line n: an unended line, or a missing first or second one, is bad
unfoldable pub ending : Phase → ℕ → List ℕ → List ℕ
ending first n rest = bad_text n
ending second n rest = bad_text n
ending (asking u) n [] = []
ending (asking u) n (b ∷ rest) = bad_text n
ending ended n rest = []

-- the answers of the lines from line n on, joined
unfoldable pub answers : Phase → ℕ → List (List ℕ) → List ℕ
answers p n [] = []
answers p n (rest ∷ []) = ending p n rest
answers p n (l ∷ m ∷ ls) = (line_step p n l).said ++ answers (line_step p n l).phase (suc n) (m ∷ ls)

-- the session: all bytes in, all bytes out
unfoldable pub session : List ℕ → List ℕ
session bytes = answers first 1 (parted 10 bytes)

-- ---- a text answer in a lent buffer: its number, its length, and the buffer afterwards

unfoldable pub number_in : List ℕ → ℕ → ℕ
number_in text room = number (cond (leb (length text) room) done short_buffer)

unfoldable pub length_in : List ℕ → ℕ → ℕ
length_in text room = cond (leb (length text) room) (length text) 0

-- bytes past the answer stay; where the answer does not fit every byte is 0
unfoldable pub buffer_in : List ℕ → List ℕ → List ℕ
buffer_in text buffer = cond (leb (length text) (length buffer)) (text ++ drop (length text) buffer) (replicate (length buffer) 0)
