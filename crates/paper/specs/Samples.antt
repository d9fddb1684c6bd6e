-- Samples P1 to P12 of the paper: one list of questions with their answers, over the definitions.
-- Assumes nothing.
use Rattle.std.specs.Prelude.{Bool, false, cond, List, [], ◌∷◌, map, ℕ, ◌*◌, ltb, replicate}
use Rattle.paper.specs.Lists.{each_below, hash_at}
use Rattle.paper.specs.Numbers.{number, no_owner}
use Rattle.paper.specs.Graph.{Graph, node, nodes, hist, clock, op_clock, missing, owner, heads, chained_old_test}
use Rattle.paper.specs.Adding.{Hub, Change, Verdict, plain, unknown, outcome, judged, added}
use Rattle.paper.specs.Session.{bench}
use Rattle.paper.specs.Queue.{Waiting, of_list, order}

-- ---- questions and answers

pub data Question : Type 0 where
  heads? : Hub → Question
  clock? : Hub → List (List ℕ) → Question
  op_clock? : Hub → List (List ℕ) → Question
  missing? : Hub → List (List ℕ) → Question
  owner? : Hub → ℕ → ℕ → Question
  add? : Hub → Change → Question
  chained? : Hub → Question
  -- is the hash in the history of the list?
  inside? : Hub → List ℕ → List (List ℕ) → Question
  order? : List Waiting → Question

pub data Answer : Type 0 where
  hashes : List (List ℕ) → Answer
  entries : List ℕ → Answer
  refused : ℕ → Answer
  names_hash : ℕ → List ℕ → Answer
  yes_no : Bool → Answer

-- the hash of the owner, or 14
abbrev pub owned : Graph → ℕ → Answer
owned g k = cond (ltb k g.size) (hashes (g.hash k ∷ [])) (refused (number no_owner))

-- the number, and for 4 the dependency at its place
abbrev pub told : Change → Verdict → Answer
told x (plain o) = refused (number o)
told x (unknown i) = names_hash (number (outcome (unknown i))) (hash_at x.deps i)

abbrev pub answer : Question → Answer
answer (heads? u) = hashes (heads u.graph)
answer (clock? u hs) = entries (each_below (clock u.graph (nodes u.graph hs)) u.actors)
answer (op_clock? u hs) = entries (each_below (op_clock u.graph (nodes u.graph hs)) u.actors)
answer (missing? u hs) = hashes (map u.graph.hash (missing u.graph (nodes u.graph hs)))
answer (owner? u a c) = owned u.graph (owner u.graph a c)
answer (add? u x) = told x (judged u x)
answer (chained? u) = yes_no (chained_old_test u.graph)
answer (inside? u h hs) = yes_no (hist u.graph (nodes u.graph hs) (node u.graph h))
answer (order? ws) = hashes (map (λ i. ((of_list ws).at i).hash) (order (λ h. false) (of_list ws)))

-- ---- the graphs asked

-- the digit n 64 times, as bytes
abbrev pub H : ℕ → List ℕ
H n = replicate 32 (17 * n)

abbrev pub change : ℕ → ℕ → ℕ → ℕ → ℕ → List ℕ → Change
change h a s m c ds = record { hash = H h; actor = a; seq = s; max_op = m; ops = c; deps = ds }

unfoldable pub all_added : Hub → List Change → Hub
all_added u [] = u
all_added u (x ∷ xs) = all_added (added u x) xs

-- the worked example: H1, then H2 and H3 on it
abbrev pub worked : Hub
worked = all_added (bench 2) (change 1 0 1 3 3 [] ∷ change 2 1 1 5 2 (H 1) ∷ change 3 0 2 5 2 (H 1) ∷ [])

-- P9: H2 of the same actor does not depend on H1
abbrev pub loose : Hub
loose = all_added (bench 1) (change 1 0 1 1 1 [] ∷ change 2 0 2 2 1 [] ∷ [])

-- P10: max op 7, count 0
abbrev pub idle : Hub
idle = all_added (bench 1) (change 1 0 1 7 0 [] ∷ [])

-- P11: sequence 1 with max op 9, then 2 with max op 4
abbrev pub falling : Hub
falling = all_added (bench 1) (change 1 0 1 9 1 [] ∷ change 2 0 2 4 1 (H 1) ∷ [])

-- a waiting change of its own actor, by its letter and the letters that it needs
abbrev pub wait : ℕ → List ℕ → Waiting
wait n needs = record { hash = H n; key = n; seq = 1; max_op = 1; ops = 1; deps = map H needs }

pub record Sample : Type 0 where
  pub asked : Question
  pub told : Answer

abbrev pub sample : Question → Answer → Sample
sample q a = record { asked = q; told = a }

-- ---- the list

abbrev pub samples : List Sample
samples =
    -- P1: an empty graph has no heads and an empty clock
    sample (heads? (bench 2)) (hashes [])
    ∷ sample (clock? (bench 2) []) (entries (0 ∷ 0 ∷ []))
    ∷ sample (clock? (bench 2) (H 1 ∷ [])) (entries (0 ∷ 0 ∷ []))
    -- P2: an unknown head has an empty clock, and all is missing
    ∷ sample (clock? worked (H 9 ∷ [])) (entries (0 ∷ 0 ∷ []))
    ∷ sample (missing? worked (H 9 ∷ [])) (hashes (H 1 ∷ H 2 ∷ H 3 ∷ []))
    -- P3 to P8: clock, missing, owner, heads, 3 and 4 of the worked example
    ∷ sample (clock? worked (H 2 ∷ [])) (entries (1 ∷ 1 ∷ []))
    ∷ sample (missing? worked (H 2 ∷ [])) (hashes (H 3 ∷ []))
    ∷ sample (owner? worked 0 4) (hashes (H 3 ∷ []))
    ∷ sample (heads? worked) (hashes (H 2 ∷ H 3 ∷ []))
    ∷ sample (add? worked (change 2 1 9 9 9 (H 4))) (refused 3)
    ∷ sample (add? worked (change 5 0 3 6 1 (H 4))) (names_hash 4 (H 4))
    -- P9: nothing is missing, though H1 is outside the history; not chained
    ∷ sample (missing? loose (H 2 ∷ [])) (hashes [])
    ∷ sample (inside? loose (H 1) (H 2 ∷ [])) (yes_no false)
    ∷ sample (chained? loose) (yes_no false)
    -- P10: count 0 owns nothing
    ∷ sample (owner? idle 0 7) (refused 14)
    ∷ sample (owner? idle 0 8) (refused 14)
    -- P11: the op clock is that of the largest sequence
    ∷ sample (op_clock? falling (H 2 ∷ [])) (entries (4 ∷ []))
    -- P12: c(needs b), a, b(needs a), d gives a, d, b, c
    ∷ sample (order? (wait 3 (2 ∷ []) ∷ wait 1 [] ∷ wait 2 (1 ∷ []) ∷ wait 4 [] ∷ [])) (hashes (H 1 ∷ H 4 ∷ H 2 ∷ H 3 ∷ []))
    ∷ []
