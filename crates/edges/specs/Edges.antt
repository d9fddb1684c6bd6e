-- The edge table as records of target and next, and what it is as two plain tables.
-- Assumes nothing.
use Rattle.std.specs.Prelude.{Bool, cond, ◌&&◌, not, List, [], ◌∷◌, ◌++◌, map, ℕ, min, eqb, leb, ltb, length, take, drop, replicate}
use Rattle.tables.specs.Tables.{Tables, tables, along}
use Rattle.edges.specs.declared.Edge.{Edge}

abbrev pub edge : ℕ → ℕ → Edge
edge t x = record { target = t; next = x }

-- what is read past the end of the records
abbrev pub no_edge : Edge
no_edge = edge 0 0

-- ---- the two plain tables that the records are, and back

abbrev pub targets_of : List Edge → List ℕ
targets_of es = map (λ (e : Edge). e.target) es

abbrev pub nexts_of : List Edge → List ℕ
nexts_of es = map (λ (e : Edge). e.next) es

unfoldable pub edges_of : List ℕ → List ℕ → List Edge
edges_of [] xs = []
edges_of (t ∷ ts) [] = []
edges_of (t ∷ ts) (x ∷ xs) = edge t x ∷ edges_of ts xs

-- the lent tables of a graph, where the edges are records
abbrev pub lent : List ℕ → List ℕ → List Edge → List ℕ → List ℕ → Tables
lent hs ns es cs us = tables hs ns (targets_of es) (nexts_of es) cs us

-- ---- copying

-- as many edges as all three tables have room for
abbrev pub common : List Edge → List ℕ → List ℕ → ℕ
common es ts xs = min (length es) (min (length ts) (length xs))

-- the first m of ss, and then what stood in ts
abbrev pub onto : {A : Type 0} → ℕ → List A → List A → List A
onto m ss ts = take m ss ++ drop m ts

-- what unpacking leaves in the two tables
abbrev pub taken_targets : List Edge → List ℕ → List ℕ → List ℕ
taken_targets es ts xs = onto (common es ts xs) (targets_of es) ts

abbrev pub taken_nexts : List Edge → List ℕ → List ℕ → List ℕ
taken_nexts es ts xs = onto (common es ts xs) (nexts_of es) xs

-- what packing leaves in the records
abbrev pub packed : List ℕ → List ℕ → List Edge → List Edge
packed ts xs es = onto (common es ts xs) (edges_of ts xs) es

-- the two local tables of an operation: room for as many edges as a graph may have, and zeros at first
abbrev pub local_room : ℕ
local_room = 16384

abbrev pub blank : List ℕ
blank = replicate local_room 0

-- ---- the walk along next

-- an edge's number + 1, where the table of n edges has it, and else 0
abbrev pub inside : ℕ → ℕ → ℕ
inside n e = cond (leb e n) e 0

-- the targets along next from the edge `first` - 1, up to an edge that is not in the table
abbrev pub parents : List Edge → ℕ → List ℕ
parents es first = along (targets_of es) (map (inside (length es)) (nexts_of es)) (inside (length es) first)

-- as many of them as the table out has room for
abbrev pub parents_in : List Edge → ℕ → List ℕ → List ℕ
parents_in es first out = take (length out) (parents es first)

-- a walk that has met n edges goes on at `at`
abbrev pub goes_on : ℕ → ℕ → ℕ → ℕ → Bool
goes_on at n edges out = not (eqb at 0) && (leb at edges && (ltb n edges && ltb n out))
