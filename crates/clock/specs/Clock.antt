-- What the operations on clocks do. A clock is a list of numbers, one for each actor, 0 for nothing.
-- Assumes nothing.
use Rattle.std.specs.Prelude.{Option, None, Some, ℕ, suc, max, List, [], ◌∷◌, ◌++◌, Bool, true, false, cond, ◌||◌, get_or, set, take, drop, eqb, ltb, leb}

-- the clock as the paper has it, a function of the actor; past the end stands nothing
abbrev pub entry_of : List ℕ → ℕ → ℕ
entry_of c a = get_or c a 0

-- the answer of include over the old entry: yes over nothing, also for the sequence 0, and over a smaller sequence
abbrev pub takes : ℕ → Option ℕ → Bool
takes old (Some x) = eqb old 0 || ltb old x
takes old None = false

-- the clock after include: the actor's entry where include answers yes, all else as it was
abbrev pub included : List ℕ → ℕ → Option ℕ → List ℕ
included c a (Some x) = cond (takes (get_or c a 0) (Some x)) (set c a x) c
included c a None = c

-- the clock a after merge with b: the larger entry at each place that both have
unfoldable pub joined : List ℕ → List ℕ → List ℕ
joined [] ys = []
joined (x ∷ xs) [] = x ∷ xs
joined (x ∷ xs) (y ∷ ys) = max x y ∷ joined xs ys

-- no entry of the second clock is larger, at each place that both have
unfoldable pub covers_all : List ℕ → List ℕ → Bool
covers_all [] ys = true
covers_all (x ∷ xs) [] = true
covers_all (x ∷ xs) (y ∷ ys) = cond (leb y x) (covers_all xs ys) false

-- the actor's entry becomes the largest number
abbrev pub isolated : List ℕ → ℕ → List ℕ
isolated c a = set c a 4294967295

-- the op clock covers the op of the actor a with this counter
abbrev pub op_covers : List ℕ → ℕ → ℕ → Bool
op_covers c a counter = leb counter (get_or c a 0)

-- a list with v put in at place p, and with its place p taken out
unfoldable pub insert_at : ℕ → ℕ → List ℕ → List ℕ
insert_at p v xs = take p xs ++ v ∷ drop p xs

unfoldable pub remove_at : ℕ → List ℕ → List ℕ
remove_at p xs = take p xs ++ drop (suc p) xs

-- the table after a new actor enters at place p of the first n entries: nothing stands at p, and one entry more is in use
unfoldable pub inserted : List ℕ → ℕ → ℕ → List ℕ
inserted c n p = insert_at p 0 (take n c) ++ drop (suc n) c

-- the table after the actor at place p of the first n entries goes: one entry less is in use, and nothing stands at the place that fell free
unfoldable pub removed : List ℕ → ℕ → ℕ → List ℕ
removed c n p = (remove_at p (take n c) ++ 0 ∷ []) ++ drop n c

-- the place of actor a once a new actor stands at place p
abbrev pub raised : ℕ → ℕ → ℕ
raised p a = cond (ltb a p) a (suc a)
