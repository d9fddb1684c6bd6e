-- What the questions answer, in the paper's words, and what giving all records out leaves.
use Rattle.std.specs.Prelude.{◌≡◌, ℕ, List, Bool, cond, eqb, length, Result, Ok, Err}
use Rattle.paper.specs.Queue.{Queue, has_hash}
use Rattle.records.specs.Records.{Filled}
use Rattle.waiting.specs.Valid.{is_roomy}
use Rattle.waiting.specs.declared.QueueRefusal.{QueueRefusal}
use Rattle.waiting.specs.declared.QueueRefusal.TheVariants.{Malformed, ShortBuffer}

-- yes or no
abbrev pub yes_or_no : Bool → Result Bool QueueRefusal
yes_or_no b = Ok b

-- has a waiting change this hash: malformed where it is no hash
unfoldable pub asked_hash : Queue → List ℕ → Result Bool QueueRefusal
asked_hash q h = cond (eqb (length h) 32) (yes_or_no (has_hash q h)) (Err Malformed)

-- n records, all or none
unfoldable pub listed_as : ℕ → List ℕ → List ℕ → List ℕ → Result ℕ QueueRefusal
listed_as n th tn td = cond (is_roomy (length th) (length tn) (length td) n) (Ok n) (Err ShortBuffer)

-- the first n records stand in the answer tables, in their order, or nothing changed
unfoldable pub ListedTo : Result ℕ QueueRefusal → List ℕ → List ℕ → List ℕ → List ℕ → List ℕ → List ℕ → List ℕ → List ℕ → List ℕ → Type 0
ListedTo (Ok n) hs ns ds th tn td th' tn' td' = Filled hs ns ds (λ i. i) 0 n th tn td th' tn' td'
ListedTo (Err e) hs ns ds th tn td th' tn' td' = (th' ≡ th) × (tn' ≡ tn) × (td' ≡ td)
