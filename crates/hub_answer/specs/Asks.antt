-- What a public question promises: of the lent tables, its answer buffer, and the place for how much the answer takes.
-- Assumes nothing.
use Rattle.std.specs.Prelude.{◌≡◌, Bool, cond, Ok, Err, List, [], ℕ}
use Rattle.paper.specs.Numbers.{Outcome, number, done, not_valid, malformed, not_found, no_owner, short_buffer}
use Rattle.tables.specs.Tables.{Tables}
use Rattle.tables.specs.Valid.{Valid}
use Rattle.lent_place.specs.Places.{told_in}
use Rattle.edges.specs.Told.{Answered}
use Rattle.answer_buffer.specs.Answers.{Place, YesNo, Listed}
use Rattle.answer_buffer.specs.declared.Refusal.{Refusal}
use Rattle.answer_buffer.specs.declared.Refusal.TheVariants.{Malformed, NotFound, NoOwner, Short}

-- what a question comes to
pub data Reply : Type 0 where
  -- done; told is how many elements of the buffer the answer takes, 1 or 0 for yes or no, or the number that was asked for
  gives : ℕ → Reply
  -- a refusal
  refuses : Outcome → Reply

-- the paper's number
abbrev pub reply_number : Reply → ℕ
reply_number (gives n) = number done
reply_number (refuses o) = number o

-- the places afterwards: a refusal tells nothing
abbrev pub told_by : Reply → List ℕ → List ℕ
told_by (gives n) told = told_in n told
told_by (refuses o) told = told

-- the paper's name of a refusal
abbrev pub outcome_of : Refusal → Outcome
outcome_of Malformed = malformed
outcome_of NotFound = not_found
outcome_of NoOwner = no_owner
outcome_of Short = short_buffer

-- the answers of the questions as replies
abbrev pub of_listed : Listed → Reply
of_listed (Ok n) = gives n
of_listed (Err r) = refuses (outcome_of r)

abbrev pub of_place : Place → Reply
of_place p = of_listed p

abbrev pub of_yes_no : YesNo → Reply
of_yes_no (Ok b) = gives (cond b 1 0)
of_yes_no (Err r) = refuses (outcome_of r)

abbrev pub of_bool : Bool → Reply
of_bool b = gives (cond b 1 0)

-- the number r, the buffer out' and the places told' are those of the answer, read as a reply, and of the buffer's definition
pub record Says {L : Type 0} (of : L → Reply) (answer : Tables → L) (buffer : Tables → List ℕ) (told : List ℕ) (r : ℕ) (out' told' : List ℕ) (t : Tables) : Type 0 where
  pub number : r ≡ reply_number (of (answer t))
  pub filled : out' ≡ buffer t
  pub places : told' ≡ told_by (of (answer t)) told

-- the number 1, and nothing is changed
abbrev pub Untouched : List ℕ → List ℕ → ℕ → List ℕ → List ℕ → Type 0
Untouched out told r out' told' = (r ≡ number not_valid) × (out' ≡ out) × (told' ≡ told)

-- a question with an answer buffer: where the tables are valid what is said, and else 1 and nothing changes
abbrev pub Asks : {L : Type 0} → (L → Reply) → (Tables → L) → (Tables → List ℕ) → List ℕ → List ℕ → ℕ → List ℕ → List ℕ → Tables → Type 0
Asks of answer buffer out told r out' told' t = Answered Valid (Says of answer buffer told r out' told') (Untouched out told r out' told') t

-- a question whose whole answer is what is told
abbrev pub Tells : {L : Type 0} → (L → Reply) → (Tables → L) → List ℕ → ℕ → List ℕ → Tables → Type 0
Tells of answer told r told' t = Asks of answer (λ _. []) [] told r [] told' t
