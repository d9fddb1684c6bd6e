-- What each answer of a batch, a queue or a release leaves is settled by the answer and what was lent.
-- Assumes nothing.
use Rattle.std.specs.Prelude.{◌≡◌, List, ℕ, ⊤, Result, Ok, Err}
use Rattle.records.specs.Records.{Filled}
use Rattle.waiting.specs.Valid.{Same, OpenedTo}
use Rattle.waiting.specs.Taken.{TakenOut}
use Rattle.waiting.specs.declared.QueueRefusal.{QueueRefusal}
use Rattle.batch.specs.Push.{PushedTo}
use Rattle.queue.specs.Hand.{NotHanded, HandedTo}
use Rattle.queue.specs.Asked.{ListedTo}
use Rattle.branch.specs.Branch.{RemovedTo}
use Rattle.release.specs.Release.{Unchanged, ReleasedTo}
use Rattle.one_outcome.specs.Shapes.{Firm, firm_list, settled}

-- ---- what answers have in common

-- the four tables of a store are one
abbrev pub OneStore : List ℕ → List ℕ → List ℕ → List ℕ → List ℕ → List ℕ → List ℕ → List ℕ → Type 0
OneStore hs ns ds cs hs' ns' ds' cs' = (hs ≡ hs') × (ns ≡ ns') × (ds ≡ ds') × (cs ≡ cs')

pub firm_store : (hs ns ds cs hs' ns' ds' cs' : List ℕ) → Firm (OneStore hs ns ds cs hs' ns' ds' cs')
firm_store hs ns ds cs hs' ns' ds' cs' n = (
  firm_list hs hs' (λ d. n (λ e. d e.0)),
  firm_list ns ns' (λ d. n (λ e. d e.1)),
  firm_list ds ds' (λ d. n (λ e. d e.2)),
  firm_list cs cs' (λ d. n (λ e. d e.3)),
)

-- the three tables that records are given out into are one
abbrev pub OneGiven : List ℕ → List ℕ → List ℕ → List ℕ → List ℕ → List ℕ → Type 0
OneGiven th tn td th' tn' td' = (th ≡ th') × (tn ≡ tn') × (td ≡ td')

pub firm_given : (th tn td th' tn' td' : List ℕ) → Firm (OneGiven th tn td th' tn' td')
firm_given th tn td th' tn' td' n = (
  firm_list th th' (λ d. n (λ e. d e.0)),
  firm_list tn tn' (λ d. n (λ e. d e.1)),
  firm_list td td' (λ d. n (λ e. d e.2)),
)

-- records were filled in
filled_once : {hs ns ds : List ℕ} {f : ℕ → ℕ} {at m : ℕ} {th tn td th' tn' td' th'' tn'' td'' : List ℕ} → Filled hs ns ds f at m th tn td th' tn' td' → Filled hs ns ds f at m th tn td th'' tn'' td''
    → OneGiven th' tn' td' th'' tn'' td''
filled_once p q = (settled p.hashes q.hashes, settled p.numbers q.numbers, settled p.deps q.deps)

-- nothing changed
same_once : {hs ns ds cs hs' ns' ds' cs' hs'' ns'' ds'' cs'' : List ℕ} → Same hs ns ds cs hs' ns' ds' cs' → Same hs ns ds cs hs'' ns'' ds'' cs'' → OneStore hs' ns' ds' cs' hs'' ns'' ds'' cs''
same_once p q = (settled p.hashes q.hashes, settled p.numbers q.numbers, settled p.deps q.deps, settled p.count q.count)

-- records were taken out
taken_once : {hs ns ds cs keep hs' ns' ds' cs' hs'' ns'' ds'' cs'' : List ℕ} → TakenOut hs ns ds cs keep hs' ns' ds' cs' → TakenOut hs ns ds cs keep hs'' ns'' ds'' cs'' → OneStore hs' ns' ds' cs' hs'' ns'' ds'' cs''
taken_once p q = let e = filled_once p.moved q.moved in (e.0, e.1, e.2, settled p.count q.count)

-- ---- each answer

pub opened_left : (cs : List ℕ) {cs' cs'' : List ℕ} (a : Result ⊤ QueueRefusal) → OpenedTo a cs cs' → OpenedTo a cs cs'' → cs' ≡ cs''
unfolding OpenedTo
opened_left cs (Ok x) p q = settled p q
opened_left cs (Err e) p q = settled p q

pub pushed_left : (hs ns ds cs h : List ℕ) (key seq top ops : ℕ) (needs : List ℕ) {hs' ns' ds' cs' hs'' ns'' ds'' cs'' : List ℕ} (a : Result ⊤ QueueRefusal) → PushedTo a hs ns ds cs h key seq top ops needs hs' ns' ds' cs'
    → PushedTo a hs ns ds cs h key seq top ops needs hs'' ns'' ds'' cs'' → OneStore hs' ns' ds' cs' hs'' ns'' ds'' cs''
unfolding PushedTo
pushed_left hs ns ds cs h key seq top ops needs (Ok x) p q = (settled p.hashes q.hashes, settled p.numbers q.numbers, settled p.deps q.deps, settled p.count q.count)
pushed_left hs ns ds cs h key seq top ops needs (Err e) p q = same_once p q

not_handed_once : {hs ns ds cs bcs hs' ns' ds' cs' bcs' hs'' ns'' ds'' cs'' bcs'' : List ℕ} → NotHanded hs ns ds cs bcs hs' ns' ds' cs' bcs' → NotHanded hs ns ds cs bcs hs'' ns'' ds'' cs'' bcs''
    → OneStore hs' ns' ds' cs' hs'' ns'' ds'' cs'' × (bcs' ≡ bcs'')
not_handed_once p q = (same_once p.queue q.queue, settled p.batch q.batch)

pub handed_left : (hs ns ds cs bhs bns bds bcs : List ℕ) {hs' ns' ds' cs' bcs' hs'' ns'' ds'' cs'' bcs'' : List ℕ} (a : Result ⊤ QueueRefusal) → HandedTo a hs ns ds cs bhs bns bds bcs hs' ns' ds' cs' bcs'
    → HandedTo a hs ns ds cs bhs bns bds bcs hs'' ns'' ds'' cs'' bcs'' → OneStore hs' ns' ds' cs' hs'' ns'' ds'' cs'' × (bcs' ≡ bcs'')
unfolding HandedTo
handed_left hs ns ds cs bhs bns bds bcs (Ok x) p q = let e = filled_once p.tables q.tables in ((e.0, e.1, e.2, settled p.count q.count), settled p.emptied q.emptied)
handed_left hs ns ds cs bhs bns bds bcs (Err e) p q = not_handed_once p q

pub removed_left : (hs ns ds cs : List ℕ) (key from : ℕ) {hs' ns' ds' cs' hs'' ns'' ds'' cs'' : List ℕ} (a : Result ⊤ QueueRefusal) → RemovedTo a hs ns ds cs key from hs' ns' ds' cs'
    → RemovedTo a hs ns ds cs key from hs'' ns'' ds'' cs'' → OneStore hs' ns' ds' cs' hs'' ns'' ds'' cs''
unfolding RemovedTo
removed_left hs ns ds cs key from (Ok x) p q = taken_once p q
removed_left hs ns ds cs key from (Err e) p q = same_once p q

pub listed_left : (hs ns ds th tn td : List ℕ) {th' tn' td' th'' tn'' td'' : List ℕ} (a : Result ℕ QueueRefusal) → ListedTo a hs ns ds th tn td th' tn' td' → ListedTo a hs ns ds th tn td th'' tn'' td'' → OneGiven th' tn' td' th'' tn'' td''
unfolding ListedTo
listed_left hs ns ds th tn td (Ok n) p q = filled_once p q
listed_left hs ns ds th tn td (Err e) p q = (settled p.0 q.0, settled p.1 q.1, settled p.2 q.2)

unchanged_once : {hs ns ds cs th tn td hs' ns' ds' cs' th' tn' td' hs'' ns'' ds'' cs'' th'' tn'' td'' : List ℕ} → Unchanged hs ns ds cs th tn td hs' ns' ds' cs' th' tn' td'
    → Unchanged hs ns ds cs th tn td hs'' ns'' ds'' cs'' th'' tn'' td'' → OneStore hs' ns' ds' cs' hs'' ns'' ds'' cs'' × OneGiven th' tn' td' th'' tn'' td''
unchanged_once p q = (same_once p.queue q.queue, (settled p.hashes q.hashes, settled p.numbers q.numbers, settled p.deps q.deps))

pub released_left : (gs : List ℕ) (k : ℕ) (hs ns ds cs th tn td : List ℕ) {hs' ns' ds' cs' th' tn' td' hs'' ns'' ds'' cs'' th'' tn'' td'' : List ℕ} (a : Result ℕ QueueRefusal) → ReleasedTo a gs k hs ns ds cs th tn td hs' ns' ds' cs' th' tn' td'
    → ReleasedTo a gs k hs ns ds cs th tn td hs'' ns'' ds'' cs'' th'' tn'' td'' → OneStore hs' ns' ds' cs' hs'' ns'' ds'' cs'' × OneGiven th' tn' td' th'' tn'' td''
unfolding ReleasedTo
released_left gs k hs ns ds cs th tn td (Ok n) p q = (taken_once p.queue q.queue, filled_once p.answer q.answer)
released_left gs k hs ns ds cs th tn td (Err e) p q = unchanged_once p q
