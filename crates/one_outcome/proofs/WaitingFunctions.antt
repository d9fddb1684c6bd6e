-- The C functions over a batch or a queue: two outcomes that meet a function's promise for the same input are one. Compared are the number, every table that is lent by `&mut`,
-- and every told place; what is lent by `&` cannot change. Each theorem is named after its function and takes the promise as its `ensures` has it.
-- Assumes nothing.
use Rattle.std.specs.Prelude.{◌≡◌, List, ℕ, Bool, Result}
use Rattle.tables.specs.Tables.{changes}
use Rattle.edges.specs.Edges.{lent}
use Rattle.edges.specs.declared.Edge.{Edge}
use Rattle.waiting.specs.Valid.{store}
use Rattle.waiting.specs.declared.QueueRefusal.{QueueRefusal}
use Rattle.hub_batch.specs.Operations.{QueueOpened, BatchPushed}
use Rattle.hub_queue.specs.Operations.{HandedOver, BranchRemoved, QueueAsked, QueueIsEmpty, QueueHasHash, QueueHasActorSeq, QueueGiven}
use Rattle.hub_release.specs.Operations.{stock, FreedBy}
use Rattle.one_outcome.specs.Shapes.{Firm, firm_list, firm_both, settled, numbered_once}
use Rattle.one_outcome.specs.WaitingShapes.{OneStore, firm_store, OneGiven, firm_given, opened_left, pushed_left, handed_left, removed_left, listed_left, released_left}

-- the queue or the batch that is lent
module _ (hashes numbers deps count : List ℕ) where
  pub cg_queue_open_once : (r' : ℕ) (count' : List ℕ) (r'' : ℕ) (count'' : List ℕ) → QueueOpened (store hashes numbers deps count) r' count' → QueueOpened (store hashes numbers deps count) r'' count''
      → (r' ≡ r'') × (count' ≡ count'')
  cg_queue_open_once r' count' r'' count'' p q = let e = numbered_once p q in (e.0, e.1 (count' ≡ count'') (firm_list count' count'') (opened_left count))

  -- ---- questions

  module _ (told : List ℕ) (r' : ℕ) (told' : List ℕ) (r'' : ℕ) (told'' : List ℕ) where
    queue_asked_once : {answer : Result Bool QueueRefusal} → QueueAsked (store hashes numbers deps count) answer told r' told' → QueueAsked (store hashes numbers deps count) answer told r'' told'' → (r' ≡ r'') × (told' ≡ told'')
    queue_asked_once p q = let e = numbered_once p q in (e.0, e.1 (told' ≡ told'') (firm_list told' told'') (λ a l m. settled l m))

    pub cg_queue_is_empty_once : QueueIsEmpty (store hashes numbers deps count) told r' told' → QueueIsEmpty (store hashes numbers deps count) told r'' told'' → (r' ≡ r'') × (told' ≡ told'')
    cg_queue_is_empty_once p q = queue_asked_once p q

    pub cg_queue_has_hash_once : (hash : List ℕ) → QueueHasHash (store hashes numbers deps count) hash told r' told' → QueueHasHash (store hashes numbers deps count) hash told r'' told'' → (r' ≡ r'') × (told' ≡ told'')
    cg_queue_has_hash_once hash p q = queue_asked_once p q

    pub cg_queue_has_actor_seq_once : (key seq : ℕ) → QueueHasActorSeq (store hashes numbers deps count) key seq told r' told' → QueueHasActorSeq (store hashes numbers deps count) key seq told r'' told''
        → (r' ≡ r'') × (told' ≡ told'')
    cg_queue_has_actor_seq_once key seq p q = queue_asked_once p q

  pub cg_queue_iter_once : (thashes tnumbers tdeps told : List ℕ) (r' : ℕ) (thashes' tnumbers' tdeps' told' : List ℕ) (r'' : ℕ) (thashes'' tnumbers'' tdeps'' told'' : List ℕ)
      → QueueGiven (store hashes numbers deps count) thashes tnumbers tdeps told r' thashes' tnumbers' tdeps' told'
      → QueueGiven (store hashes numbers deps count) thashes tnumbers tdeps told r'' thashes'' tnumbers'' tdeps'' told''
      → (r' ≡ r'') × (thashes' ≡ thashes'') × (tnumbers' ≡ tnumbers'') × (tdeps' ≡ tdeps'') × (told' ≡ told'')
  cg_queue_iter_once thashes tnumbers tdeps told r' thashes' tnumbers' tdeps' told' r'' thashes'' tnumbers'' tdeps'' told'' p q =
      let e = numbered_once p q in
      let s = e.1 (OneGiven thashes' tnumbers' tdeps' thashes'' tnumbers'' tdeps'' × (told' ≡ told'')) (firm_both (firm_given thashes' tnumbers' tdeps' thashes'' tnumbers'' tdeps'') (firm_list told' told''))
      (λ a l m. (listed_left hashes numbers deps thashes tnumbers tdeps a l.0 m.0, settled l.1 m.1)) in
      (e.0, s.0.0, s.0.1, s.0.2, s.1)

  -- ---- changes

  module _ (r' : ℕ) (hashes' numbers' deps' count' : List ℕ) (r'' : ℕ) (hashes'' numbers'' deps'' count'' : List ℕ) where
    abbrev OneQueue : Type 0
    OneQueue = OneStore hashes' numbers' deps' count' hashes'' numbers'' deps'' count''

    firm_queue : Firm OneQueue
    firm_queue = firm_store hashes' numbers' deps' count' hashes'' numbers'' deps'' count''

    pub cg_batch_push_once : (hash : List ℕ) (key seq top ops : ℕ) (needs : List ℕ)
        → BatchPushed (store hashes numbers deps count) hash key seq top ops needs r' (store hashes' numbers' deps' count')
        → BatchPushed (store hashes numbers deps count) hash key seq top ops needs r'' (store hashes'' numbers'' deps'' count'')
        → (r' ≡ r'') × (hashes' ≡ hashes'') × (numbers' ≡ numbers'') × (deps' ≡ deps'') × (count' ≡ count'')
    cg_batch_push_once hash key seq top ops needs p q =
        let e = numbered_once p q in
        let s = e.1 OneQueue firm_queue (pushed_left hashes numbers deps count hash key seq top ops needs) in
        (e.0, s.0, s.1, s.2, s.3)

    pub cg_hand_over_once : (bhashes bnumbers bdeps bcount bcount' bcount'' : List ℕ)
        → HandedOver (store hashes numbers deps count) (store bhashes bnumbers bdeps bcount) r' (store hashes' numbers' deps' count') bcount'
        → HandedOver (store hashes numbers deps count) (store bhashes bnumbers bdeps bcount) r'' (store hashes'' numbers'' deps'' count'') bcount''
        → (r' ≡ r'') × (hashes' ≡ hashes'') × (numbers' ≡ numbers'') × (deps' ≡ deps'') × (count' ≡ count'') × (bcount' ≡ bcount'')
    cg_hand_over_once bhashes bnumbers bdeps bcount bcount' bcount'' p q =
        let e = numbered_once p q in
        let s = e.1 (OneQueue × (bcount' ≡ bcount'')) (firm_both firm_queue (firm_list bcount' bcount'')) (handed_left hashes numbers deps count bhashes bnumbers bdeps bcount) in
        (e.0, s.0.0, s.0.1, s.0.2, s.0.3, s.1)

    pub cg_remove_actor_branch_from_once : (key from : ℕ)
        → BranchRemoved (store hashes numbers deps count) key from r' (store hashes' numbers' deps' count')
        → BranchRemoved (store hashes numbers deps count) key from r'' (store hashes'' numbers'' deps'' count'')
        → (r' ≡ r'') × (hashes' ≡ hashes'') × (numbers' ≡ numbers'') × (deps' ≡ deps'') × (count' ≡ count'')
    cg_remove_actor_branch_from_once key from p q =
        let e = numbered_once p q in
        let s = e.1 OneQueue firm_queue (removed_left hashes numbers deps count key from) in
        (e.0, s.0, s.1, s.2, s.3)

-- ---- releasing against a graph

pub cg_release_once : (hashes nodes : List ℕ) (edges : List Edge) (clocks counts qhashes qnumbers qdeps qcount thashes tnumbers tdeps told : List ℕ)
    (r' : ℕ) (qhashes' qnumbers' qdeps' qcount' thashes' tnumbers' tdeps' told' : List ℕ) (r'' : ℕ) (qhashes'' qnumbers'' qdeps'' qcount'' thashes'' tnumbers'' tdeps'' told'' : List ℕ)
    → FreedBy (stock qhashes qnumbers qdeps qcount thashes tnumbers tdeps told) r' (stock qhashes' qnumbers' qdeps' qcount' thashes' tnumbers' tdeps' told') (lent hashes nodes edges clocks counts)
    → FreedBy (stock qhashes qnumbers qdeps qcount thashes tnumbers tdeps told) r'' (stock qhashes'' qnumbers'' qdeps'' qcount'' thashes'' tnumbers'' tdeps'' told'') (lent hashes nodes edges clocks counts)
    → (r' ≡ r'') × (qhashes' ≡ qhashes'') × (qnumbers' ≡ qnumbers'') × (qdeps' ≡ qdeps'') × (qcount' ≡ qcount'') × (thashes' ≡ thashes'') × (tnumbers' ≡ tnumbers'') × (tdeps' ≡ tdeps'') × (told' ≡ told'')
cg_release_once hashes nodes edges clocks counts qhashes qnumbers qdeps qcount thashes tnumbers tdeps told r' qhashes' qnumbers' qdeps' qcount' thashes' tnumbers' tdeps' told' r'' qhashes'' qnumbers'' qdeps'' qcount'' thashes'' tnumbers'' tdeps'' told'' p q =
    let e = numbered_once p q in
    let s = e.1 ((OneStore qhashes' qnumbers' qdeps' qcount' qhashes'' qnumbers'' qdeps'' qcount'' × OneGiven thashes' tnumbers' tdeps' thashes'' tnumbers'' tdeps'') × (told' ≡ told''))
    (firm_both (firm_both (firm_store qhashes' qnumbers' qdeps' qcount' qhashes'' qnumbers'' qdeps'' qcount'') (firm_given thashes' tnumbers' tdeps' thashes'' tnumbers'' tdeps'')) (firm_list told' told''))
    (λ a l m. (released_left hashes (changes (lent hashes nodes edges clocks counts)) qhashes qnumbers qdeps qcount thashes tnumbers tdeps a l.0 m.0, settled l.1 m.1)) in
    (e.0, s.0.0.0, s.0.0.1, s.0.0.2, s.0.0.3, s.0.1.0, s.0.1.1, s.0.1.2, s.1)
