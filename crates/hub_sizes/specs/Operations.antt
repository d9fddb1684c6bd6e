-- What each public question for how many there are, and for the actors comes to.
-- Assumes nothing.
use Rattle.std.specs.Prelude.{◌≡◌, refl, List, ℕ, zero, suc, length}
use Rattle.tables.specs.Tables.{Tables, graph, actors}
use Rattle.answer_buffer.specs.Answers.{list_answer, filled}
use Rattle.lookups.specs.Lookups.{actor_list}
use Rattle.lookups.specs.declared.Which.{Which}
use Rattle.lookups.specs.declared.Which.TheVariants.{Used, Unused, All}
use Rattle.hub_answer.specs.Asks.{gives, of_listed, Asks, Tells}

-- the actors with changes, without, or all, by a number
unfoldable pub which_of : ℕ → Which
which_of zero = Used
which_of (suc zero) = Unused
which_of (suc (suc n)) = All

pub which_used : (n : ℕ) → n ≡ 0 → Used ≡ which_of n
unfolding which_of
which_used n e = rw e refl

pub which_unused : (n : ℕ) → n ≡ 1 → Unused ≡ which_of n
unfolding which_of
which_unused n e = rw e refl

pub which_all : (n : ℕ) → (n ≡ 0 → ⊥) → (n ≡ 1 → ⊥) → All ≡ which_of n
unfolding which_of
which_all zero a b = absurd (a refl)
which_all (suc zero) a b = absurd (b refl)
which_all (suc (suc n)) a b = refl

-- asking the tables t for the number of changes answers r and leaves told'
abbrev pub Len : List ℕ → ℕ → List ℕ → Tables → Type 0
Len told r told' t = Tells gives (λ t. (graph t).size) told r told' t

-- asking for the number of actors
abbrev pub NumActors : List ℕ → ℕ → List ℕ → Tables → Type 0
NumActors told r told' t = Tells gives (λ t. actors t) told r told' t

-- asking for the actors, which are listed by the number, answers r and leaves out' and told'
abbrev pub ActorIds : ℕ → List ℕ → List ℕ → ℕ → List ℕ → List ℕ → Tables → Type 0
ActorIds which out told r out' told' t = Asks of_listed (λ t. list_answer (actor_list t (which_of which)) (length out)) (λ t. filled (actor_list t (which_of which)) out) out told r out' told' t
