use Rattle.std.proofs.Common.{arith, refl, ℕ, Bool}
use Rattle.list_laws.specs.Flags.{flag_of, flag_small}
use Rattle.paper.specs.Lists.{tally}
use Rattle.tables.specs.Tables.{actor_at}
use Rattle.tables.specs.CheckLaws.{tally_step, tally_bound}
use lib.Dec.{eqb}
use Rattle.judge.proofs.count_of.Goals as goal

pub loop-k-init : goal.loop-k-init
unfolding tally
loop-k-init c = refl

pub overflow_add-count : goal.overflow_add-count
overflow_add-count c =
    let mine : ℕ → Bool = λ j. eqb (actor_at c.args.nodes.now j) c.args.actor in
    omega (arith, c.loop-k.invariant, tally_bound mine c.loop-k.k, c.from-count.ensures, flag_small (mine c.loop-k.k))

pub loop-k-preserved : goal.loop-k-preserved
loop-k-preserved c =
    let mine : ℕ → Bool = λ j. eqb (actor_at c.args.nodes.now j) c.args.actor in
    omega (arith, c.loop-k.invariant, tally_step mine c.loop-k.k, c.from-count.ensures, flag_of (mine c.loop-k.k))
