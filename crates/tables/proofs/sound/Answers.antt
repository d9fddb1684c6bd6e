-- Seven checks, one for each part of `Sound`; the answer is yes exactly if all hold. In laid tables the targets are below the count of changes, and the
-- flags by targets are the heads as defined.
use Rattle.std.proofs.Common.{arith}
use Rattle.list_laws.specs.Iff.{no, failed, same_answer}
use Rattle.tables.specs.Lent.{lists}
use Rattle.tables.specs.Valid.{Numbers}
use Rattle.tables.specs.DepsLaws.{targets_low, heads_of_flags, flags_of_heads}
use Rattle.tables.proofs.sound.Goals as goal

pub sequences_run-requires-clause-by_index : goal.sequences_run-requires-clause-by_index
unfolding Numbers
sequences_run-requires-clause-by_index c k l =
    let a = (c.numbers_right.ensures.0 c.if-not-numbers_right.false k l).actor_low in
    let b = (c.counts_fit.ensures.0 c.if-not-counts_fit.false).actors_fit in
    let w = (c.lengths_agree.ensures.0 c.if-not-lengths_agree.false).actors_limit in
    omega arith

pub heads_right-requires-clause-by_index : goal.heads_right-requires-clause-by_index
heads_right-requires-clause-by_index c = targets_low _ _ _ (c.laid.ensures.0 c.if-not-laid.false) (c.counts_fit.ensures.0 c.if-not-counts_fit.false).edges_fit

pub returns : goal.returns
returns c =
    let t = lists c.args.tables.now in
    let l = c.laid.ensures.0 c.if-not-laid.false in
    let counts = c.counts_fit.ensures.0 c.if-not-counts_fit.false in
    same_answer c.heads_right.ensures
    (λ h. record {
      lengths = c.lengths_agree.ensures.0 c.if-not-lengths_agree.false;
      counts = counts;
      distinct = c.distinct.ensures.0 c.if-not-distinct.false;
      numbers = c.numbers_right.ensures.0 c.if-not-numbers_right.false;
      laid = l;
      running = c.sequences_run.ensures.0 c.if-not-sequences_run.false;
      heads = heads_of_flags t l counts.edges_fit h;
    })
    (λ s. flags_of_heads t l counts.edges_fit s.heads)
