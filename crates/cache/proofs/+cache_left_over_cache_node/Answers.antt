-- `cache::cache_node` and `cache::cache_left_over` meet their contracts, by the laws of `Caching`.
use Rattle.std.proofs.Common.{arith}
use Rattle.cache.specs.CacheLaws.{halfway, node_done, own_in, already_done}
use Rattle.cache.specs.LeftLaws.{caching_start, caching_skip, caching_end, next_cachable, caching_on}
use Rattle.cache.proofs.+cache_left_over_cache_node.Goals.{cache_left_over-then-marks-i-ne0, cache_left_over-else-marks-i-ne0}
use Rattle.cache.proofs.+cache_left_over_cache_node.Goals as goal

pub cache_left_over-loop-i-init : goal.cache_left_over-loop-i-init
cache_left_over-loop-i-init t c = caching_start _ _ _ _ c.requires

pub cache_left_over-cache_node-requires : goal.cache_left_over-cache_node-requires
cache_left_over-cache_node-requires t c =
    let e = c.decreases in
    let h = c.loop-i-test.true in
    (omega arith, next_cachable _ _ _ _ c.requires _ _ _ c.loop-i.invariant h (omega (arith, c.if-marks-i-ne0.true)))

pub cache_left_over-loop-i-preserved : goal.cache_left_over-loop-i-preserved
cache_left_over-loop-i-preserved t c =
    let v = c.loop-i.invariant in
    let l = c.loop-i-test.true in
    elim c.if-marks-i-ne0.branch [
      | cache_left_over-then-marks-i-ne0 w ↦
          rw (w.clocks-is, w.marks-is) (caching_on _ _ _ _ c.requires _ _ _ v l (omega (arith, w.if-marks-i-ne0.true)) _ _ w.cache_node.ensures.clocks w.merge_rows.ensures _ w.cache_node.ensures.marks_back)
      | cache_left_over-else-marks-i-ne0 w ↦ rw (w.clocks-is, w.marks-is) (caching_skip _ _ _ _ c.requires _ _ _ v l w.if-marks-i-ne0.false)
    ]

pub cache_left_over-returns : goal.cache_left_over-returns
cache_left_over-returns t c = caching_end _ _ _ _ c.requires _ _ _ c.loop-i.invariant c.loop-i-test.false

pub cache_node-is_cached-requires : goal.cache_node-is_cached-requires
cache_node-is_cached-requires t c = own_in _ _ _ _ c.requires

pub cache_node-returns-then-is_cached : goal.cache_node-returns-then-is_cached
cache_node-returns-then-is_cached t c = already_done _ _ _ _ c.requires _ c.is_cached.ensures c.if-is_cached.true

pub cache_node-cache_left_over-requires : goal.cache_node-cache_left_over-requires
cache_node-cache_left_over-requires t c =
    let e = c.decreases in
    (omega arith, halfway _ _ _ _ c.requires _ _ c.begin_cache.ensures)

pub cache_node-returns : goal.cache_node-returns
cache_node-returns t c = node_done _ _ _ _ c.requires _ _ c.begin_cache.ensures _ _ c.cache_left_over.ensures
