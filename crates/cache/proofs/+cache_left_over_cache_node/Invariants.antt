-- The invariant of the loop, `Caching`: the marked nodes passed are cached in turn, and what they bring is in row k. The measure of the cycle is twice the
-- node, and one more for `cache_node`.
use Rattle.std.proofs.Common.{◌+◌, ◌*◌}
use Rattle.tables.specs.Tables.{tables}
use Rattle.cache.specs.LeftLaws.{Caching}
use Rattle.cache.proofs.+cache_left_over_cache_node.Given as goal

abbrev pub decreases-cache_left_over : goal.decreases-cache_left_over
decreases-cache_left_over l = 2 * l.k

abbrev pub decreases-cache_node : goal.decreases-cache_node
decreases-cache_node l = 2 * l.k + 1

abbrev pub invariant-cache_left_over-loop-i : goal.invariant-cache_left_over-loop-i
invariant-cache_left_over-loop-i l = Caching (tables l.hashes l.nodes l.targets l.nexts l.initial.clocks l.counts) l.k l.initial.marks l.clocks l.marks l.i
