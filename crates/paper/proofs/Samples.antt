-- The samples, computed: each question of the list has the answer that stands beside it.
-- Assumes nothing.
use mathlib.Core.Path.{◌≡◌, refl}
use mathlib.Core.List.{map}
use Rattle.paper.specs.Lists.{mem, pick, tally, some_below, all_below, first_from, first_below, sum_below, each_below, every, keep, same_list, less_list, names, enter, ascending, hash_at, hashes_from, hashes_of}
use Rattle.paper.specs.Graph.{look, pass, known, hist, top, clock_of, clock, above, missing, wanted, head_nodes, heads, node, nodes, change_at, max_op_of, op_clock, is_in_range, owns, owner, chained_old_test}
use Rattle.paper.specs.Adding.{seq_for_actor, edges_used, first_unknown_place, accepts, judged, grown, added}
use Rattle.paper.specs.Session.{bench}
use Rattle.paper.specs.Queue.{of_list, among, met, first, freed, order_from, order}
use Rattle.paper.specs.Samples.{answer, samples, all_added}

pub all_right : map (λ s. answer s.asked) samples ≡ map (λ s. s.told) samples
unfolding mem pick tally some_below all_below first_from first_below sum_below each_below every keep same_list less_list names enter ascending hash_at hashes_from hashes_of look pass known hist top clock_of clock above missing wanted head_nodes heads node nodes change_at max_op_of op_clock is_in_range owns owner chained_old_test seq_for_actor edges_used first_unknown_place accepts judged grown added of_list among met first freed order_from order bench all_added
all_right = refl
