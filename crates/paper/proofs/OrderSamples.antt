-- The samples of the order, computed.
-- Assumes nothing.
use mathlib.Core.Path.{◌≡◌, refl}
use mathlib.Core.List.{map}
use Rattle.paper.specs.Lists.{mem, pick, tally, some_below, first_from, first_below, sum_below, each_below, same_list, less_list, enter, ascending, hash_at, hashes_from, hashes_of}
use Rattle.paper.specs.Text.{flat}
use Rattle.paper.specs.Graph.{look, pass, known, hist, top, clock_of, clock, above, missing, wanted, head_nodes, heads, node, nodes, change_at, is_in_range, owns, owner}
use Rattle.paper.specs.Adding.{seq_for_actor, edges_used, first_unknown_place, accepts, judged, grown, added}
use Rattle.paper.specs.Session.{bench}
use Rattle.paper.specs.Queue.{of_list, has_hash, has_actor_seq}
use Rattle.paper.specs.Samples.{all_added}
use Rattle.paper.specs.Actors.{judged_open, judged_insert, judged_remove}
use Rattle.paper.specs.Asking.{not_hash, not_hashes, judged_room, judged_question, judged_look_up, judged_node, judged_index, judged_actor_seq, judged_owner, judged_heads, judged_clock, judged_missing}
use Rattle.paper.specs.Clocks.{judged_place, judged_covers, judged_entry}
use Rattle.paper.specs.Pushing.{judged_push, clash_between, judged_hand_over, judged_iter}
use Rattle.paper.specs.OrderSamples.{order_samples}

pub order_right : map (λ s. s.judged) order_samples ≡ map (λ s. s.given) order_samples
unfolding mem pick tally some_below first_from first_below sum_below each_below same_list less_list enter ascending hash_at hashes_from hashes_of flat look pass known hist top clock_of clock above missing wanted head_nodes heads node nodes change_at is_in_range owns owner seq_for_actor edges_used first_unknown_place accepts judged grown added bench of_list has_hash has_actor_seq all_added judged_open judged_insert judged_remove not_hash not_hashes judged_room judged_question judged_look_up judged_node judged_index judged_actor_seq judged_owner judged_heads judged_clock judged_missing judged_place judged_covers judged_entry judged_push clash_between judged_hand_over judged_iter
order_right = refl
