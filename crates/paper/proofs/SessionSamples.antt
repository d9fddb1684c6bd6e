-- The sessions of the list, computed: each answers what stands beside it.
-- Assumes nothing.
use mathlib.Core.Path.{◌≡◌, refl}
use mathlib.Core.List.{map}
use Rattle.paper.specs.Bytes.{bytes}
use Rattle.paper.specs.Lists.{mem, pick, tally, some_below, first_from, first_below, sum_below, each_below, same_list, less_list, enter, ascending, hash_at, hashes_from, hashes_of}
use Rattle.paper.specs.Graph.{look, pass, known, hist, top, clock_of, clock, above, missing, wanted, head_nodes, heads, node, nodes, is_in_range, owns, owner}
use Rattle.paper.specs.Adding.{seq_for_actor, edges_used, first_unknown_place, accepts, judged, grown, added}
use Rattle.paper.specs.Text.{grow, parted, flat, is_digit, all_digits, value_from, unpadded, digits_after, decimal_of, digits_by, digits_of, hex_value, all_hex, is_hash, bytes_of, hash_of, hex_digit, hex_of, before, hashes_of_members, list_of, commas, comma_joined, clock_text, list_text, given, next, last}
use Rattle.paper.specs.Command.{header, actors_word, heads_word, clock_word, missing_word, owner_word, add_word, one_list, owner_line, add_line, by_word, command_of, in_range, actors_by, actors_of}
use Rattle.paper.specs.Session.{bench, answer_line, verdict_text, owner_text, entries, missed, answer, after_command, bad_text, bad_line, first_line, second_line, asked_line, short_line, long_line, line_step, ending, answers, session}
use Rattle.paper.specs.SessionSamples.{shown, lines, after_header, ones, runs}

pub all_answered : map (λ r. session r.given) runs ≡ map (λ r. r.answered) runs
unfolding bytes mem pick tally some_below first_from first_below sum_below each_below same_list less_list enter ascending hash_at hashes_from hashes_of look pass known hist top clock_of clock above missing wanted head_nodes heads node nodes is_in_range owns owner seq_for_actor edges_used first_unknown_place accepts judged grown added grow parted flat is_digit all_digits value_from unpadded digits_after decimal_of digits_by digits_of hex_value all_hex is_hash bytes_of hash_of hex_digit hex_of before hashes_of_members list_of commas comma_joined clock_text list_text given next last header actors_word heads_word clock_word missing_word owner_word add_word one_list owner_line add_line by_word command_of in_range actors_by actors_of bench answer_line verdict_text owner_text entries missed answer after_command bad_text bad_line first_line second_line asked_line short_line long_line line_step ending answers session shown lines after_header ones
all_answered = refl
