-- The whole count is n and how many hashes stand from member n on.
use Rattle.std.proofs.Common.{◌≡◌, length, eqb, drop}
use Rattle.std.specs.List.{slice_split}
use Rattle.paper.specs.Text.{hashes_of_members}
use Rattle.text.specs.Lists.{how_many_hashes, member_count}
use Rattle.text.proofs.count_hashes.Given as goal

abbrev pub invariant-loop-member : goal.invariant-loop-member
invariant-loop-member l =
    (l.n ≡ length l.yielded) × (member_count l.s ≡ how_many_hashes l.n (hashes_of_members (drop l.n (slice_split (λ b. eqb b 44) l.s))))
