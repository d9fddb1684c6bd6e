use Rattle.std.proofs.Common.{sym, ◌∙◌, arith}
use Rattle.hash.specs.HashLaws.{hash_part}
use Rattle.ready.specs.Ordering.{turn_hash_in, turn_known, turn_freeable, turn_passed}
use Rattle.ready.proofs.list_next.Goals as goal

pub slice_bounds-is_known-end : goal.slice_bounds-is_known-end
slice_bounds-is_known-end c = omega (arith, turn_hash_in c.requires)

pub returns-then-is_known : goal.returns-then-is_known
returns-then-is_known c = turn_known c.requires (sym (rw hash_part at c.is_known.ensures) ∙ c.if-is_known.true)

pub list_freed-requires : goal.list_freed-requires
list_freed-requires c = turn_freeable c.requires (sym (rw hash_part at c.is_known.ensures) ∙ c.if-is_known.false)

pub returns : goal.returns
returns c = turn_passed c.requires (sym (rw hash_part at c.is_known.ensures) ∙ c.if-is_known.false) c.list_freed.ensures
