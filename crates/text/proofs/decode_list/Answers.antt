-- The 64 digits of hash k start at 65 * k and lie within the bytes. Assumes nothing.
use Rattle.std.proofs.Common.{◌∙◌, arith}
use Rattle.text.specs.ListsLaws.{decoded_start, member_hash, member_room, decoded_next, decoded_end}
use Rattle.text.proofs.decode_list.Goals as goal

pub loop-k-init : goal.loop-k-init
loop-k-init c = decoded_start _ _ c.requires.n_value _ c.requires.n_in_bounds c.args.out.now

pub overflow_mul-p : goal.overflow_mul-p
overflow_mul-p c = omega (arith, member_room c.args.s.now _ c.requires.n_value c.loop-k.k c.loop-k-test.true)

pub overflow_add-p : goal.overflow_add-p
overflow_add-p c = omega (arith, member_room c.args.s.now _ c.requires.n_value c.loop-k.k c.loop-k-test.true)

pub slice_bounds-decode-end : goal.slice_bounds-decode-end
slice_bounds-decode-end c = omega (arith, member_room c.args.s.now _ c.requires.n_value c.loop-k.k c.loop-k-test.true)

pub decode-requires-clause-s_value : goal.decode-requires-clause-s_value
decode-requires-clause-s_value c = member_hash _ _ c.requires.n_value c.loop-k.k c.loop-k-test.true

pub loop-k-preserved : goal.loop-k-preserved
loop-k-preserved c = c.decode.ensures ∙ decoded_next _ _ c.requires.n_value _ c.requires.n_in_bounds _ c.loop-k.k c.loop-k-test.true c.loop-k.invariant

pub returns : goal.returns
returns c = decoded_end _ _ c.requires.n_value _ c.requires.n_in_bounds _ _ c.loop-k.auto.k-end c.loop-k-test.false c.loop-k.invariant
