-- Each digit has a value below 16, so no byte wraps. Assumes nothing.
use Rattle.std.proofs.Common.{◌+◌, ◌*◌, arith}
use Rattle.list_laws.specs.Over.{placing_start}
use Rattle.text.specs.WordsLaws.{hash_length, hash_digit, decode_next, decode_end}
use Rattle.text.proofs.decode.Goals as goal

pub loop-i-init : goal.loop-i-init
loop-i-init c = placing_start _ _ _

pub bounds-s-i : goal.bounds-s-i
bounds-s-i c = omega (arith, hash_length c.args.s.now c.requires.s_value)

pub bounds-s-i-in-loop-i : goal.bounds-s-i-in-loop-i
bounds-s-i-in-loop-i c = omega (arith, hash_length c.args.s.now c.requires.s_value)

pub overflow_mul-out : goal.overflow_mul-out
overflow_mul-out c =
    let a = hash_digit c.args.s.now c.requires.s_value (2 * c.loop-i.i) (omega arith) in
    omega arith

pub overflow_add-out : goal.overflow_add-out
overflow_add-out c =
    let a = hash_digit c.args.s.now c.requires.s_value (2 * c.loop-i.i) (omega arith) in
    let b = hash_digit c.args.s.now c.requires.s_value (2 * c.loop-i.i + 1) (omega arith) in
    omega arith

pub loop-i-preserved : goal.loop-i-preserved
loop-i-preserved c =
    decode_next _ c.requires.s_value _ _ _ c.requires.at_in_bounds _ c.loop-i-test.true c.loop-i.invariant _ _ c.hex_value-high.ensures c.hex_value-low.ensures

pub returns : goal.returns
returns c = decode_end _ c.requires.s_value _ _ _ c.requires.at_in_bounds _ c.loop-i.auto.i-end c.loop-i-test.false c.loop-i.invariant
