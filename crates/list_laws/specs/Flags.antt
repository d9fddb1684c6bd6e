-- A test as a number, as `u32::from` and `usize::from` give it.
use Rattle.std.specs.Prelude.{◌≡◌, refl, Bool, true, false, cond, ◌≤◌}
use Rattle.std.proofs.Common.{arith}
use mir.Val.{bool_byte}

pub flag_of : (b : Bool) → bool_byte b ≡ cond b 1 0
flag_of true = refl
flag_of false = refl

pub flag_small : (b : Bool) → bool_byte b ≤ 1
flag_small true = omega arith
flag_small false = omega arith
