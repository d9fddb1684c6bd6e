use Rattle.std.proofs.Common.{◌≡◌, ◌+◌, ◌-◌, ◌*◌, [], ◌∷◌, refl, arith}
use Rattle.records.specs.RecordLaws.{put_over}
use Rattle.records.proofs.put_five.Goals as goal

pub returns : goal.returns
returns c =
    let n : 5 * c.args.k + 5 - 5 * c.args.k ≡ 5 = omega arith in
    rw (c.copy_from_slice.ensures.after, n) (put_over c.args.numbers.now (5 * c.args.k) 5 (c.args.a ∷ c.args.b ∷ c.args.c ∷ c.args.d ∷ c.args.e ∷ []) refl)
