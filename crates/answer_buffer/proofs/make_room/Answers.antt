use Rattle.std.proofs.Common.{◌≡◌, ◌+◌, ◌-◌, ◌∙◌, ℕ, ◌++◌, take, drop, ap, append_assoc, arith}
use Rattle.answer_buffer.specs.Slots.{shifted}
use Rattle.answer_buffer.proofs.make_room.Goals as goal

pub returns : goal.returns
unfolding shifted
returns c =
    let out = c.args.out.now in
    let from = c.args.from in
    let to = c.args.to in
    let e : from + 32 + (to - from) ≡ to + 32 = omega arith in
    c.copy_within.ensures.after ∙ append_assoc (take (from + 32) out) (take (to - from) (drop from out)) _ ∙ ap (λ (i : ℕ). take (from + 32) out ++ (take (to - from) (drop from out) ++ drop i out)) e
