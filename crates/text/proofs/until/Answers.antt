-- The first byte that is sep, or the end, is where the part ends. Assumes nothing.
use Rattle.std.proofs.Common.{◌≡◌, ◌+◌, ◌-◌, ◌∙◌, length, take, drop, rules, ap, sym, arith, tests, length-drop}
use Rattle.std.proofs.lemmas.List.{take_all}
use Rattle.std.proofs.lemmas.Iterator.{IsFirst-from_position, YieldsList-from_slice}
use Rattle.text.specs.Parts.{part_length, end_of}
use Rattle.text.specs.PartsLaws.{part_first}
use Rattle.text.proofs.until.Goals as goal

pub returns : goal.returns
unfolding end_of
returns c =
    let bs = drop c.args.at c.args.s.now in
    let sep = c.args.sep in
    let all : take (length c.args.s.now - c.args.at) bs ≡ bs = take_all _ bs (omega (arith, length-drop c.args.at c.args.s.now)) in
    let e = part_first sep _ _ (IsFirst-from_position _ _ _ (λ b. b ≡ sep) (λ b. b ≡ sep → ⊥) c.position-n.ensures.ran (YieldsList-from_slice _ c.iter.ensures.rest) (λ x q k. search (rules, tests)) (λ x q k. search (rules, tests))) in
    ap (λ n. c.args.at + n) (c.unwrap_or.ensures ∙ sym e ∙ ap (part_length sep) all)
