use Rattle.std.proofs.Common.{◌≡◌, ◌+◌, ◌*◌, ◌-◌, Bool, take, drop, List, ℕ, sym, ap, ◌∙◌, arith}
use Rattle.hash.specs.HashLaws.{hash_part}
use Rattle.paper.specs.Lists.{some_below}
use Rattle.paper.proofs.Scans.{all_start, all_next, all_no}
use Rattle.columns.specs.Columns.{column_head_is, stated_right}
use Rattle.columns.proofs.Columns.stated_right.Goals as goal

-- the call looks at stated head i
told : (hs : List ℕ) (n : ℕ) (vs ts : List ℕ) (i : ℕ) {r : Bool} → r ≡ some_below (column_head_is hs vs (take (32 * i + 32 - 32 * i) (drop (32 * i) ts))) n → stated_right hs n vs ts i ≡ r
told hs n vs ts i e = sym (e ∙ ap (λ (h : List ℕ). some_below (column_head_is hs vs h) n) (hash_part ts i))

pub loop-i-init : goal.loop-i-init
loop-i-init c = all_start _ _

pub returns-then-not-is_head : goal.returns-then-not-is_head
returns-then-not-is_head c = all_no _ _ _ (omega arith) (told c.args.self.now.ids.now _ c.args.used.now c.args.self.now.heads.now c.loop-i.i c.is_head.ensures ∙ c.if-not-is_head.true)

pub loop-i-preserved : goal.loop-i-preserved
loop-i-preserved c = all_next _ _ c.loop-i.invariant (omega arith) (told c.args.self.now.ids.now _ c.args.used.now c.args.self.now.heads.now c.loop-i.i c.is_head.ensures ∙ c.if-not-is_head.false)
