use Rattle.std.proofs.Common.{◌≡◌, ◌+◌, ◌*◌, ◌-◌, ℕ, Bool, List, take, drop, not, sym, ap, ◌∙◌, arith}
use Rattle.hash.specs.HashLaws.{hash_part}
use Rattle.paper.proofs.Scans.{all_start, all_next, all_no}
use Rattle.columns.specs.Columns.{is_known, is_new}
use Rattle.columns.proofs.Columns.distinct.Goals as goal

-- the call looks for hash k among those before it
told : (hs : List ℕ) (k : ℕ) {r : Bool} → r ≡ is_known hs k (take (32 * k + 32 - 32 * k) (drop (32 * k) hs)) → is_new hs k ≡ not r
told hs k e = ap not (sym (e ∙ ap (is_known hs k) (hash_part hs k)))

pub loop-k-init : goal.loop-k-init
loop-k-init c = all_start _ _

pub returns-then-known : goal.returns-then-known
returns-then-known c = all_no _ _ _ (omega arith) (told c.args.self.now.ids.now c.loop-k.k c.known.ensures ∙ ap not c.if-known.true)

pub loop-k-preserved : goal.loop-k-preserved
loop-k-preserved c = all_next _ _ c.loop-k.invariant (omega arith) (told c.args.self.now.ids.now c.loop-k.k c.known.ensures ∙ ap not c.if-known.false)
