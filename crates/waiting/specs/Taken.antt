-- Records taken out of a queue: the others close up.
use Rattle.std.specs.Prelude.{◌≡◌, ℕ, List, length, set}
use Rattle.std.proofs.Common.{sym, ap, ◌∙◌, subst}
use Rattle.paper.specs.Lists.{pick}
use Rattle.paper.proofs.Count.{pick_length}
use Rattle.records.specs.Records.{Filled, place_of, unlisted, Closed}
use Rattle.waiting.specs.Valid.{waiting}

-- the records at the kept positions stand at the front, in that order, and are counted; what lies behind them is as it was
pub record TakenOut (hs ns ds cs : List ℕ) (keep : List ℕ) (hs' ns' ds' cs' : List ℕ) : Type 0 where
  pub moved : Filled hs ns ds (place_of keep) 0 (length keep) hs ns ds hs' ns' ds'
  pub count : cs' ≡ set cs 0 (length keep)

-- closing up takes out what is listed
pub closed_out : {hs ns ds order : List ℕ} (cs : List ℕ) {r : ℕ} {hs' ns' ds' cs' : List ℕ} {w : ℕ} → Closed hs ns ds (waiting cs) order r (waiting cs) hs' ns' ds' w
    → cs' ≡ set cs 0 w → TakenOut hs ns ds cs (pick (unlisted order r) (waiting cs)) hs' ns' ds' cs'
closed_out {hs} {ns} {ds} {order} cs {r} {hs'} {ns'} {ds'} {cs'} {w} c e =
    let n : w ≡ length (pick (unlisted order r) (waiting cs)) = c.counted ∙ sym (pick_length (unlisted order r) (waiting cs)) in
    record {
      moved = subst (λ (x : ℕ). Filled hs ns ds (place_of (pick (unlisted order r) (waiting cs))) 0 x hs ns ds hs' ns' ds') n c.filled;
      count = e ∙ ap (set cs 0) n;
    }
