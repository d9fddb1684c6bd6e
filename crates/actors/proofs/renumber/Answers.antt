-- The node at k still has its old actor, and gets what f gives for that.
use Rattle.std.proofs.Common.{◌≡◌, ◌*◌, ◌≢◌, refl, sym, ap, ◌∙◌, arith, get_or-set_other}
use Rattle.actors.specs.ActorLaws.{renumbered_none, renumbered_next}
use Rattle.actors.proofs.renumber.Goals as goal

pub loop-k-init : goal.loop-k-init
loop-k-init g c = ((λ j l. refl), λ h law. sym (renumbered_none h _))

pub f-requires : goal.f-requires
f-requires g c = rw (c.loop-k.invariant.0 c.loop-k.k (omega arith)) (c.requires.callable c.loop-k.k c.loop-k-test.true)

pub loop-k-preserved : goal.loop-k-preserved
loop-k-preserved g c =
    let old = c.loop-k.invariant.0 c.loop-k.k (omega arith) in (
      (λ j l. let other : 6 * j ≢ 6 * c.loop-k.k = omega arith in rw get_or-set_other (c.loop-k.invariant.0 j (omega arith))),
      λ h law. (let new = law _ _ c.f.ensures in let next = renumbered_next h _ c.loop-k.k c.f.result (new ∙ ap h old) in rw (c.loop-k.invariant.1 h law) next),
    )

pub returns : goal.returns
returns g c =
    let e : c.loop-k.k ≡ c.args.n = omega arith in
    λ h law. rw (← e) (c.loop-k.invariant.1 h law)
