use Prim.Native.Nat.{◌-◌}
use mathlib.Core.Path.{◌≡◌, refl, sym, ◌∙◌}
use mathlib.Core.Logic.{⊎_elim}
use lib.ListN.{get_or}
use lib.Dec.{eqb}
use borrow.Author.Tests.{eq-eqb, ne_eqb}
use Rattle.list_laws.specs.Flags.{flag_of}
use Rattle.list_laws.specs.Iff.{below_start, below_next, below_end, below_no}
use Rattle.tables.specs.Checks.{FlagsBy}
use Rattle.tables.proofs.flags_right.Goals as goal

pub loop-k-init : goal.loop-k-init
loop-k-init c = below_start _

pub returns-then-nodes-k : goal.returns-then-nodes-k
unfolding FlagsBy
returns-then-nodes-k c = below_no _ _ _ c.loop-k-test.true (λ p. c.if-nodes-k.true (p ∙ sym (c.from.ensures ∙ flag_of _)))

pub loop-k-preserved : goal.loop-k-preserved
loop-k-preserved c = below_next c.loop-k.invariant (c.if-nodes-k.false ∙ (c.from.ensures ∙ flag_of _))

pub returns : goal.returns
unfolding FlagsBy
returns c = below_end _ c.loop-k.invariant c.loop-k-test.false
