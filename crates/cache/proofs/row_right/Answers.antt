-- A cached row is compared with the clock, another with zeros.
use Rattle.std.proofs.Common.{refl, sym, ◌∙◌}
use Rattle.tables.specs.Lent.{lists}
use Rattle.cache.specs.CheckLaws.{check_own, right_cached, right_bare}
use Rattle.cache.proofs.row_right.Goals as goal

pub is_cached-requires : goal.is_cached-requires
is_cached-requires c = check_own (lists c.args.tables.now) _ _ _ _ c.requires

pub returns-then-is_cached : goal.returns-then-is_cached
returns-then-is_cached c =
    record {
      answer = right_cached (lists c.args.tables.now) _ _ _ _ c.requires _ _ c.requires.full (sym c.is_cached.ensures ∙ c.if-is_cached.true) c.node_clock.ensures.clock_is c.row_is.ensures;
      marks_back = c.node_clock.ensures.marks_back;
    }

pub returns : goal.returns
returns c =
    record {
      answer = right_bare (lists c.args.tables.now) _ _ _ _ c.requires _ _ c.requires.full (sym c.is_cached.ensures ∙ c.if-is_cached.false) c.clear.ensures c.row_is-2.ensures;
      marks_back = refl;
    }
