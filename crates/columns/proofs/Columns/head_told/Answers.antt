use Rattle.std.proofs.Common.{◌/◌, length, sym, ap, ◌∙◌}
use Rattle.hash.specs.HashLaws.{hash_part}
use Rattle.columns.specs.Columns.{is_known}
use Rattle.columns.specs.ColumnsLaws.{or_else}
use Rattle.columns.proofs.Columns.head_told.Goals as goal

pub returns-else-wanted : goal.returns-else-wanted
returns-else-wanted c =
    let s = c.args.self.now in
    c.known.ensures ∙ ap (is_known s.heads.now (length s.heads.now / 32)) (hash_part s.ids.now c.args.k) ∙ or_else _ _ (sym c.wanted.ensures ∙ c.if-wanted.false)
