-- A length other than 64 is no hash, and at 64 the test is that of each digit. Assumes nothing.
use Rattle.std.proofs.Common.{ltb, rules, sym, ◌∙◌, tests}
use Rattle.std.proofs.lemmas.Iterator.{YieldsList-from_slice}
use Rattle.std.proofs.lemmas.Iterator.Search.{all_from_yields_List}
use Rattle.std.proofs.lemmas.Bool.{ne_eqb}
use Rattle.paper.specs.Text.{hex_value}
use Rattle.text.specs.WordsLaws.{all_hex_is, hash_not, hash_hex}
use Rattle.text.proofs.is_hash.Goals as goal

pub returns-then-s-eq64 : goal.returns-then-s-eq64
returns-then-s-eq64 c =
    let s = c.args.s.now in
    all_from_yields_List (λ b. ltb (hex_value b) 16) _ _ _ c.all.ensures.ran (YieldsList-from_slice s (search rules)) (λ x b q k. search (rules, tests))
    ∙ all_hex_is s
    ∙ sym (hash_hex s c.if-s-eq64.true)

pub returns-else-s-eq64 : goal.returns-else-s-eq64
returns-else-s-eq64 c = ne_eqb _ _ c.if-s-eq64.false ∙ sym (hash_not _ c.if-s-eq64.false)
