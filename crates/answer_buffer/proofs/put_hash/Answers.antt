use Rattle.std.proofs.Common.{◌≡◌, ◌+◌, ◌-◌, ◌∙◌, sym, ℕ, List, ◌++◌, take, drop, drop-drop, ap, append_assoc, arith}
use Rattle.paper.specs.Lists.{hash_at}
use Rattle.hash.specs.HashLaws.{hash_part, hash_length}
use Rattle.list_laws.specs.Over.{over}
use Rattle.answer_buffer.proofs.put_hash.Goals as goal

pub returns : goal.returns
unfolding over
returns c =
    let out = c.args.out.now in
    let at = c.args.at in
    let hash = hash_at c.args.hashes.now c.args.k in
    let n = hash_length c.args.hashes.now c.args.k c.requires.1 in
    let e : at + (at + 32 - at) ≡ at + 32 = omega arith in
    rw (c.copy_from_slice.ensures.after, hash_part, n)
    (sym (append_assoc (take at out) hash _) ∙ ap (λ (r : List ℕ). take at out ++ hash ++ r) (drop-drop (at + 32 - at) at out ∙ ap (λ (i : ℕ). drop i out) e))
