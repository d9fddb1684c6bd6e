use Rattle.std.proofs.Common.{◌≡◌, ◌+◌, ◌*◌, ◌≤◌, length, sym, ap, ◌∙◌, arith}
use Rattle.std.specs.Prelude.{Ok}
use Rattle.tables.specs.Tables.{graph}
use Rattle.tables.specs.Lent.{lists}
use Rattle.answer_buffer.specs.AnswerLaws.{holds_whole, listed_done, listed_short, filled_short}
use Rattle.deps.specs.Deps.{hash_deps}
use Rattle.deps.specs.DepsLaws.{telling_start, telling_next, target_in, deps_bad, unfilled_bad, deps_one, filled_one}
use Rattle.deps.proofs.Listed.{deps_long, telling_end}
use Rattle.deps.proofs.deps_for_hash.Goals as goal

pub returns-then-hash-ne32 : goal.returns-then-hash-ne32
returns-then-hash-ne32 c = let g = graph (lists c.args.tables.now) in record { value = sym (deps_bad g _ c.if-hash-ne32.true _); out_after = sym (unfilled_bad g _ c.if-hash-ne32.true _) }

pub returns-then-out-n : goal.returns-then-out-n
returns-then-out-n c =
    let s = c.args in
    let t = lists s.tables.now in
    let one = c.if-hash-ne32.false in
    let m = deps_long t c.requires.0 s.hash.now s.parents.now s.n c.requires.1 one in
    let l = c.if-out-n.true in
    record {
      value = sym (deps_one (graph t) _ one _ ∙ listed_short (hash_deps (graph t) s.hash.now) _ (omega arith));
      out_after = sym (filled_one (graph t) _ one _ ∙ filled_short (hash_deps (graph t) s.hash.now) _ (omega arith));
    }

pub loop-i-init : goal.loop-i-init
loop-i-init c = telling_start (lists c.args.tables.now) _ _

pub put_hash-requires : goal.put_hash-requires
put_hash-requires c =
    let s = c.args in
    let t = lists s.tables.now in
    let k = c.loop-i.invariant.holds.kept in
    let l = c.loop-i-test.true in
    let f = c.if-out-n.false in
    (omega arith, target_in t c.requires.0 s.hash.now s.parents.now s.n c.requires.1 c.if-hash-ne32.false c.loop-i.i c.loop-i-test.true)

pub loop-i-preserved : goal.loop-i-preserved
loop-i-preserved c =
    let s = c.args in
    let t = lists s.tables.now in
    let l = c.loop-i-test.true in
    let f = c.if-out-n.false in
    let d = c.requires.1.long in
    let inside = target_in t c.requires.0 s.hash.now s.parents.now s.n c.requires.1 c.if-hash-ne32.false c.loop-i.i c.loop-i-test.true in
    let e : 32 * c.loop-i.i + 32 ≡ 32 * (c.loop-i.i + 1) = omega arith in
    rw (c.put_hash.ensures, ← e) (telling_next t _ c.loop-i.invariant (omega arith) inside (omega arith))

pub returns : goal.returns
returns c =
    let s = c.args in
    let t = lists s.tables.now in
    let one = c.if-hash-ne32.false in
    let n : c.loop-i.i ≡ s.n = (let l = c.loop-i-test.false in omega arith) in
    let h = telling_end t c.requires.0 s.hash.now s.parents.now s.n c.requires.1 one c.loop-i.invariant n in
    let m = deps_long t c.requires.0 s.hash.now s.parents.now s.n c.requires.1 one in
    let g : length (hash_deps (graph t) s.hash.now) ≤ length s.out.now = (let b = c.if-out-n.false in omega arith) in
    record { value = ap Ok (sym m) ∙ sym (deps_one (graph t) _ one _ ∙ listed_done (hash_deps (graph t) s.hash.now) _ g); out_after = holds_whole h g ∙ sym (filled_one (graph t) _ one _) }
