use Rattle.std.proofs.Common.{ℕ, List, ◌≡◌, ◌≤◌, ◌<◌, ◌/◌, ◌+◌, ◌*◌, length, sym, ap, ◌∙◌, arith}
use Rattle.std.specs.Prelude.{map, true}
use Rattle.paper.specs.Lists.{tally, pick, hash_at}
use Rattle.paper.specs.Text.{flat}
use Rattle.answer_buffer.specs.AnswerLaws.{Holds, holds_start, holds_as, holds_whole, holds_told, listed_short, filled_short}
use Rattle.answer_buffer.specs.Picking.{hashes_length, put_room, put_hit, put_pass}
use Rattle.missing.specs.Missing.{above_at}
use Rattle.missing.specs.MissingLaws.{hashes_wide}
use Rattle.missing.proofs.above_into.Goals.{then-is_above, else-is_above}
use Rattle.missing.proofs.above_into.Goals as goal

-- the bytes of the list of the first k nodes
abbrev bytes : List ℕ → List ℕ → List ℕ → ℕ → List ℕ
bytes hashes nodes clock k = flat (map (hash_at hashes) (pick (above_at nodes clock) k))

long : (hashes nodes clock : List ℕ) (n : ℕ) → 32 * n ≤ length hashes → length (bytes hashes nodes clock n) ≡ 32 * tally (above_at nodes clock) n
long hashes nodes clock n l = hashes_length (hash_at hashes) (above_at nodes clock) n (hashes_wide hashes n l)

-- there is room for one more hash
one : (hashes nodes clock : List ℕ) (n : ℕ) → 32 * n ≤ length hashes → {out₀ out : List ℕ} {c k count : ℕ} → count ≡ tally (above_at nodes clock) n → count ≤ length out₀ / 32
    → Holds (bytes hashes nodes clock k) out₀ out c → k < n → above_at nodes clock k ≡ true → c + 32 ≤ length out
one hashes nodes clock n in_table e f h l t = put_room (hash_at hashes) (above_at nodes clock) n (hashes_wide hashes n in_table) h l (omega arith) t

pub returns-then-out-count : goal.returns-then-out-count
returns-then-out-count c =
    let s = c.args in
    let list = bytes s.hashes.now s.nodes.now s.clock.now s.n in
    let n = c.count_above-count.ensures in
    let m = long s.hashes.now s.nodes.now s.clock.now s.n c.requires.1 in
    let l = c.if-out-count.true in
    record {
      value = sym (listed_short list _ (omega arith));
      out_after = sym (filled_short list _ (omega arith));
    }

pub loop-k-init : goal.loop-k-init
unfolding pick flat
loop-k-init c = holds_start _

pub put_hash-requires : goal.put_hash-requires
put_hash-requires c =
    let in_table = c.requires.1 in
    let low = c.loop-k-test.true in
    (one _ _ _ _ in_table c.count_above-count.ensures c.if-out-count.false c.loop-k.invariant low (sym c.is_above.ensures ∙ c.if-is_above.true), omega arith)

pub overflow_add-c : goal.overflow_add-c
overflow_add-c c =
    let room = one _ _ _ _ c.requires.1 c.count_above-count.ensures c.if-out-count.false c.loop-k.invariant c.loop-k-test.true (sym c.is_above.ensures ∙ c.if-is_above.true) in
    omega arith

pub loop-k-preserved : goal.loop-k-preserved
loop-k-preserved c =
    let s = c.args in
    let f = hash_at s.hashes.now in
    let p = above_at s.nodes.now s.clock.now in
    let wide = hashes_wide s.hashes.now s.n c.requires.1 in
    let n = c.count_above-count.ensures in
    let l = c.if-out-count.false in
    let fits : 32 * tally p s.n ≤ length s.out.now = omega arith in
    elim c.if-is_above.branch [
      | then-is_above w ↦
          let e = w.out-is ∙ w.put_hash.ensures in
          rw (e, w.c-is) (put_hit f p s.n wide c.loop-k.invariant c.loop-k-test.true fits (sym c.is_above.ensures ∙ w.if-is_above.true))
      | else-is_above w ↦ rw (w.out-is, w.c-is) (put_pass f p s.n wide c.loop-k.invariant c.loop-k-test.true (sym c.is_above.ensures ∙ w.if-is_above.false))
    ]

pub returns : goal.returns
returns c =
    let s = c.args in
    let l = c.loop-k in
    let list : ℕ → List ℕ = bytes s.hashes.now s.nodes.now s.clock.now in
    let e : l.k ≡ s.n = omega arith in
    let h = holds_as l.invariant (list s.n) (ap list e) in
    let n = c.count_above-count.ensures in
    let few = c.if-out-count.false in
    let m = long s.hashes.now s.nodes.now s.clock.now s.n c.requires.1 in
    let fits : length (list s.n) ≤ length s.out.now = omega arith in
    record { value = holds_told h fits; out_after = holds_whole h fits }
