use Rattle.std.proofs.Common.{ℕ, ◌≡◌, ◌*◌, ◌-◌, ◌/◌, ◌≤◌, length, sym, arith}
use Rattle.std.specs.Prelude.{eqb}
use Rattle.paper.specs.Lists.{tally}
use Rattle.tables.specs.Valid.{Valid}
use Rattle.tables.specs.Tables.{Tables, graph, changes, head_at}
use Rattle.tables.specs.Lent.{lists}
use Rattle.answer_buffer.specs.Room.{room}
use Rattle.paper.specs.Graph as g
use Rattle.answer_buffer.specs.AnswerLaws.{listed_short, filled_short}
use Rattle.heads.specs.Heads.{head_hashes}
use Rattle.heads.specs.HeadLaws.{head_flag, no_flag, flags_count, heads_long, heads_start, heads_room, heads_next, heads_skip, hashes_long, heads_told, heads_whole, fewer}
use Rattle.heads.proofs.heads.Goals as goal

-- the buffer has room for all heads
fits : (t : Tables) → Valid t → (count room : ℕ) → count ≡ tally (λ k. eqb (head_at t.nodes k) 1) (changes t) → count ≤ room / 32 → 32 * length (g.heads (graph t)) ≤ room
fits t v count room e l = let f = flags_count t v in let h = heads_long t v in omega arith

pub returns-then-out-count : goal.returns-then-out-count
returns-then-out-count c =
    let t = lists c.args.tables.now in
    let n = c.count_heads-count.ensures in
    let f = flags_count t c.requires in
    let h = hashes_long t c.requires in
    let l = c.if-out-count.true in
    record { value = sym (listed_short (head_hashes (graph t)) _ (omega arith)); out_after = sym (filled_short (head_hashes (graph t)) _ (omega arith)) }

pub loop-k-init : goal.loop-k-init
loop-k-init c = heads_start (lists c.args.tables.now) c.requires _

pub enter_hash-c-requires : goal.enter_hash-c-requires
enter_hash-c-requires c =
    let t = lists c.args.tables.now in
    let l = c.loop-k in
    let r = (room t c.requires).hashes_in in
    let a = c.loop-k-test.true in
    let b = l.auto.k in
    (omega arith, heads_room t c.requires l.invariant (fits t c.requires _ _ c.count_heads-count.ensures c.if-out-count.false) (l.k - 1) (omega arith) b (head_flag t c.requires (l.k - 1) (omega arith) c.if-tables-k-eq1.true))

pub loop-k-preserved-then-tables-k-eq1 : goal.loop-k-preserved-then-tables-k-eq1
loop-k-preserved-then-tables-k-eq1 c =
    let t = lists c.args.tables.now in
    let l = c.loop-k in
    let a = c.loop-k-test.true in
    let b = l.auto.k in
    heads_next t c.requires l.invariant (fits t c.requires _ _ c.count_heads-count.ensures c.if-out-count.false) (l.k - 1) (omega arith) b (head_flag t c.requires (l.k - 1) (omega arith) c.if-tables-k-eq1.true) _ _ c.enter_hash-c.ensures.value c.enter_hash-c.ensures.out_after

pub loop-k-preserved : goal.loop-k-preserved
loop-k-preserved c =
    let t = lists c.args.tables.now in
    let l = c.loop-k in
    let a = c.loop-k-test.true in
    let b = l.auto.k in
    heads_skip t c.requires l.invariant (fits t c.requires _ _ c.count_heads-count.ensures c.if-out-count.false) (l.k - 1) (omega arith) b (no_flag t c.requires (l.k - 1) (omega arith) c.if-tables-k-eq1.false)

pub overflow_mul-result : goal.overflow_mul-result
overflow_mul-result c =
    let f = fewer (lists c.args.tables.now) c.requires c.loop-k.k c.loop-k.auto.k in
    let e = c.loop-k.invariant.long in
    let b = fits (lists c.args.tables.now) c.requires _ _ c.count_heads-count.ensures c.if-out-count.false in
    omega arith

pub returns : goal.returns
returns c =
    let t = lists c.args.tables.now in
    let l = c.loop-k in
    let z : l.k ≡ 0 = (let n = c.loop-k-test.false in omega arith) in
    record { value = heads_told t c.requires l.invariant (fits t c.requires _ _ c.count_heads-count.ensures c.if-out-count.false) z; out_after = heads_whole t c.requires l.invariant (fits t c.requires _ _ c.count_heads-count.ensures c.if-out-count.false) z }
