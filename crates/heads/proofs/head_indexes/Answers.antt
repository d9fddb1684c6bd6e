use Rattle.std.proofs.Common.{ℕ, ◌≡◌, ◌*◌, ◌≤◌, length, sym, ◌∙◌, arith}
use Rattle.std.proofs.Math.ListN.{length-replicate}
use Rattle.std.specs.Prelude.{eqb}
use Rattle.paper.specs.Lists.{tally}
use Rattle.paper.proofs.Count.{tally_most}
use Rattle.tables.specs.Tables.{Tables, graph, changes, head_at}
use Rattle.tables.specs.Lent.{lists}
use Rattle.tables.specs.Valid.{Valid}
use Rattle.answer_buffer.specs.Room.{room}
use Rattle.answer_buffer.specs.AnswerLaws.{holds_as, holds_whole, holds_told, listed_done, listed_short, filled_short}
use Rattle.heads.specs.Heads.{head_hashes, head_places}
use Rattle.heads.specs.HeadLaws.{is_head, flags_count, hashes_long, places_long, listed_heads, places_are}
use Rattle.heads.proofs.Listed.{list_long}
use Rattle.heads.proofs.head_indexes.Goals as goal

-- what is counted, and that the list has room for the hashes of all heads
record Counted (t : Tables) (count : ℕ) : Type 0 where
  is : count ≡ tally (is_head t) (changes t)
  few : 32 * tally (is_head t) (changes t) ≤ 131072

counted : (t : Tables) → Valid t → (count : ℕ) → count ≡ tally (λ k. eqb (head_at t.nodes k) 1) (changes t) → Counted t count
counted t v count e =
    let f = flags_count t v in
    let m = tally_most (is_head t) (changes t) in
    let r = (room t v).few in
    record { is = omega arith; few = omega arith }

pub returns-then-out-count : goal.returns-then-out-count
returns-then-out-count c =
    let t = lists c.args.tables.now in
    let n = counted t c.requires _ c.count_heads-count.ensures in
    let h = places_long t c.requires in
    let l = c.if-out-count.true in
    record { value = sym (listed_short (head_places (graph t)) _ (omega arith)); out_after = sym (filled_short (head_places (graph t)) _ (omega arith)) }

-- the list is never too short
pub returns-in_err-heads : goal.returns-in_err-heads
returns-in_err-heads c =
    let t = lists c.args.tables.now in
    let n = counted t c.requires _ c.count_heads-count.ensures in
    let h = hashes_long t c.requires in
    let z = length-replicate {A = ℕ} 131072 0 in
    let q = c.in_err-heads.ensures.value ∙ listed_done (head_hashes (graph t)) _ (omega arith) in
    record { value = cc; out_after = cc }

pub nodes_into-requires : goal.nodes_into-requires
nodes_into-requires c =
    let t = lists c.args.tables.now in
    let r = room t c.requires in
    let n = counted t c.requires _ c.count_heads-count.ensures in
    let l = c.if-out-count.false in
    let z = length-replicate {A = ℕ} 131072 0 in
    let k = list_long t c.requires _ _ c.heads.ensures.out_after (omega arith) in
    record { inside = r.hashes_in; few = r.few; listed = omega arith; fits = omega arith }

pub returns : goal.returns
returns c =
    let t = lists c.args.tables.now in
    let n = counted t c.requires _ c.count_heads-count.ensures in
    let l = c.if-out-count.false in
    let z = length-replicate {A = ℕ} 131072 0 in
    let a = listed_heads t c.requires _ _ c.count_heads-count.result c.heads.ensures.out_after (omega arith) n.is in
    let h = holds_as c.nodes_into.ensures (head_places (graph t)) (places_are t c.requires _ a) in
    let g : length (head_places (graph t)) ≤ length c.args.out.now = (let p = places_long t c.requires in omega arith) in
    record { value = holds_told h g; out_after = holds_whole h g }
