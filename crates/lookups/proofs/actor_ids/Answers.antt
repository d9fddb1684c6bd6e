use Rattle.std.proofs.Common.{◌≡◌, ◌≤◌, length, sym, ◌∙◌, ◌<◌, arith}
use Rattle.paper.specs.Lists.{tally, pick}
use Rattle.tables.specs.Tables.{graph, actors}
use Rattle.tables.specs.Lent.{lists}
use Rattle.answer_buffer.specs.AnswerLaws.{holds_start, holds_as, holds_whole, holds_told, listed_short, filled_short}
use Rattle.answer_buffer.specs.Picking.{pick_room, pick_put, pick_pass}
use Rattle.lookups.specs.Lookups.{actor_listed, actor_list}
use Rattle.lookups.specs.LookupLaws.{actors_long, actors_all}
use Rattle.lookups.proofs.actor_ids.Goals.{then-is_among, else-is_among}
use Rattle.lookups.proofs.actor_ids.Goals as goal

pub returns-then-out-count : goal.returns-then-out-count
returns-then-out-count c =
    let t = lists c.args.tables.now in
    let n = actors_long t c.args.which in
    let e = c.count_among-count.ensures in
    record {
      value = sym (listed_short (actor_list t c.args.which) _ (omega arith));
      out_after = sym (filled_short (actor_list t c.args.which) _ (omega arith));
    }

pub loop-a-init : goal.loop-a-init
unfolding pick
loop-a-init c = holds_start _

-- an actor that is listed has its place in the buffer
in_room : (c : goal.Then-is_among) → c.loop-a.c < length c.loop-a.out
in_room c =
    let fits = c.if-out-count.false in
    let e = c.count_among-count.ensures in
    pick_room (actor_listed (graph (lists c.args.tables.now)) c.args.which) _ c.loop-a.invariant (omega arith) c.loop-a-test.true (sym c.is_among.ensures ∙ c.if-is_among.true)

pub offset_bounds-out-c : goal.offset_bounds-out-c
offset_bounds-out-c c = omega (arith, in_room c)

pub bounds-out-c : goal.bounds-out-c
bounds-out-c c = in_room c

pub overflow_add-c : goal.overflow_add-c
overflow_add-c c = omega (arith, in_room c)

pub loop-a-preserved : goal.loop-a-preserved
loop-a-preserved c =
    let listed = actor_listed (graph (lists c.args.tables.now)) c.args.which in
    let n = actors (lists c.args.tables.now) in
    let fits = c.if-out-count.false in
    let e = c.count_among-count.ensures in
    let room : tally listed n ≤ length c.args.out.now = omega arith in
    elim c.if-is_among.branch [
      | then-is_among w ↦ rw (w.out-is, w.c-is) (pick_put listed n c.loop-a.invariant room c.loop-a-test.true (sym c.is_among.ensures ∙ w.if-is_among.true))
      | else-is_among w ↦ rw (w.out-is, w.c-is) (pick_pass listed n c.loop-a.invariant (sym c.is_among.ensures ∙ w.if-is_among.false))
    ]

pub returns : goal.returns
returns c =
    let t = lists c.args.tables.now in
    let l = c.loop-a in
    let e : l.a ≡ actors t = omega arith in
    let h = holds_as l.invariant (actor_list t c.args.which) (actors_all t c.args.which l.a e) in
    let f : length (actor_list t c.args.which) ≤ length c.args.out.now = (let n = actors_long t c.args.which in let b = c.count_among-count.ensures in let q = c.if-out-count.false in omega arith) in
    record { value = holds_told h f; out_after = holds_whole h f }
