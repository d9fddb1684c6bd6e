use Rattle.std.proofs.Common.{ℕ, ◌≡◌, length, sym, ap, ◌∙◌, arith}
use Rattle.std.specs.Prelude.{Option}
use Rattle.std.proofs.lemmas.Result.{err_from_is_err_and}
use Rattle.paper.specs.Lists.{hash_at, first_below}
use Rattle.paper.specs.Graph.{owner}
use Rattle.tables.specs.Tables.{Tables, graph, changes}
use Rattle.tables.specs.Lent.{lists}
use Rattle.tables.specs.Node.{found_as}
use Rattle.tables.specs.NodeLaws.{at_node, at_low, unknown_high}
use Rattle.answer_buffer.specs.Room.{room}
use Rattle.answer_buffer.specs.Answers.{list_answer, filled}
use Rattle.answer_buffer.specs.AnswerLaws.{node_told, node_refused, node_filled, node_unfilled}
use Rattle.owner.specs.Owns.{owns_at, owner_is}
use Rattle.owner.proofs.opid_to_hash.Goals as goal

-- what the scan finds is the paper's owner
told : (t : Tables) (a i : ℕ) (r : Option ℕ) → r ≡ found_as (changes t) (first_below (owns_at t.nodes a i) (changes t)) → found_as (changes t) (owner (graph t) a i) ≡ r
told t a i r e = sym (e ∙ ap (found_as (changes t)) (owner_is t a i))

pub returns-in_err-k : goal.returns-in_err-k
returns-in_err-k c =
    let t = lists c.args.tables.now in
    let g = graph t in
    let p = err_from_is_err_and c.from_residual.result c.from_residual.ensures.1 in
    let none = c.in_err-k.ensures.ok_part in
    let high = unknown_high _ _ (told t c.args.actor c.args.counter _ c.owner_at.ensures ∙ none) in
    record {
      value = rw (p.1, p.2) ((rw none at c.in_err-k.ensures.value) ∙ sym (node_refused g _ _ _ high));
      out_after = sym (node_unfilled g _ _ high);
    }

pub hash_into-requires : goal.hash_into-requires
hash_into-requires c =
    let t = lists c.args.tables.now in
    let e = told t c.args.actor c.args.counter _ c.owner_at.ensures ∙ c.in_ok-k.ensures.ok_part in
    let is = at_node _ _ _ e in
    let low = at_low _ _ _ e in
    omega (arith, (room t c.requires).hashes_in)

pub returns : goal.returns
returns c =
    let s = c.args in
    let t = lists s.tables.now in
    let g = graph t in
    let e = told t s.actor s.counter _ c.owner_at.ensures ∙ c.in_ok-k.ensures.ok_part in
    let is = at_node _ _ _ e in
    let low = at_low _ _ _ e in
    record {
      value = c.hash_into.ensures.value ∙ ap (λ (k : ℕ). list_answer (hash_at s.tables.now.hashes.now k) (length s.out.now)) (sym is) ∙ sym (node_told g _ _ _ low);
      out_after = c.hash_into.ensures.out_after ∙ ap (λ (k : ℕ). filled (hash_at s.tables.now.hashes.now k) s.out.now) (sym is) ∙ sym (node_filled g _ _ low);
    }
