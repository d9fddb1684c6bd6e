use Rattle.std.proofs.Common.{ℕ, length, sym, ap, ◌∙◌}
use Rattle.std.proofs.lemmas.Result.{err_from_is_err_and}
use Rattle.paper.specs.Lists.{hash_at}
use Rattle.paper.specs.Graph.{change_at}
use Rattle.tables.specs.Tables.{graph}
use Rattle.tables.specs.Lent.{lists}
use Rattle.tables.specs.NodeLaws.{unknown_high}
use Rattle.answer_buffer.specs.Answers.{list_answer, filled}
use Rattle.answer_buffer.specs.AnswerLaws.{node_told, node_refused, node_filled, node_unfilled}
use Rattle.lookups.specs.LookupLaws.{found_is}
use Rattle.lookups.proofs.get_hash_for_actor_seq.Goals as goal

pub returns-in_err-k : goal.returns-in_err-k
unfolding change_at
returns-in_err-k c =
    let g = graph (lists c.args.tables.now) in
    let p = err_from_is_err_and c.from_residual.result c.from_residual.ensures.1 in
    let none = c.in_err-k.ensures.ok_part in
    let high = unknown_high _ _ (sym c.change_at.ensures ∙ none) in
    record {
      value = rw (p.1, p.2) ((rw none at c.in_err-k.ensures.value) ∙ sym (node_refused g _ _ _ high));
      out_after = sym (node_unfilled g _ _ high);
    }

pub hash_into-requires : goal.hash_into-requires
unfolding change_at
hash_into-requires c =
    let f = found_is (lists c.args.tables.now) c.requires _ _ (sym c.change_at.ensures ∙ c.in_ok-k.ensures.ok_part) in
    f.hash_in

pub returns : goal.returns
unfolding change_at
returns c =
    let s = c.args in
    let g = graph (lists s.tables.now) in
    let f = found_is (lists s.tables.now) c.requires _ _ (sym c.change_at.ensures ∙ c.in_ok-k.ensures.ok_part) in
    record {
      value = c.hash_into.ensures.value ∙ ap (λ (k : ℕ). list_answer (hash_at s.tables.now.hashes.now k) (length s.out.now)) (sym f.is) ∙ sym (node_told g _ _ _ f.low);
      out_after = c.hash_into.ensures.out_after ∙ ap (λ (k : ℕ). filled (hash_at s.tables.now.hashes.now k) s.out.now) (sym f.is) ∙ sym (node_filled g _ _ f.low);
    }
