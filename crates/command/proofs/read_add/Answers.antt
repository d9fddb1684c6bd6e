-- The fields one after the other: at the first that is wrong the line is bad and both buffers stay; else they hold the hash and the dependencies.
-- Assumes nothing.
use Rattle.std.proofs.Common.{sym}
use Rattle.text.specs.CursorLaws.{hash_is}
use Rattle.command.specs.ReadLaws.{answered_bad, add_hash, add_actor, add_seq, add_max, add_ops, add_deps, add_whole}
use Rattle.command.proofs.read_add.Goals as goal

pub returns-in_err-digest : goal.returns-in_err-digest
returns-in_err-digest c = rw c.from_residual.ensures (answered_bad _ _ _ (add_hash _ _ (sym c.in_err-digest.ensures)))

pub returns-in_err-actor : goal.returns-in_err-actor
returns-in_err-actor c =
    rw c.from_residual-in_err-actor.ensures
    (answered_bad _ _ _ (add_actor _ _ _ (hash_is _ _ _ (sym c.in_ok-digest.ensures)) (sym c.in_err-actor.ensures)))

pub returns-in_err-seq : goal.returns-in_err-seq
returns-in_err-seq c =
    rw c.from_residual-in_err-seq.ensures
    (answered_bad _ _ _ (add_seq _ _ _ (hash_is _ _ _ (sym c.in_ok-digest.ensures)) _ _ (sym c.in_ok-actor.ensures) (sym c.in_err-seq.ensures)))

pub returns-in_err-max_op : goal.returns-in_err-max_op
returns-in_err-max_op c =
    rw c.from_residual-in_err-max_op.ensures
    (answered_bad _ _ _ (add_max _ _ _ (hash_is _ _ _ (sym c.in_ok-digest.ensures)) _ _ (sym c.in_ok-actor.ensures) _ _ (sym c.in_ok-seq.ensures) (sym c.in_err-max_op.ensures)))

pub returns-in_err-ops : goal.returns-in_err-ops
returns-in_err-ops c =
    rw c.from_residual-in_err-ops.ensures
    (answered_bad _ _ _ (add_ops _ _ _ (hash_is _ _ _ (sym c.in_ok-digest.ensures)) _ _ (sym c.in_ok-actor.ensures) _ _ (sym c.in_ok-seq.ensures) _ _ (sym c.in_ok-max_op.ensures) (sym c.in_err-ops.ensures)))

pub returns-in_err-deps : goal.returns-in_err-deps
returns-in_err-deps c =
    rw c.from_residual-in_err-deps.ensures
    (add_deps _ _ _ (hash_is _ _ _ (sym c.in_ok-digest.ensures)) _ _ (sym c.in_ok-actor.ensures) _ _ (sym c.in_ok-seq.ensures) _ _ (sym c.in_ok-max_op.ensures) _ _ (sym c.in_ok-ops.ensures) (sym c.in_err-deps.ensures.value) _ _ _ c.read_list.ensures.list_after)

pub bytes-requires : goal.bytes-requires
bytes-requires c =
    let f = hash_is _ _ _ (sym c.in_ok-digest.ensures) in
    (f.field.ordered, f.field.within)

pub decode-requires-clause-s_value : goal.decode-requires-clause-s_value
decode-requires-clause-s_value c = rw c.bytes.ensures (hash_is _ _ _ (sym c.in_ok-digest.ensures)).is

pub returns : goal.returns
returns c =
    add_whole _ _ _ (hash_is _ _ _ (sym c.in_ok-digest.ensures)) _ _ (sym c.in_ok-actor.ensures) _ _ (sym c.in_ok-seq.ensures) _ _ (sym c.in_ok-max_op.ensures) _ _ (sym c.in_ok-ops.ensures) _ (sym c.in_ok-deps.ensures.value) _ _ _ _ c.read_list.ensures.list_after
    (rw c.bytes.ensures at c.decode.ensures)
