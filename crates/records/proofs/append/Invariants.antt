-- The records so far are filled in.
-- Assumes nothing.
use Rattle.records.specs.Records.{SameLengths, Filled}
use Rattle.records.proofs.append.Given as goal

abbrev pub invariant-loop-p : goal.invariant-loop-p
invariant-loop-p l =
    SameLengths l.initial.thashes l.initial.tnumbers l.initial.tdeps l.thashes l.tnumbers l.tdeps
    × Filled l.hashes l.numbers l.deps (λ i. i) l.n l.p l.initial.thashes l.initial.tnumbers l.initial.tdeps l.thashes l.tnumbers l.tdeps
