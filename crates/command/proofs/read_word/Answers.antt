-- The five words are compared in turn: the answer is the one that is the same, and none where none is. Assumes nothing.
use Rattle.std.proofs.Common.{sym, ◌∙◌}
use Rattle.paper.specs.Bytes.{bytes}
use Rattle.paper.specs.Command.{heads_word, clock_word, missing_word, owner_word, add_word}
use Rattle.command.specs.ReadLaws.{word_heads, word_clock, word_missing, word_owner, word_add, word_other}
use Rattle.command.proofs.read_word.Goals as goal

pub returns-then-same_bytes : goal.returns-then-same_bytes
unfolding bytes heads_word clock_word missing_word owner_word add_word
returns-then-same_bytes c = word_heads _ (sym c.same_bytes.ensures ∙ c.if-same_bytes.true)

pub returns-then-same_bytes-2 : goal.returns-then-same_bytes-2
unfolding bytes heads_word clock_word missing_word owner_word add_word
returns-then-same_bytes-2 c = word_clock _ (sym c.same_bytes.ensures ∙ c.if-same_bytes.false) (sym c.same_bytes-2.ensures ∙ c.if-same_bytes-2.true)

pub returns-then-same_bytes-3 : goal.returns-then-same_bytes-3
unfolding bytes heads_word clock_word missing_word owner_word add_word
returns-then-same_bytes-3 c = word_missing _ (sym c.same_bytes.ensures ∙ c.if-same_bytes.false) (sym c.same_bytes-2.ensures ∙ c.if-same_bytes-2.false) (sym c.same_bytes-3.ensures ∙ c.if-same_bytes-3.true)

pub returns-then-same_bytes-4 : goal.returns-then-same_bytes-4
unfolding bytes heads_word clock_word missing_word owner_word add_word
returns-then-same_bytes-4 c = word_owner _ (sym c.same_bytes.ensures ∙ c.if-same_bytes.false) (sym c.same_bytes-2.ensures ∙ c.if-same_bytes-2.false) (sym c.same_bytes-3.ensures ∙ c.if-same_bytes-3.false) (sym c.same_bytes-4.ensures ∙ c.if-same_bytes-4.true)

pub returns-then-same_bytes-5 : goal.returns-then-same_bytes-5
unfolding bytes heads_word clock_word missing_word owner_word add_word
returns-then-same_bytes-5 c = word_add _ (sym c.same_bytes.ensures ∙ c.if-same_bytes.false) (sym c.same_bytes-2.ensures ∙ c.if-same_bytes-2.false) (sym c.same_bytes-3.ensures ∙ c.if-same_bytes-3.false) (sym c.same_bytes-4.ensures ∙ c.if-same_bytes-4.false) (sym c.same_bytes-5.ensures ∙ c.if-same_bytes-5.true)

pub returns : goal.returns
unfolding bytes heads_word clock_word missing_word owner_word add_word
returns c = word_other _ (sym c.same_bytes.ensures ∙ c.if-same_bytes.false) (sym c.same_bytes-2.ensures ∙ c.if-same_bytes-2.false) (sym c.same_bytes-3.ensures ∙ c.if-same_bytes-3.false) (sym c.same_bytes-4.ensures ∙ c.if-same_bytes-4.false) (sym c.same_bytes-5.ensures ∙ c.if-same_bytes-5.false)
