-- `judge::Rest::ended` meets its contract.
-- Assumes nothing.
use Rattle.std.proofs.Common.{◌∙◌, arith}
use Rattle.bflan.specs.Judge.{wide}
use Rattle.bflan.specs.Layout.{size, ended}
use Rattle.bflan.proofs.judge.Measures.{held, failed, there, word_is, refused_word, handed_on, more, none_more}
use Rattle.bflan.proofs.judge.JudgeParts.{text_bad, ended_then}
use Rattle.bflan.proofs.judge.Rest.ended.Goals as goal

pub returns-in_err-n : goal.returns-in_err-n
returns-in_err-n c = refused_word _ _ c.word_below.ensures c.from_residual.ensures.1 c.in_err-n.was (omega arith) ∙ text_bad (wide 4) c.args.self (λ t. size (ended t)) (failed _ _ c.word_below.ensures c.in_err-n.was (omega arith))

pub past-requires : goal.past-requires
past-requires c = omega (arith, there _ _ c.word_below.ensures c.in_ok-n.was, c.well_formed)

pub returns-in_err-text : goal.returns-in_err-text
returns-in_err-text c = handed_on c.from_residual-in_err-text.ensures.1 ∙ none_more 1 c.in_err-text.was ∙ ended_then (wide 4) c.args.self _ _ (held _ _ c.word_below.ensures c.in_ok-n.was (omega arith)) (word_is _ _ c.word_below.ensures c.in_ok-n.was (omega arith)) (rw c.past.ensures at c.chars.ensures)

pub returns : goal.returns
returns c = more 1 c.in_ok-text.was c.grown.ensures ∙ ended_then (wide 4) c.args.self _ _ (held _ _ c.word_below.ensures c.in_ok-n.was (omega arith)) (word_is _ _ c.word_below.ensures c.in_ok-n.was (omega arith)) (rw c.past.ensures at c.chars.ensures)
