-- `judge::Rest::datum` meets its contract.
-- Assumes nothing.
use Rattle.std.proofs.Common.{◌∙◌, arith}
use Rattle.bflan.proofs.judge.Measures.{held, failed, there, word_is, refused_word, handed_on, more, none_more, tested_bad, tested_next}
use Rattle.bflan.proofs.judge.JudgeParts.{datum_bad, datum-whole}
use Rattle.bflan.proofs.judge.Rest.datum.Goals as goal

pub returns-in_err-word_below : goal.returns-in_err-word_below
returns-in_err-word_below c = refused_word _ _ c.word_below.ensures c.from_residual.ensures.1 c.in_err-word_below.was (omega arith) ∙ datum_bad c.args.self (tested_bad (failed _ _ c.word_below.ensures c.in_err-word_below.was (omega arith)))

pub word_below-requires-2 : goal.word_below-requires-2
word_below-requires-2 c = omega (arith, there _ _ c.word_below.ensures c.in_ok-word_below.was, c.well_formed)

pub returns-in_err-word_below-2 : goal.returns-in_err-word_below-2
returns-in_err-word_below-2 c = refused_word _ _ c.word_below-2.ensures c.from_residual-in_err-word_below-2.ensures.1 c.in_err-word_below-2.was (omega arith) ∙ datum_bad c.args.self (tested_next (held _ _ c.word_below.ensures c.in_ok-word_below.was (omega arith)) (tested_bad (failed _ _ c.word_below-2.ensures c.in_err-word_below-2.was (omega arith))))

pub word_below-requires-3 : goal.word_below-requires-3
word_below-requires-3 c = omega (arith, there _ _ c.word_below-2.ensures c.in_ok-word_below-2.was, c.well_formed)

pub returns-in_err-word_below-3 : goal.returns-in_err-word_below-3
returns-in_err-word_below-3 c = refused_word _ _ c.word_below-3.ensures c.from_residual-in_err-word_below-3.ensures.1 c.in_err-word_below-3.was (omega arith) ∙ datum_bad c.args.self (tested_next (held _ _ c.word_below.ensures c.in_ok-word_below.was (omega arith)) (tested_next (held _ _ c.word_below-2.ensures c.in_ok-word_below-2.was (omega arith)) (tested_bad (failed _ _ c.word_below-3.ensures c.in_err-word_below-3.was (omega arith)))))

pub word_below-requires-4 : goal.word_below-requires-4
word_below-requires-4 c = omega (arith, there _ _ c.word_below-3.ensures c.in_ok-word_below-3.was, c.well_formed)

pub returns-in_err-base : goal.returns-in_err-base
returns-in_err-base c = refused_word _ _ c.word_below-4.ensures c.from_residual-in_err-base.ensures.1 c.in_err-base.was (omega arith) ∙ datum_bad c.args.self (tested_next (held _ _ c.word_below.ensures c.in_ok-word_below.was (omega arith)) (tested_next (held _ _ c.word_below-2.ensures c.in_ok-word_below-2.was (omega arith)) (tested_next (held _ _ c.word_below-3.ensures c.in_ok-word_below-3.was (omega arith)) (tested_bad (failed _ _ c.word_below-4.ensures c.in_err-base.was (omega arith))))))

pub word_below-requires-5 : goal.word_below-requires-5
word_below-requires-5 c = omega (arith, there _ _ c.word_below-4.ensures c.in_ok-base.was, c.well_formed)

pub returns-in_err-word_below-4 : goal.returns-in_err-word_below-4
returns-in_err-word_below-4 c = refused_word _ _ c.word_below-5.ensures c.from_residual-in_err-word_below-4.ensures.1 c.in_err-word_below-4.was (omega arith) ∙ datum_bad c.args.self (tested_next (held _ _ c.word_below.ensures c.in_ok-word_below.was (omega arith)) (tested_next (held _ _ c.word_below-2.ensures c.in_ok-word_below-2.was (omega arith)) (tested_next (held _ _ c.word_below-3.ensures c.in_ok-word_below-3.was (omega arith)) (tested_next (held _ _ c.word_below-4.ensures c.in_ok-base.was (omega arith)) (tested_bad (failed _ _ c.word_below-5.ensures c.in_err-word_below-4.was (omega arith)))))))

pub past-requires : goal.past-requires
past-requires c = omega (arith, there _ _ c.word_below-5.ensures c.in_ok-word_below-4.was, c.well_formed)

pub returns-in_err-rest : goal.returns-in_err-rest
returns-in_err-rest c = handed_on c.from_residual-in_err-rest.ensures.1 ∙ none_more 20 c.in_err-rest.was ∙ datum-whole c.args.self (held _ _ c.word_below.ensures c.in_ok-word_below.was (omega arith), (held _ _ c.word_below-2.ensures c.in_ok-word_below-2.was (omega arith), (held _ _ c.word_below-3.ensures c.in_ok-word_below-3.was (omega arith), (held _ _ c.word_below-4.ensures c.in_ok-base.was (omega arith), (held _ _ c.word_below-5.ensures c.in_ok-word_below-4.was (omega arith), tt))))) _ (word_is _ _ c.word_below-4.ensures c.in_ok-base.was (omega arith)) _ (rw c.past.ensures at c.values_and_key.ensures)

pub returns : goal.returns
returns c = more 20 c.in_ok-rest.was c.grown.ensures ∙ datum-whole c.args.self (held _ _ c.word_below.ensures c.in_ok-word_below.was (omega arith), (held _ _ c.word_below-2.ensures c.in_ok-word_below-2.was (omega arith), (held _ _ c.word_below-3.ensures c.in_ok-word_below-3.was (omega arith), (held _ _ c.word_below-4.ensures c.in_ok-base.was (omega arith), (held _ _ c.word_below-5.ensures c.in_ok-word_below-4.was (omega arith), tt))))) _ (word_is _ _ c.word_below-4.ensures c.in_ok-base.was (omega arith)) _ (rw c.past.ensures at c.values_and_key.ensures)
