-- `judge::Rest::info` meets its contract.
-- Assumes nothing.
use Rattle.std.proofs.Common.{◌∙◌, arith}
use Rattle.base.specs.Number.{val}
use Rattle.bflan.specs.pai1.Letters.{fleu}
use Rattle.bflan.proofs.judge.Measures.{held, failed, there, word_is, refused_word, handed_on, more, none_more, tested_bad, tested_next}
use Rattle.bflan.proofs.judge.JudgeParts.{info_bad, info_data, info-targets}
use Rattle.bflan.proofs.judge.Rest.info.Goals as goal

pub returns-in_err-letters : goal.returns-in_err-letters
returns-in_err-letters c = refused_word _ _ c.letters_at.ensures c.from_residual.ensures.1 c.in_err-letters.was (omega arith) ∙ info_bad c.args.self (tested_bad (failed _ _ c.letters_at.ensures c.in_err-letters.was (omega arith)))

pub word_below-requires : goal.word_below-requires
word_below-requires c = omega (arith, there _ _ c.letters_at.ensures c.in_ok-letters.was, c.well_formed)

pub returns-in_err-n : goal.returns-in_err-n
returns-in_err-n c = refused_word _ _ c.word_below.ensures c.from_residual-in_err-n.ensures.1 c.in_err-n.was (omega arith) ∙ info_bad c.args.self (tested_next (held _ _ c.letters_at.ensures c.in_ok-letters.was (omega arith)) (tested_bad (failed _ _ c.word_below.ensures c.in_err-n.was (omega arith))))

pub past-requires : goal.past-requires
past-requires c = omega (arith, there _ _ c.word_below.ensures c.in_ok-n.was, c.well_formed)

pub returns-in_err-rest : goal.returns-in_err-rest
unfolding fleu val
returns-in_err-rest c = handed_on c.from_residual-in_err-rest.ensures.1 ∙ none_more 8 c.in_err-rest.was ∙ info_data c.args.self (held _ _ c.letters_at.ensures c.in_ok-letters.was (omega arith), (held _ _ c.word_below.ensures c.in_ok-n.was (omega arith), tt)) _ _ (word_is _ _ c.letters_at.ensures c.in_ok-letters.was (omega arith)) (word_is _ _ c.word_below.ensures c.in_ok-n.was (omega arith)) _ c.if-letters-eq-FLEU.true (rw c.past.ensures at c.data.ensures)

pub returns-then-letters-eq-FLEU : goal.returns-then-letters-eq-FLEU
unfolding fleu val
returns-then-letters-eq-FLEU c = more 8 c.in_ok-rest.was c.grown.ensures ∙ info_data c.args.self (held _ _ c.letters_at.ensures c.in_ok-letters.was (omega arith), (held _ _ c.word_below.ensures c.in_ok-n.was (omega arith), tt)) _ _ (word_is _ _ c.letters_at.ensures c.in_ok-letters.was (omega arith)) (word_is _ _ c.word_below.ensures c.in_ok-n.was (omega arith)) _ c.if-letters-eq-FLEU.true (rw c.past.ensures at c.data.ensures)

pub past-requires-2 : goal.past-requires-2
past-requires-2 c = omega (arith, there _ _ c.word_below.ensures c.in_ok-n.was, c.well_formed)

pub returns-in_err-rest-2 : goal.returns-in_err-rest-2
unfolding fleu val
returns-in_err-rest-2 c = handed_on c.from_residual-in_err-rest-2.ensures.1 ∙ none_more _ c.in_err-rest-2.was ∙ info-targets c.args.self (held _ _ c.letters_at.ensures c.in_ok-letters.was (omega arith), (held _ _ c.word_below.ensures c.in_ok-n.was (omega arith), tt)) _ _ (word_is _ _ c.letters_at.ensures c.in_ok-letters.was (omega arith)) (word_is _ _ c.word_below.ensures c.in_ok-n.was (omega arith)) _ c.if-letters-eq-FLEU.false (rw c.past-2.ensures at c.targets.ensures)

pub returns : goal.returns
unfolding fleu val
returns c = more _ c.in_ok-rest-2.was c.grown-2.ensures ∙ info-targets c.args.self (held _ _ c.letters_at.ensures c.in_ok-letters.was (omega arith), (held _ _ c.word_below.ensures c.in_ok-n.was (omega arith), tt)) _ _ (word_is _ _ c.letters_at.ensures c.in_ok-letters.was (omega arith)) (word_is _ _ c.word_below.ensures c.in_ok-n.was (omega arith)) _ c.if-letters-eq-FLEU.false (rw c.past-2.ensures at c.targets.ensures)
