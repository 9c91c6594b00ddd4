-- `judge::Rest::target` meets its contract.
-- Assumes nothing.
use Rattle.std.proofs.Common.{ltb-true, refl, ap, ◌∙◌, arith}
use Rattle.bflan.specs.Judge.{wide}
use Rattle.bflan.specs.inner.Measure.{numbered}
use Rattle.bflan.proofs.judge.Measures.{fits_holds, held, failed, there, word_is, refused_word, handed_on, more, none_more, tested_bad, tested_next}
use Rattle.bflan.proofs.judge.JudgeParts.{target_bad, target-whole}
use Rattle.bflan.proofs.judge.Rest.target.Goals as goal

pub returns-in_err-word_below : goal.returns-in_err-word_below
returns-in_err-word_below c = refused_word _ _ c.word_below.ensures c.from_residual.ensures.1 c.in_err-word_below.was (omega arith) ∙ target_bad c.args.letters c.args.self (tested_bad (failed _ _ c.word_below.ensures c.in_err-word_below.was (omega arith)))

pub past-requires : goal.past-requires
past-requires c = omega (arith, there _ _ c.word_below.ensures c.in_ok-word_below.was, c.well_formed)

pub returns-in_err-target_at : goal.returns-in_err-target_at
returns-in_err-target_at c = refused_word _ _ (rw c.past.ensures at c.target_at.ensures) c.from_residual-in_err-target_at.ensures.1 c.in_err-target_at.was (omega arith) ∙ target_bad c.args.letters c.args.self (tested_next (held _ _ c.word_below.ensures c.in_ok-word_below.was (omega arith)) (tested_bad (failed _ _ (rw c.past.ensures at c.target_at.ensures) c.in_err-target_at.was (omega arith))))

pub past-requires-2 : goal.past-requires-2
past-requires-2 c = omega (arith, there _ _ (rw c.past.ensures at c.target_at.ensures) c.in_ok-target_at.was, c.well_formed)

pub returns-in_err-curve : goal.returns-in_err-curve
returns-in_err-curve c = refused_word _ _ (rw c.past-2.ensures at c.curve_at.ensures) c.from_residual-in_err-curve.ensures.1 (ap numbered c.in_err-curve.was) (omega arith) ∙ target_bad c.args.letters c.args.self (tested_next (held _ _ c.word_below.ensures c.in_ok-word_below.was (omega arith)) (tested_next (held _ _ (rw c.past.ensures at c.target_at.ensures) c.in_ok-target_at.was (omega arith)) (tested_bad (failed _ _ (rw c.past-2.ensures at c.curve_at.ensures) (ap numbered c.in_err-curve.was) (omega arith)))))

pub word_below-requires-2 : goal.word_below-requires-2
word_below-requires-2 c = omega (arith, there _ _ (rw c.past-2.ensures at c.curve_at.ensures) (ap numbered c.in_ok-curve.was), c.well_formed)

pub returns-in_err-n : goal.returns-in_err-n
returns-in_err-n c = refused_word _ _ c.word_below-2.ensures c.from_residual-in_err-n.ensures.1 c.in_err-n.was (omega arith) ∙ target_bad c.args.letters c.args.self (tested_next (held _ _ c.word_below.ensures c.in_ok-word_below.was (omega arith)) (tested_next (held _ _ (rw c.past.ensures at c.target_at.ensures) c.in_ok-target_at.was (omega arith)) (tested_next (held _ _ (rw c.past-2.ensures at c.curve_at.ensures) (ap numbered c.in_ok-curve.was) (omega arith)) (tested_bad (failed _ _ c.word_below-2.ensures c.in_err-n.was (omega arith))))))

pub past-requires-3 : goal.past-requires-3
past-requires-3 c = omega (arith, there _ _ c.word_below-2.ensures c.in_ok-n.was, c.well_formed)

pub keys-requires : goal.keys-requires
keys-requires c = omega (arith, ltb-true _ _ (fits_holds (wide 2) _ _ (held _ _ c.word_below-2.ensures c.in_ok-n.was refl)), (word_is _ _ c.word_below-2.ensures c.in_ok-n.was refl))

pub returns-in_err-rest : goal.returns-in_err-rest
returns-in_err-rest c = handed_on c.from_residual-in_err-rest.ensures.1 ∙ none_more 12 c.in_err-rest.was ∙ target-whole c.args.letters c.args.self (held _ _ c.word_below.ensures c.in_ok-word_below.was (omega arith), (held _ _ (rw c.past.ensures at c.target_at.ensures) c.in_ok-target_at.was (omega arith), (held _ _ (rw c.past-2.ensures at c.curve_at.ensures) (ap numbered c.in_ok-curve.was) (omega arith), (held _ _ c.word_below-2.ensures c.in_ok-n.was (omega arith), tt)))) _ _ (word_is _ _ (rw c.past-2.ensures at c.curve_at.ensures) (ap numbered c.in_ok-curve.was) (omega arith)) (word_is _ _ c.word_below-2.ensures c.in_ok-n.was (omega arith)) _ (rw c.past-3.ensures at (c.keys.ensures c.args.self.texts.now))

pub returns : goal.returns
returns c = more 12 c.in_ok-rest.was c.grown.ensures ∙ target-whole c.args.letters c.args.self (held _ _ c.word_below.ensures c.in_ok-word_below.was (omega arith), (held _ _ (rw c.past.ensures at c.target_at.ensures) c.in_ok-target_at.was (omega arith), (held _ _ (rw c.past-2.ensures at c.curve_at.ensures) (ap numbered c.in_ok-curve.was) (omega arith), (held _ _ c.word_below-2.ensures c.in_ok-n.was (omega arith), tt)))) _ _ (word_is _ _ (rw c.past-2.ensures at c.curve_at.ensures) (ap numbered c.in_ok-curve.was) (omega arith)) (word_is _ _ c.word_below-2.ensures c.in_ok-n.was (omega arith)) _ (rw c.past-3.ensures at (c.keys.ensures c.args.self.texts.now))
