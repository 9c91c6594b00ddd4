-- `judge::Rest::pane` meets its contract.
-- Assumes nothing.
use Rattle.std.proofs.Common.{◌+◌, get_or, ltb-true, refl, ap, sym, ◌∙◌, arith}
use Rattle.bflan.specs.Judge.{Judged, wide}
use Rattle.bflan.specs.Layout.{size}
use Rattle.bflan.specs.inner.Measure.{verdict_of}
use Rattle.bflan.specs.pai1.Layout.{section_lay}
use Rattle.bflan.specs.pai1.Record.{PaneAnimInfo}
use Rattle.bflan.proofs.judge.Measures.{fits-most, fits_holds, held, failed, there, word_is, refused_word, tested_bad, tested_next}
use Rattle.bflan.proofs.judge.JudgeParts.{pane_bad, pane_on}
use Rattle.bflan.proofs.judge.Rest.pane.Goals as goal

pub returns-in_err-word_below : goal.returns-in_err-word_below
returns-in_err-word_below c = refused_word _ _ c.word_below.ensures c.from_residual.ensures.1 c.in_err-word_below.was (omega arith) ∙ pane_bad c.args.self (tested_bad (failed _ _ c.word_below.ensures c.in_err-word_below.was (omega arith)))

pub word_below-requires-2 : goal.word_below-requires-2
word_below-requires-2 c = omega (arith, there _ _ c.word_below.ensures c.in_ok-word_below.was, c.well_formed)

pub returns-in_err-word_below-2 : goal.returns-in_err-word_below-2
returns-in_err-word_below-2 c = refused_word _ _ c.word_below-2.ensures c.from_residual-in_err-word_below-2.ensures.1 c.in_err-word_below-2.was (omega arith) ∙ pane_bad c.args.self (tested_next (held _ _ c.word_below.ensures c.in_ok-word_below.was (omega arith)) (tested_bad (sym (fits-most 1 _ _) ∙ failed _ _ c.word_below-2.ensures c.in_err-word_below-2.was (omega arith))))

pub word_below-requires-3 : goal.word_below-requires-3
word_below-requires-3 c = omega (arith, there _ _ c.word_below-2.ensures c.in_ok-word_below-2.was, c.well_formed)

pub returns-in_err-nt : goal.returns-in_err-nt
returns-in_err-nt c = refused_word _ _ c.word_below-3.ensures c.from_residual-in_err-nt.ensures.1 c.in_err-nt.was (omega arith) ∙ pane_bad c.args.self (tested_next (held _ _ c.word_below.ensures c.in_ok-word_below.was (omega arith)) (tested_next (sym (fits-most 1 _ _) ∙ held _ _ c.word_below-2.ensures c.in_ok-word_below-2.was (omega arith)) (tested_bad (failed _ _ c.word_below-3.ensures c.in_err-nt.was (omega arith)))))

pub word_below-requires-4 : goal.word_below-requires-4
word_below-requires-4 c = omega (arith, there _ _ c.word_below-3.ensures c.in_ok-nt.was, c.well_formed)

pub returns-in_err-nc : goal.returns-in_err-nc
returns-in_err-nc c = refused_word _ _ c.word_below-4.ensures c.from_residual-in_err-nc.ensures.1 c.in_err-nc.was (omega arith) ∙ pane_bad c.args.self (tested_next (held _ _ c.word_below.ensures c.in_ok-word_below.was (omega arith)) (tested_next (sym (fits-most 1 _ _) ∙ held _ _ c.word_below-2.ensures c.in_ok-word_below-2.was (omega arith)) (tested_next (held _ _ c.word_below-3.ensures c.in_ok-nt.was (omega arith)) (tested_bad (failed _ _ c.word_below-4.ensures c.in_err-nc.was (omega arith))))))

pub past-requires : goal.past-requires
past-requires c = omega (arith, there _ _ c.word_below-4.ensures c.in_ok-nc.was, c.well_formed)

pub headed-requires : goal.headed-requires
headed-requires c = (omega (arith, ltb-true _ _ (fits_holds (wide 2) _ _ (held _ _ c.word_below-3.ensures c.in_ok-nt.was refl)), (word_is _ _ c.word_below-3.ensures c.in_ok-nt.was refl)), omega (arith, ltb-true _ _ (fits_holds (wide 2) _ _ (held _ _ c.word_below-4.ensures c.in_ok-nc.was refl)), (word_is _ _ c.word_below-4.ensures c.in_ok-nc.was refl)))

pub returns : goal.returns
returns c =
    (rw c.past.ensures at (c.headed.ensures (get_or c.args.self.words.now c.args.self.at.word 0) (get_or c.args.self.words.now (c.args.self.at.word + 1) 0)))
    ∙ ap (λ (r : Judged PaneAnimInfo). verdict_of (λ (a : PaneAnimInfo). size (section_lay a)) r) (pane_on c.args.self _ _ (word_is _ _ c.word_below-3.ensures c.in_ok-nt.was (omega arith)) (word_is _ _ c.word_below-4.ensures c.in_ok-nc.was (omega arith)) (held _ _ c.word_below.ensures c.in_ok-word_below.was (omega arith), (sym (fits-most 1 _ _) ∙ held _ _ c.word_below-2.ensures c.in_ok-word_below-2.was (omega arith), (held _ _ c.word_below-3.ensures c.in_ok-nt.was (omega arith), (held _ _ c.word_below-4.ensures c.in_ok-nc.was (omega arith), tt)))))
