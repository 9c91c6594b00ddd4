-- `judge::judge_section` meets its contract.
-- Assumes nothing.
use Rattle.std.proofs.Common.{sym, ◌∙◌}
use Rattle.bflan.specs.Judge.{whole}
use Rattle.bflan.specs.Layout.{size}
use Rattle.bflan.specs.pai1.Judge.{pane, section}
use Rattle.bflan.specs.pai1.Layout.{section_lay}
use Rattle.bflan.specs.pai1.Record.{PaneAnimInfo}
use Rattle.bflan.proofs.judge.Measures.{refused_first, handed_on, more, none_more}
use Rattle.bflan.proofs.judge.JudgeParts.{whole-fine}
use Rattle.bflan.proofs.judge.judge_section.Goals as goal

pub returns-in_err-info : goal.returns-in_err-info
unfolding section whole
returns-in_err-info c = handed_on c.from_residual.ensures.1 ∙ refused_first _ _ _ _ _ _ (sym c.pane.ensures ∙ c.in_err-info.was)

pub returns-in_err-end : goal.returns-in_err-end
unfolding section
returns-in_err-end c = handed_on c.from_residual-in_err-end.ensures.1 ∙ none_more _ c.in_err-end.was ∙ whole-fine (λ (a : PaneAnimInfo). size (section_lay a)) pane (record { words = c.args.words; texts = c.args.texts; at = record { word = 0; byte = 0 } }) _ _ (sym c.pane.ensures ∙ c.in_ok-info.was) (rw c.behind.ensures at c.ends.ensures)

pub returns : goal.returns
unfolding section
returns c = more _ c.in_ok-end.was c.grown.ensures ∙ whole-fine (λ (a : PaneAnimInfo). size (section_lay a)) pane (record { words = c.args.words; texts = c.args.texts; at = record { word = 0; byte = 0 } }) _ _ (sym c.pane.ensures ∙ c.in_ok-info.was) (rw c.behind.ensures at c.ends.ensures)
