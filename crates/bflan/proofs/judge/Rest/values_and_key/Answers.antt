-- `judge::Rest::values_and_key` meets its contract.
-- Assumes nothing.
use Rattle.std.proofs.Common.{sym, ◌∙◌}
use Rattle.bflan.specs.inner.JudgeParts.{values_and_key}
use Rattle.bflan.proofs.judge.Measures.{refused_first, handed_on, more, none_more}
use Rattle.bflan.proofs.judge.JudgeParts.{behind-fine}
use Rattle.bflan.proofs.judge.Rest.values_and_key.Goals as goal

pub returns-in_err-values : goal.returns-in_err-values
unfolding values_and_key
returns-in_err-values c = handed_on c.from_residual.ensures.1 ∙ refused_first _ _ _ _ _ _ (sym (c.run.ensures c.args.self.texts.now) ∙ c.in_err-values.was)

pub returns-in_err-key : goal.returns-in_err-key
returns-in_err-key c = handed_on c.from_residual-in_err-key.ensures.1 ∙ none_more c.in_ok-values.values.size c.in_err-key.was ∙ behind-fine c.args.n c.args.self _ _ (sym (c.run.ensures c.args.self.texts.now) ∙ c.in_ok-values.was) (rw c.behind.ensures at c.ended.ensures)

pub returns : goal.returns
returns c = more c.in_ok-values.values.size c.in_ok-key.was c.grown.ensures ∙ behind-fine c.args.n c.args.self _ _ (sym (c.run.ensures c.args.self.texts.now) ∙ c.in_ok-values.was) (rw c.behind.ensures at c.ended.ensures)
