-- `judge::Rest::content` meets its contract.
-- Assumes nothing.
use Rattle.std.proofs.Common.{sym, ◌∙◌}
use Rattle.bflan.specs.pai1.Judge.{content}
use Rattle.bflan.proofs.judge.Measures.{refused_first, handed_on}
use Rattle.bflan.proofs.judge.JudgeParts.{content-fine}
use Rattle.bflan.proofs.judge.Rest.content.Goals as goal

pub returns-in_err-name : goal.returns-in_err-name
unfolding content
returns-in_err-name c = handed_on c.from_residual.ensures.1 ∙ refused_first _ _ _ _ _ _ (sym c.name.ensures ∙ c.in_err-name.was)

pub returns : goal.returns
returns c = content-fine c.args.self _ _ (sym c.name.ensures ∙ c.in_ok-name.was) (rw c.behind.ensures at c.named.ensures)
