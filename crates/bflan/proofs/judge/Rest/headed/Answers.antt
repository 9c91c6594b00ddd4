-- `judge::Rest::headed` meets its contract.
-- Assumes nothing.
use Rattle.std.proofs.Common.{sym, ◌∙◌, refl}
use Rattle.bflan.specs.inner.JudgeParts.{after_head}
use Rattle.bflan.proofs.judge.Measures.{refused_first, handed_on, more, none_more}
use Rattle.bflan.proofs.judge.JudgeParts.{headed_fine}
use Rattle.bflan.proofs.judge.Rest.headed.Goals as goal

pub returns-in_err-names : goal.returns-in_err-names
unfolding after_head
returns-in_err-names c = λ frames looping. handed_on c.from_residual.ensures.1 ∙ refused_first _ _ _ _ _ _ (sym c.textures.ensures ∙ c.in_err-names.was)

pub returns-in_err-rest : goal.returns-in_err-rest
returns-in_err-rest c = λ frames looping. handed_on c.from_residual-in_err-rest.ensures.1 ∙ none_more _ c.in_err-rest.was ∙ headed_fine frames looping c.args.nt c.args.nc c.args.self _ _ _ _ (sym c.textures.ensures ∙ c.in_ok-names.was) c.table_behind-table.ensures refl (rw c.behind.ensures at c.contents.ensures)

pub returns : goal.returns
returns c = λ frames looping. more _ c.in_ok-rest.was c.grown.ensures ∙ headed_fine frames looping c.args.nt c.args.nc c.args.self _ _ _ _ (sym c.textures.ensures ∙ c.in_ok-names.was) c.table_behind-table.ensures c.saturating_add.ensures (rw c.behind.ensures at c.contents.ensures)
