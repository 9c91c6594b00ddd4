-- `judge::run::keys` meets its contract: an arm for each curve.
-- Assumes nothing.
use mathlib.Core.Path.{◌∙◌}
use Rattle.bflan.proofs.judge.JudgeParts.{keys_constant, keys_hermite}
use Rattle.bflan.proofs.judge.run.keys.Goals as goal

pub returns-in-Constant : goal.returns-in-Constant
returns-in-Constant c = λ x. rw c.in-Constant.is (c.run.ensures x ∙ keys_constant c.args.words.now (λ k. (c.type_inv.words k).fits) x c.args.at.word c.args.at.byte c.args.n)

pub returns-in-Hermite : goal.returns-in-Hermite
returns-in-Hermite c = λ x. rw c.in-Hermite.is (c.run-in-Hermite.ensures x ∙ keys_hermite c.args.words.now (λ k. (c.type_inv.words k).fits) x c.args.at.word c.args.at.byte c.args.n)
