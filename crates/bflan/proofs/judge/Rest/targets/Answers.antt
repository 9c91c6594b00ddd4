-- `judge::Rest::targets` meets its contract.
-- Assumes nothing.
use Rattle.std.proofs.Common.{rules, ◌∙◌}
use Rattle.bflan.specs.pai1.Judge.{target}
use Rattle.bflan.specs.pai1.Layout.{target_lay}
use Rattle.bflan.specs.inner.Measure.{measured}
use Rattle.bflan.proofs.judge.Measures.{each_measured}
use Rattle.bflan.proofs.judge.Rest.targets.Goals as goal

pub returns : goal.returns
returns c = c.times.ensures (measured target_lay (target c.args.letters)) (λ p v h. search rules) ∙ each_measured (target c.args.letters) target_lay c.args.n c.args.self
