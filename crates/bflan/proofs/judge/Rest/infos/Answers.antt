-- `judge::Rest::infos` meets its contract.
-- Assumes nothing.
use Rattle.std.proofs.Common.{rules, ◌∙◌}
use Rattle.bflan.specs.pai1.Judge.{info}
use Rattle.bflan.specs.pai1.Layout.{info_lay}
use Rattle.bflan.specs.inner.Measure.{measured}
use Rattle.bflan.proofs.judge.Measures.{each_measured}
use Rattle.bflan.proofs.judge.Rest.infos.Goals as goal

pub returns : goal.returns
returns c = c.times.ensures (measured info_lay info) (λ p v h. search rules) ∙ each_measured info info_lay c.args.n c.args.self
