-- `judge::Rest::data` meets its contract.
-- Assumes nothing.
use Rattle.std.proofs.Common.{rules, ◌∙◌}
use Rattle.bflan.specs.pai1.Judge.{datum}
use Rattle.bflan.specs.pai1.Layout.{datum_lay}
use Rattle.bflan.specs.inner.Measure.{measured}
use Rattle.bflan.proofs.judge.Measures.{each_measured}
use Rattle.bflan.proofs.judge.Rest.data.Goals as goal

pub returns : goal.returns
returns c = c.times.ensures (measured datum_lay datum) (λ p v h. search rules) ∙ each_measured datum datum_lay c.args.n c.args.self
