-- `judge::Rest::contents` meets its contract.
-- Assumes nothing.
use Rattle.std.proofs.Common.{rules, ◌∙◌}
use Rattle.bflan.specs.pai1.Judge.{content}
use Rattle.bflan.specs.pai1.Layout.{content_lay}
use Rattle.bflan.specs.inner.Measure.{measured}
use Rattle.bflan.proofs.judge.Measures.{each_measured}
use Rattle.bflan.proofs.judge.Rest.contents.Goals as goal

pub returns : goal.returns
returns c = c.times.ensures (measured content_lay content) (λ p v h. search rules) ∙ each_measured content content_lay c.args.n c.args.self
