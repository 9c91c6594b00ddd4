-- `judge::Rest::textures` meets its contract.
-- Assumes nothing.
use Rattle.std.proofs.Common.{rules, ◌∙◌}
use Rattle.bflan.specs.Judge.{next_text, wide}
use Rattle.bflan.specs.Layout.{ended}
use Rattle.bflan.specs.inner.Measure.{measured}
use Rattle.bflan.proofs.judge.Measures.{each_measured}
use Rattle.bflan.proofs.judge.Rest.textures.Goals as goal

pub returns : goal.returns
returns c = c.times.ensures (measured ended (next_text (wide 4))) (λ p v h. search rules) ∙ each_measured (next_text (wide 4)) ended c.args.n c.args.self
