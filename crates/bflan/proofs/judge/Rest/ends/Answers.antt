-- `judge::Rest::ends` meets its contract.
-- Assumes nothing.
use Rattle.bflan.proofs.judge.JudgeParts.{ends-word, ends-text, ends-fine}
use Rattle.bflan.proofs.judge.Rest.ends.Goals as goal

pub returns-then-self : goal.returns-then-self
returns-then-self c = ends-word c.args.self c.if-self.true

pub returns-then-self-2 : goal.returns-then-self-2
returns-then-self-2 c = ends-text c.args.self c.if-self.false c.if-self-2.true

pub returns : goal.returns
returns c = ends-fine c.args.self c.if-self.false c.if-self-2.false
