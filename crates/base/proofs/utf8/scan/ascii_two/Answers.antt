-- `utf8::scan::ascii_two` meets its contract.
-- Assumes nothing.
use mathlib.Core.Path.{sym, ◌∙◌}
use native.Mathlib.Nat.{zero-add}
use native.Mathlib.Omega.{arith}
use Rattle.base.specs.Text.{ascii}
use Rattle.base.proofs.Tests.{every_in, every_fails, every_last}
use Rattle.base.proofs.utf8.scan.ascii_two.Goals as goal

pub returns-then-every_in : goal.returns-then-every_in
returns-then-every_in c = every_last ascii c.args.s.now 32 32 _ c.requires.0 c.requires.1 (λ k h. rw zero-add at (every_in ascii c.args.s.now 0 32 (omega arith) (sym c.every_in.ensures ∙ c.if-every_in.true) k h)) c.every_in-then-every_in.ensures

pub returns : goal.returns
returns c = every_fails ascii _ 0 32 (omega arith) (sym c.every_in.ensures ∙ c.if-every_in.false)
