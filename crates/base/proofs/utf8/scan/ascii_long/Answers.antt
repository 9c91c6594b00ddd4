use mathlib.Core.Path.{◌≡◌, sym, ◌∙◌}
use mathlib.Core.Bool.{true}
use native.Mathlib.Omega.{arith}
use Rattle.base.specs.Text.{ascii}
use Rattle.base.proofs.Tests.{bytes_on, every_in, every_fails, every_last}
use Rattle.base.proofs.utf8.scan.ascii_long.Goals as goal

pub loop-i-preserved : goal.loop-i-preserved
loop-i-preserved c = (omega arith, bytes_on (λ x. ascii x ≡ true) c.args.s.now _ 64 c.loop-i.invariant.1 (every_in ascii c.args.s.now c.loop-i.i 64 (omega arith) (sym c.every_in.ensures ∙ c.if-every_in.true)))

pub returns-else-every_in : goal.returns-else-every_in
returns-else-every_in c = every_fails ascii _ c.loop-i.i 64 (omega arith) (sym c.every_in.ensures ∙ c.if-every_in.false)

pub returns : goal.returns
returns c = every_last ascii c.args.s.now c.loop-i.i 64 _ c.requires (omega arith) c.loop-i.invariant.1 c.every_in-2.ensures
