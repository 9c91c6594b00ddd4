-- `judge::table_behind` meets its contract.
-- Assumes nothing.
use Prim.Native.Nat.{ℕ, ◌+◌, ◌*◌}
use mathlib.Core.Path.{◌≡◌, ap, ◌∙◌}
use native.Mathlib.Omega.{arith}
use Rattle.bflan.specs.inner.Measure.{filled_up}
use Rattle.bflan.specs.inner.Walk.{sat}
use Rattle.bflan.proofs.judge.Measures.{sat-filled}
use Rattle.bflan.proofs.judge.table_behind.Goals as goal

pub returns : goal.returns
returns c = let e : c.saturating_add.result ≡ sat (20 + (4 * c.args.n + c.args.size)) = omega (arith, c.saturating_add.ensures) in c.up_to_four.ensures ∙ ap (λ (k : ℕ). sat (filled_up k)) e ∙ sat-filled (20 + (4 * c.args.n + c.args.size))
