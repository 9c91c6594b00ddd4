-- `judge::Rest::times` meets its contract. The loop's invariant: what is left, from here, with the bytes behind it, is the whole.
-- Assumes nothing.
use Rattle.std.proofs.Common.{◌≡◌, Result}
use Rattle.bflan.specs.declared.judge.Mark.{Mark}
use Rattle.bflan.specs.declared.judge.Misfit.{Misfit}
use Rattle.bflan.specs.declared.judge.Rest.{Rest}
use Rattle.bflan.proofs.judge.Measures.{Repeating}
use Rattle.bflan.proofs.judge.Rest.times.Given as goal

abbrev pub invariant-loop : goal.invariant-loop
invariant-loop g l = (f : Rest → Result Mark Misfit) → ((p : Rest) (v : Result Mark Misfit) → goal.F-post g l.part p v → v ≡ f p) → Repeating f l.n l.self l.counter l.mark
