use mathlib.Core.Path.{◌≡◌, sym, ◌∙◌}
use Prim.Native.Nat.{ℕ, ◌<◌}
use native.Mathlib.Omega.{arith}
use lib.ListN.{length, get_or, replicate, length-set, length-replicate, get_or-replicate}
use Rattle.base.proofs.Filling.{fill_turn, fill_end}
use Rattle.base.proofs.fill.zeros.Goals as goal

pub loop-i-preserved : goal.loop-i-preserved
loop-i-preserved c =
    let a = c.args in
    let l = c.loop-i in
    let h : l.i < a.n = omega arith in
    let k : l.i < length (replicate {A = ℕ} a.n 0) = rw length-replicate h in
    let e : get_or (replicate {A = ℕ} a.n 0) l.i 0 ≡ 0 = get_or-replicate a.n l.i 0 0 h in (
      simp length-set l.invariant.0,
      (rw e at (fill_turn l.out a.at l.i (replicate a.n 0) k)) ∙ l.invariant.1,
    )

pub returns : goal.returns
returns c =
    let a = c.args in
    let l = c.loop-i in
    let e = length-replicate {A = ℕ} a.n 0 in
    sym (fill_end l.out a.at l.i (replicate a.n 0) (omega arith)) ∙ l.invariant.1
