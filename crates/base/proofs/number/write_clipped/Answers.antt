use mathlib.Core.Path.{◌∙◌}
use native.Mathlib.Omega.{arith}
use lib.ListN.{length-set}
use Rattle.base.proofs.Numbers.{put_turn}
use Rattle.base.proofs.number.write_clipped.Goals as goal

pub loop-i-preserved : goal.loop-i-preserved
loop-i-preserved c =
    let a = c.args in
    let l = c.loop-i in
    (simp length-set l.invariant.0, rw c.to_le_bytes.ensures (put_turn a.k l.out a.at l.i l.w (omega arith) ∙ l.invariant.1))
