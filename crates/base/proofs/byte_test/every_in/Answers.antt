use Rattle.std.proofs.Common.{◌+◌, drop, arith}
use Rattle.base.proofs.Tests.{every_done}
use Rattle.base.proofs.byte_test.every_in.Goals as goal

pub returns : goal.returns
returns g c =
    let a = c.args in
    let l = c.loop-k in
    every_done g.T.ByteTest.passed (drop (a.at + l.k) a.s.now) a.n l.k l.all _ (omega arith) l.invariant
