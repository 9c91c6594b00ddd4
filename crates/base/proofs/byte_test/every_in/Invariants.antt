-- `byte_test::every_in` meets its contract. The loop's invariant: the test of the bytes passed and that of those left are the test of all.
-- Assumes nothing.
use Rattle.std.proofs.Common.{◌≡◌, ◌+◌, ◌-◌, ◌&&◌, take, drop}
use Rattle.base.specs.Text.{every}
use Rattle.base.proofs.byte_test.every_in.Given as goal

abbrev pub invariant-loop-k : goal.invariant-loop-k
invariant-loop-k g l = l.all && every g.T.ByteTest.passed (take (l.n - l.k) (drop (l.at + l.k) l.s)) ≡ every g.T.ByteTest.passed (take l.n (drop l.at l.s))
