use Rattle.std.proofs.Common.{◌+◌, ◌-◌, ◌≡◌, arith}
use Rattle.bflan.proofs.writer.Pens.{running_first, running_turn, running_end}
use Rattle.bflan.proofs.writer.Writer.put_data.Goals as goal

pub put_datum-requires : goal.put_datum-requires
put_datum-requires c = running_first c.loop.invariant (omega (arith, c.loop-test.true))

pub loop-preserved : goal.loop-preserved
loop-preserved c =
    let d : c.args.n - (c.loop.counter + 1) ≡ c.args.n - c.loop.counter - 1 = omega arith in
    rw d (running_turn c.loop.invariant (omega (arith, c.loop-test.true)) c.put_datum.ensures)

pub returns : goal.returns
returns c = running_end c.loop.invariant (omega (arith, c.loop-test.false))
