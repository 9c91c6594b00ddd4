-- `journal::filled` meets its contract.
-- Assumes nothing.
use native.Mathlib.Omega.{arith}
use Rattle.edit.proofs.Calls.{filled_1, filled_2, filled_4, filled_6}
use Rattle.edit.proofs.journal.filled.Goals as goal

pub returns-in-1 : goal.returns-in-1
returns-in-1 c = filled_1 c.args.p (omega arith) (omega arith) (omega arith) _ c.in-1.is

pub returns-in-2 : goal.returns-in-2
returns-in-2 c = filled_2 c.args.p (omega arith) (omega arith) (omega arith) _ c.in-2.is

pub returns-in-4 : goal.returns-in-4
returns-in-4 c = filled_4 c.args.p (omega arith) (omega arith) (omega arith) _ c.in-4.is

pub returns-in-6 : goal.returns-in-6
returns-in-6 c = filled_6 c.args.p (omega arith) (omega arith) (omega arith) _ c.in-6.is
