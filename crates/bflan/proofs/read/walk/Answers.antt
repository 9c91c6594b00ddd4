-- `read::walk` meets its contract.
-- Assumes nothing.
use Rattle.std.proofs.Common.{rules}
use mathlib.Core.Path.{refl}
use Rattle.bflan.proofs.reader.Walks.{handed_on}
use Rattle.bflan.proofs.read.Answers.{walk_on, walk_no}
use Rattle.bflan.proofs.read.walk.Goals as goal

pub returns-in_err-_end : goal.returns-in_err-_end
returns-in_err-_end c = rw (handed_on c.from_residual.ensures.1) (walk_no _ _ _ _ _ _ _ _ _ _ c.in_err-_end.ensures)

pub returns : goal.returns
returns c = walk_on _ _ _ _ _ _ _ _ c.fresh.ensures refl refl c.in_ok-_end.ensures (λ is e. (search rules, search rules))
