-- `datum::put_head` meets its contract.
-- Assumes nothing.
use native.Mathlib.Omega.{arith}
use Rattle.bflan.proofs.reader.Walks.{Small, after_both}
use Rattle.bflan.proofs.reader.datum.put_head.Goals as goal

pub returns : goal.returns
returns c = λ s.
    let t = c.args.into.now in
    let h : Small t = (omega arith, omega arith) in
    after_both s t _ _ h (after_both s t _ _ h (c.put2.ensures s) (c.put2-2.ensures s)) (c.put1.ensures s)
