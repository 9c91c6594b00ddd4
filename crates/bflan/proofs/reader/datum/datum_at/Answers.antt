-- `datum::datum_at` meets its contract.
-- Assumes nothing.
use mathlib.Core.Path.{sym, ◌∙◌}
use native.Mathlib.Omega.{arith}
use Rattle.bflan.proofs.reader.Walks.{walk_behind}
use Rattle.bflan.proofs.reader.DatumParts.{datum_on}
use Rattle.bflan.proofs.reader.datum.datum_at.Goals as goal

pub returns : goal.returns
returns c =
    let s = c.args.s.bytes.now in
    c.values_and_key.ensures ∙ walk_behind s c.args.into.now _ _ (omega arith, omega arith) (c.put_head.ensures s) (sym (datum_on s c.args.p _ _ c.in_ok-h.ensures))
