-- `section::parts` meets its contract.
-- Assumes nothing.
use mathlib.Core.Path.{refl, ◌∙◌}
use native.Mathlib.Omega.{arith}
use Rattle.bflan.specs.inner.SectionParts.{contents_and_size}
use Rattle.bflan.proofs.reader.SectionParts.{parts_is}
use Rattle.bflan.proofs.reader.Walks.{turn_on}
use Rattle.bflan.proofs.reader.section.parts.Goals as goal

pub returns : goal.returns
returns c =
    rw (parts_is c.args.s.bytes.now c.args.size c.args.table c.args.nc _ c.args.p)
    (c.ending.ensures _ ∙ turn_on c.args.s.bytes.now c.args.into.now _ _ (λ q. contents_and_size c.args.size c.args.table c.args.nc c.args.s.bytes.now q) (omega arith, omega arith) c.in_ok-_q.ensures refl)
