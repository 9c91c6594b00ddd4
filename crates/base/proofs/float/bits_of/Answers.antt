-- `float::bits_of` meets its contract: only a NaN differs from itself.
-- Assumes nothing.
use mathlib.Core.Path.{sym, ◌∙◌}
use lib.Ieee as Ieee
use lib.Ieee.{to_bits}
use Rattle.base.proofs.Floats.{only_nan}
use Rattle.base.proofs.float.bits_of.Goals as goal

pub returns-then-is_nan : goal.returns-then-is_nan
unfolding Ieee.to_bits
returns-then-is_nan c = rw (only_nan _ (sym c.is_nan.ensures.value ∙ c.if-is_nan.true))
