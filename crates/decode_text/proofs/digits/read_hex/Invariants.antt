-- The measure is what is left of the line.
use Rattle.std.proofs.Common.{length}
use Rattle.decode_text.proofs.digits.read_hex.Given as goal

abbrev pub decreases-loop-rest : goal.decreases-loop-rest
decreases-loop-rest g l = length l.rest
