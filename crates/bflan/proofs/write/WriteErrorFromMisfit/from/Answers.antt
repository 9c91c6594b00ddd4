-- A misfit's `WriteError` is the one that `write_error` says.
-- Assumes nothing.
use Rattle.bflan.specs.Writing.{write_error}
use Rattle.bflan.proofs.write.WriteErrorFromMisfit.from.Goals as goal

pub returns-in-Word : goal.returns-in-Word
unfolding write_error
returns-in-Word c = rw c.in-Word.is

pub returns-in-Text : goal.returns-in-Text
unfolding write_error
returns-in-Text c = rw c.in-Text.is
