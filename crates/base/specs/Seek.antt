-- A seek (document 01, 'Bytes and text').
use Rattle.std.specs.Prelude.{nat_le, Result, Ok, Err}
use Rattle.std.specs.Prelude.{ℕ, ◌-◌, List, length}
use Rattle.base.specs.Choice.{pick}
use Rattle.base.specs.Number.{past_end}
use Rattle.base.specs.declared.error.PastEnd.{PastEnd}

-- to the length of s it succeeds; beyond it, the length and the excess
unfoldable pub seek_of : List ℕ → ℕ → Result ℕ PastEnd
seek_of s to = pick (nat_le to (length s)) (Ok to) (Err (past_end (length s) (to - length s)))
