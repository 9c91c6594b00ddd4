-- Where a row of numbers is cut by the section's end: the read that is refused (document 01, 'Bytes and text').
use Rattle.std.specs.Prelude.{Result, Ok, Err, ℕ, ◌+◌, List, [], ◌∷◌, eqb, leb, length}
use Rattle.base.specs.Choice.{pick}
use Rattle.base.specs.Seek.{seek_of}
use Rattle.base.specs.declared.error.PastEnd.{PastEnd as Past}
use Rattle.bflan.specs.declared.fault.Fault.{Fault}
use Rattle.bflan.specs.declared.fault.Fault.TheVariants.{PastEnd}
use Rattle.bflan.specs.Reader.{past_fault}

-- the width of a number that a byte says: 1, 2, and 4 for any other
unfoldable pub width_of : ℕ → ℕ
width_of k = pick (eqb k 1) 1 (pick (eqb k 2) 2 4)

-- the first of these numbers, which stand at i, that is not there; if all are, a read of no bytes behind them
unfoldable pub cut_in : List ℕ → List ℕ → ℕ → Fault
cut_in [] s i = PastEnd i 0
cut_in (k ∷ ks) s i = pick (leb (i + k) (length s)) (cut_in ks s (i + k)) (PastEnd i k)

-- the same where their place is sought before
abbrev pub cut_at : List ℕ → List ℕ → Result ℕ Past → Fault
cut_at ks s (Ok p) = cut_in ks s p
cut_at ks s (Err e) = past_fault e

unfoldable pub sought_cut : List ℕ → List ℕ → ℕ → Fault
sought_cut ks s base = cut_at ks s (seek_of s base)
