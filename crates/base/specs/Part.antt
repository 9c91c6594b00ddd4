-- A part of a list by its start and its length, and where it lies (document 01, 'Texts on screen').
use Rattle.std.specs.Prelude.{nat_le}
use Rattle.std.specs.Prelude.{ℕ, ◌+◌, Bool, List, [], length, take, drop}
use Rattle.std.specs.Borrow.{Bor}
use Rattle.base.specs.Choice.{pick}

-- whether the len places from start on are all there
abbrev pub inside : List ℕ → ℕ → ℕ → Bool
inside s start len = nat_le (start + len) (length s)

-- those places, or none where they run past the end
unfoldable pub part_of : List ℕ → ℕ → ℕ → List ℕ
part_of s start len = pick (inside s start len) (take len (drop start s)) []

-- where they lie: the block and the byte at which they start; an empty part for those that run past the end lies at the slice's start
unfoldable pub part_ptr : Bor (List ℕ) → ℕ → ℕ → ℕ × ℕ
part_ptr s start len = pick (inside s.now start len) (s.ref_ptr.0, start + s.ref_ptr.1) s.ref_ptr
