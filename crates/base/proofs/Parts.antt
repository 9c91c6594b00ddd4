-- What a part of a list is, and where it lies. Assumes nothing.
use mathlib.Core.Path.{◌≡◌}
use mathlib.Core.List.{List, [], ◌∷◌}
use Prim.Native.Nat.{ℕ, zero, suc, ◌+◌, ◌-◌, ◌<◌, ◌≤◌}
use native.Mathlib.Nat.{zero-add, suc-add}
use native.Mathlib.Omega.{arith}
use borrow.Author.Tests.{le-leb, lt-leb}
use denote.Ref.{Bor}
use lib.ListN.{length, take, drop}
use lib.Seq.{slice, take-nil, take_all}
use Rattle.base.specs.Part.{part_of, part_ptr}

-- n places from i on are those from i to i + n
pub take-drop : (n i : ℕ) (s : List ℕ) → take n (drop i s) ≡ slice i (i + n) s
take-drop n zero s = rw zero-add
take-drop n (suc i) [] = simp take-nil
take-drop n (suc i) (x ∷ s) = rw suc-add (take-drop n i s)

-- the part that is all of a list
pub part_all : (s : List ℕ) → take (length s - 0) (drop 0 s) ≡ s
part_all s = take_all (length s - 0) s (omega arith)

pub part_there : (s : List ℕ) (start len : ℕ) → start + len ≤ length s → part_of s start len ≡ slice start (start + len) s
unfolding part_of
part_there s start len h = rw (le-leb (start + len) (length s) h) (take-drop len start s)

pub part_over : (s : List ℕ) (start len : ℕ) → length s < start + len → part_of s start len ≡ []
unfolding part_of
part_over s start len h = rw (lt-leb (start + len) (length s) h)

pub ptr_there : (s : Bor (List ℕ)) (start len : ℕ) → start + len ≤ length s.now → part_ptr s start len ≡ (s.ref_ptr.0, start + s.ref_ptr.1)
unfolding part_ptr
ptr_there s start len h = rw (le-leb (start + len) (length s.now) h)

pub ptr_over : (s : Bor (List ℕ)) (start len : ℕ) → length s.now < start + len → part_ptr s start len ≡ s.ref_ptr
unfolding part_ptr
ptr_over s start len h = rw (lt-leb (start + len) (length s.now) h)
