-- A run of Hermite keys copied as numbers is the bits of the keys that are read there, one after another (document 01, 'Form by location':
-- a Hermite key is read from bytes with its bits unchanged).
-- Assumes nothing.
use Rattle.std.specs.Prelude.{Result, Ok, Err}
use Rattle.base.specs.declared.error.PastEnd.{PastEnd}
use Rattle.base.specs.declared.float.Hermite.{Hermite}
use Prim.Native.Nat.{ℕ, zero, suc, ◌+◌, ◌*◌, ◌≤◌}
use mathlib.Core.Path.{◌≡◌, refl, ap, ◌∙◌}
use mathlib.Core.List.{List, [], ◌∷◌, ◌++◌}
use native.Mathlib.Omega.{arith}
use lib.ListN.{length}
use Rattle.base.specs.Float.{patterns_of, patterns_at, read_hermite_of}
use Rattle.base.specs.Number.{get}
use Rattle.base.specs.Run.{numbers_at}
use Rattle.base.specs.declared.float.HermiteBits.{HermiteBits}
use Rattle.base.proofs.Floats.{hermite_there, patterns_back, patterns_lt}
use Rattle.base.proofs.Numbers.{Bytes}

-- the patterns of a key
abbrev pub bits_of : HermiteBits → List ℕ
bits_of b = b.0 ∷ b.1 ∷ b.2 ∷ []

-- those of the key that a read gave
unfoldable pub bits_read : Result (Hermite × ℕ) PastEnd → List ℕ
bits_read (Ok (h, next)) = bits_of (patterns_of h)
bits_read (Err e) = []

-- n keys, each read as a Hermite key
unfoldable pub hermites_at : ℕ → List ℕ → ℕ → List ℕ
hermites_at zero s at = []
hermites_at (suc n) s at = bits_read (read_hermite_of s at) ++ hermites_at n s (at + 12)

-- one of them
bits_there : (s : List ℕ) (at : ℕ) → Bytes s → at + 12 ≤ length s → bits_read (read_hermite_of s at) ≡ get 4 s at ∷ get 4 s (at + 4) ∷ get 4 s (at + 8) ∷ []
unfolding bits_read patterns_at
bits_there s at h l = ap bits_read (hermite_there s at l) ∙ ap bits_of (patterns_back (patterns_at s at) (patterns_lt s at h))

pub run_by_keys : (n : ℕ) (s : List ℕ) (at : ℕ) → Bytes s → at + 12 * n ≤ length s → numbers_at (3 * n) s at ≡ hermites_at n s at
unfolding numbers_at hermites_at
run_by_keys zero s at h l = refl
run_by_keys (suc n) s at h l =
    let e : 3 * suc n ≡ suc (suc (suc (3 * n))) = omega arith in
    let third : at + 4 + 4 ≡ at + 8 = omega arith in
    let next : at + 8 + 4 ≡ at + 12 = omega arith in
    let i : numbers_at (3 * n) s (at + 12) ≡ hermites_at n s (at + 12) = run_by_keys n s (at + 12) h (omega arith) in
    rw (e, third, next, bits_there s at h (omega arith), i)
