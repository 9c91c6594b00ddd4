-- An automaton that checks whole runs of bytes against Table 3-7, byte by byte. Only the fast scan uses it: what it says of a text is proved
-- to be what `specs/Utf8.antt` says.
use Rattle.std.specs.Prelude.{◌==◌, slice_index, slice_index_or}
use Rattle.std.specs.Prelude.{ℕ, ◌*◌, ◌/◌, ◌%◌, ◌^◌, ◌≤◌, ◌<◌, ◌≡◌, Bool, false, List, [], ◌∷◌, length}
use Rattle.std.proofs.Math.Seq.{slice}
use Rattle.base.specs.Choice.{pick}
use Rattle.base.specs.Utf8.{Range, range, tail, within, class_of, byte_class}

-- State 0 stands between two characters, state 1 behind a byte that fits nowhere; in each other state these bytes are still to come
abbrev pub awaited : List (List Range)
awaited =
    []
    ∷ []
    ∷ (tail ∷ [])
    ∷ (tail ∷ tail ∷ [])
    ∷ (range 0xA0 0xBF ∷ tail ∷ [])
    ∷ (range 0x80 0x9F ∷ tail ∷ [])
    ∷ (range 0x90 0xBF ∷ tail ∷ tail ∷ [])
    ∷ (tail ∷ tail ∷ tail ∷ [])
    ∷ (range 0x80 0x8F ∷ tail ∷ tail ∷ [])
    ∷ []

abbrev pub awaits : ℕ → List Range
awaits q = slice_index_or awaited q []

-- the state behind a first byte, by its class
abbrev pub entered : List ℕ
entered = 1 ∷ 0 ∷ 2 ∷ 4 ∷ 3 ∷ 5 ∷ 3 ∷ 6 ∷ 7 ∷ 8 ∷ []

-- the state behind a later byte that fits, by the state before it
abbrev pub passed : List ℕ
passed = 1 ∷ 1 ∷ 0 ∷ 2 ∷ 2 ∷ 2 ∷ 3 ∷ 3 ∷ 3 ∷ []

abbrev pub first_fits : List Range → ℕ → Bool
first_fits [] x = false
first_fits (r ∷ rs) x = within r x

-- the state behind a byte
unfoldable pub state_after : ℕ → ℕ → ℕ
state_after q x = pick (q == 0) (slice_index_or entered (class_of x) 1) (pick (first_fits (awaits q) x) (slice_index_or passed q 1) 1)

-- the bytes lead from a state to one between two characters
unfoldable pub flows : ℕ → List ℕ → Bool
flows q [] = q == 0
flows q (x ∷ xs) = flows (state_after q x) xs

-- ---- the automaton in the code

-- a state is held as six times its number, in the lowest six bits, so that it is a shift
unfoldable pub state_of : ℕ → ℕ
state_of q = q % 64 / 6

pub record State (q : ℕ) : Type 0 where
  pub whole : 6 * state_of q ≡ q % 64
  pub small : state_of q < 9

-- what the rows of the code hold: by the class of a byte the states behind it, six bits for each state before it
pub record Rows (r : List ℕ) : Type 0 where
  pub entry : (x q : ℕ) → x < 256 → q < 9 → (slice_index r (byte_class x) / 2 ^ (6 * q) % 64 ≡ 6 * state_after q x) × (state_after q x < 9)

-- from state p at i the automaton comes to state q at j
pub record Flow (s : List ℕ) (i p j q : ℕ) : Type 0 where
  pub held : State q
  pub start : i ≤ j
  pub fits : j ≤ length s
  pub same : (e : ℕ) → j ≤ e → e ≤ length s → flows (state_of q) (slice j e s) ≡ flows (state_of p) (slice i e s)
