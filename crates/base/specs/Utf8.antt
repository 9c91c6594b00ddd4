-- UTF-8 as the Unicode Standard, chapter 3, has it: Table 3-7 (well-formed byte sequences), and a text cut into characters and
-- maximal ill-formed subparts (D93b), each of which is shown as one U+FFFD ('U+FFFD Substitution of Maximal Subparts') and counts as one
-- (document 02, Point 1).
use Rattle.std.specs.Prelude.{◌==◌, nat_le, slice_index}
use Rattle.std.specs.Prelude.{ℕ, zero, suc, ◌+◌, ◌<◌, min, ◌≡◌, Bool, true, false, ◌&&◌, List, [], ◌∷◌, ◌++◌, length, take}
use Rattle.base.specs.Choice.{pick}
use Rattle.base.specs.declared.utf8.step.Step.{Step}
use Rattle.base.specs.declared.utf8.step.Step.TheVariants.{Good, Bad}

-- ---- Table 3-7

pub record Range : Type 0 where
  pub lo : ℕ
  pub hi : ℕ

-- a row: what the first byte may be, and what each later one may be
pub record Row : Type 0 where
  pub first : Range
  pub later : List Range

abbrev pub range : ℕ → ℕ → Range
range a b = record { lo = a; hi = b }

abbrev pub row : ℕ → ℕ → List Range → Row
row a b rs = record { first = range a b; later = rs }

abbrev pub tail : Range
tail = range 0x80 0xBF

unfoldable pub rows : List Row
rows =
    row 0x00 0x7F []
    ∷ row 0xC2 0xDF (tail ∷ [])
    ∷ row 0xE0 0xE0 (range 0xA0 0xBF ∷ tail ∷ [])
    ∷ row 0xE1 0xEC (tail ∷ tail ∷ [])
    ∷ row 0xED 0xED (range 0x80 0x9F ∷ tail ∷ [])
    ∷ row 0xEE 0xEF (tail ∷ tail ∷ [])
    ∷ row 0xF0 0xF0 (range 0x90 0xBF ∷ tail ∷ tail ∷ [])
    ∷ row 0xF1 0xF3 (tail ∷ tail ∷ tail ∷ [])
    ∷ row 0xF4 0xF4 (range 0x80 0x8F ∷ tail ∷ tail ∷ [])
    ∷ []

unfoldable pub within : Range → ℕ → Bool
within r x = nat_le r.lo x && nat_le x r.hi

-- the number of the first of the rows, counted from n, that a byte x begins; 0 where it begins none
abbrev pub row_from : ℕ → List Row → ℕ → ℕ
row_from n [] x = 0
row_from n (r ∷ rs) x = pick (within r.first x) n (row_from (suc n) rs x)

abbrev pub later_at : List Row → ℕ → List Range
later_at [] c = []
later_at (r ∷ rs) zero = r.later
later_at (r ∷ rs) (suc c) = later_at rs c

-- a byte's class: the row of the table that it begins, from 1, or 0
unfoldable pub class_of : ℕ → ℕ
class_of x = row_from 1 rows x

-- its class in the table of the code: the row that it begins, or which of the parts of 80..BF it is in that Table 3-7 tells apart
unfoldable pub byte_class : ℕ → ℕ
byte_class x =
    pick (within (range 0x80 0x8F) x) 10
    (pick (within (range 0x90 0x9F) x) 11 (pick (within (range 0xA0 0xBF) x) 12 (class_of x)))

-- what a table of these classes holds
pub record Classes (t : List ℕ) : Type 0 where
  pub entry : (x : ℕ) → x < 256 → slice_index t x ≡ byte_class x

-- what the later bytes of a class may be
unfoldable pub later_of : ℕ → List Range
later_of zero = []
later_of (suc c) = later_at rows c

-- ---- one piece

-- how many bytes at the front of xs are, one by one, in the ranges
unfoldable pub matched : List Range → List ℕ → ℕ
matched [] xs = 0
matched (r ∷ rs) [] = 0
matched (r ∷ rs) (x ∷ xs) = pick (within r x) (suc (matched rs xs)) 0

-- at a byte x with xs behind it: how many of xs belong with it
unfoldable pub more : ℕ → List ℕ → ℕ
more x xs = matched (later_of (class_of x)) xs

-- and whether they complete its row
unfoldable pub good : ℕ → List ℕ → Bool
good x xs = nat_le 1 (class_of x) && more x xs == length (later_of (class_of x))

-- the same as the code has it: the number of bytes of a character, or of a maximal ill-formed subpart
unfoldable pub step_of : ℕ → List ℕ → Step
step_of x xs = pick (good x xs) (Good (suc (more x xs))) (Bad (suc (more x xs)))

-- ---- a text

pub data Piece : Type 0 where
  character : List ℕ → Piece
  ill : List ℕ → Piece

unfoldable pub piece_of : ℕ → List ℕ → Piece
piece_of x xs = pick (good x xs) (character (x ∷ take (more x xs) xs)) (ill (x ∷ take (more x xs) xs))

-- the pieces of a text whose first n bytes belong to the piece before
unfoldable pub pieces_after : ℕ → List ℕ → List Piece
pieces_after n [] = []
pieces_after zero (x ∷ xs) = piece_of x xs ∷ pieces_after (more x xs) xs
pieces_after (suc n) (x ∷ xs) = pieces_after n xs

unfoldable pub pieces : List ℕ → List Piece
pieces t = pieces_after 0 t

-- ---- what is asked of a text: each is one function of its pieces

-- U+FFFD
abbrev pub replacement : List ℕ
replacement = 0xEF ∷ 0xBF ∷ 0xBD ∷ []

unfoldable pub shown : Piece → List ℕ
shown (character bs) = bs
shown (ill bs) = replacement

unfoldable pub decoded : List Piece → List ℕ
decoded [] = []
decoded (p ∷ ps) = shown p ++ decoded ps

-- how many bytes the characters before the first ill-formed subpart have
unfoldable pub leading : List Piece → ℕ
leading [] = 0
leading (character bs ∷ ps) = length bs + leading ps
leading (ill bs ∷ ps) = 0

unfoldable pub clean : List Piece → Bool
clean [] = true
clean (character bs ∷ ps) = clean ps
clean (ill bs ∷ ps) = false

-- how many ill-formed subparts there are: each is shown as one U+FFFD
unfoldable pub ill_count : List Piece → ℕ
ill_count [] = 0
ill_count (character bs ∷ ps) = ill_count ps
ill_count (ill bs ∷ ps) = suc (ill_count ps)

unfoldable pub decode : List ℕ → List ℕ
decode t = decoded (pieces t)

-- where the first ill-formed subpart starts, or the length
unfoldable pub valid_up_to : List ℕ → ℕ
valid_up_to t = leading (pieces t)

-- how many U+FFFD the decoding puts in; one that the text has itself is a character
unfoldable pub replacements : List ℕ → ℕ
replacements t = ill_count (pieces t)

unfoldable pub well_formed : List ℕ → Bool
well_formed t = clean (pieces t)

-- the length of the decoding as a usize, which holds it for every text below 2 ^ 64 / 3 bytes
unfoldable pub decoded_size : List ℕ → ℕ
decoded_size t = min (length (decode t)) 18446744073709551615
