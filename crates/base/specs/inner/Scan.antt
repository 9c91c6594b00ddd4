-- What the fast scan of a text asks: how long the ill-formed subpart is that stops it, and whether a text is ASCII at first sight; and what it
-- makes of a count.
use Rattle.std.specs.Prelude.{◌==◌, nat_le}
use Rattle.std.specs.Prelude.{ℕ, ◌+◌, ◌-◌, ◌*◌, ◌≤◌, min, ◌≡◌, Bool, ◌&&◌, List, [], ◌∷◌, length, drop}
use Rattle.base.specs.Choice.{pick}
use Rattle.base.specs.Text.{every, ascii, plain}
use Rattle.base.specs.Utf8.{Piece, character, ill, pieces, decode, replacements}

-- how many bytes an ill-formed subpart has that comes first; 0 where none does
unfoldable pub ill_first : List Piece → ℕ
ill_first [] = 0
ill_first (character bs ∷ ps) = 0
ill_first (ill bs ∷ ps) = length bs

unfoldable pub ill_size : List ℕ → ℕ
ill_size t = ill_first (pieces t)

-- a text that is seen to be ASCII at once: one of 8 to 32 bytes only if it has no zero either
unfoldable pub ascii_seen : List ℕ → Bool
ascii_seen t = every (pick (nat_le 8 (length t) && nat_le (length t) 32) plain ascii) t

-- a count with n more, as a usize; of none it is left alone
abbrev pub added : ℕ → ℕ → ℕ
added before n = pick (n == 0) before (min (before + n) 18446744073709551615)

-- from i to j each byte is an ill-formed subpart by itself: three bytes of the decoding, and one U+FFFD
abbrev pub Lones : List ℕ → ℕ → ℕ → Type 0
Lones s i j =
    (i ≤ j) × (j ≤ length s) × (length (decode (drop i s)) ≡ 3 * (j - i) + length (decode (drop j s))) × (replacements (drop i s) ≡ j - i + replacements (drop j s))
