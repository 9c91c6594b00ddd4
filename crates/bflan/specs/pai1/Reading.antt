-- Reading a pai1 section (document 01, 'The section'; the Rust's `PaneAnimInfo`, `AnimContent`, `AnimInfo`, `AnimTarget`, `Curve`,
-- `ExtendedUserDataAnim`), in the order in which it is read, with the items of the flat record (document 01, 'Flat record').
use Rattle.std.specs.Prelude.{ℕ, zero, suc, ◌+◌, ◌*◌, List, [], ◌∷◌, ◌++◌, map, leb, eqb}
use Rattle.base.specs.Choice.{pick}
use Rattle.base.specs.Number.{val}
use Rattle.bflan.specs.declared.fault.Fault.TheVariants.{OtherLetters}
use Rattle.bflan.specs.pai1.Letters.{fleu, letters_of, target_of}
use Rattle.bflan.specs.Reader.{P, ◌>>=◌, ret, given, fail, here, Item, word, num, seek_to, skip, fixed_text, one_ended, numbers, many, visit}

-- ---- keys: one binary32; a frame and a u16, two bytes skipped; a frame, a value and a slope

abbrev pub key_of : ℕ → P (List Item)
key_of zero = do
  value ← num 4
  ret (word value ∷ [])
key_of (suc zero) = do
  frame ← num 4
  value ← num 2
  _ ← skip 2
  ret (word frame ∷ word value ∷ [])
key_of (suc (suc c)) = do
  frame ← num 4
  value ← num 4
  slope ← num 4
  ret (word frame ∷ word value ∷ word slope ∷ [])

-- a curve above 2 is an empty Constant, whatever the key count
unfoldable pub curve_of : ℕ → ℕ
curve_of curve = pick (leb curve 2) curve 0

unfoldable pub count_of : ℕ → ℕ → ℕ
count_of curve n = pick (leb curve 2) n 0

unfoldable pub keys : ℕ → ℕ → P (List Item)
keys curve n = many (count_of curve n) (key_of (curve_of curve))

-- a target that starts at base
unfoldable pub target : ℕ → ℕ → P (List Item)
target letters base = do
  at ← seek_to base
  layer ← num 1
  raw ← num 1
  curve ← num 1
  reserve ← num 1
  n ← num 2
  reserve ← num 2
  offset ← num 4
  at ← seek_to (base + offset)
  ks ← keys curve n
  ret (word layer ∷ word (target_of letters raw) ∷ word (curve_of curve) ∷ word (count_of curve n) ∷ ks)

-- the offset to the key text counts from its own position
unfoldable pub datum : P (List Item)
datum = do
  size ← num 4
  one ← num 2
  two ← num 2
  base ← num 4
  three ← num 4
  vs ← numbers (3 * base)
  at ← here
  offset ← num 4
  start ← seek_to (at + offset)
  key ← one_ended
  ret (word size ∷ word one ∷ word two ∷ word base ∷ word three ∷ (map word vs ++ key))

-- an info that starts at base
unfoldable pub info : ℕ → P (List Item)
info base = do
  at ← seek_to base
  letters ← num 4
  n ← num 1
  reserve ← num 1
  reserve ← num 2
  given (eqb letters fleu)
      (do
        ds ← many n datum
        ret (word fleu ∷ word n ∷ ds))
      (do
        offsets ← numbers n
        ts ← visit base (target letters) offsets
        ret (word (letters_of letters) ∷ word n ∷ ts))

-- types 0 to 4; any other reads as 0
unfoldable pub type_of : ℕ → ℕ
type_of type = pick (leb type 4) type 0

-- where a content's info table stands: behind its head, but for a User content at an offset, with a total size behind it that is not read
unfoldable pub info_table : ℕ → ℕ → P ℕ
info_table base type =
    given (eqb type 2)
    (do
      offset ← num 4
      seek_to (base + offset))
    here

-- a content that starts at base
unfoldable pub content : ℕ → P (List Item)
content base = do
  at ← seek_to base
  name ← fixed_text 28
  n ← num 1
  type ← num 1
  reserve ← num 2
  at ← info_table base type
  offsets ← numbers n
  is ← visit base info offsets
  ret (name ∷ word (type_of type) ∷ word n ∷ is)

unfoldable pub texture : ℕ → P (List Item)
texture base = do
  at ← seek_to base
  one_ended

-- the section's letters, by their ASCII codes, and the number that they are
abbrev pub own_bytes : List ℕ
own_bytes = 0x70 ∷ 0x61 ∷ 0x69 ∷ 0x31 ∷ []

unfoldable pub own_letters : ℕ
own_letters = val own_bytes

-- looping: nonzero is yes
unfoldable pub flag_of : ℕ → ℕ
flag_of b = pick (eqb b 0) 0 1

-- the contents, by the offsets of the table at `table`, which count from the section's start
unfoldable pub contents : ℕ → ℕ → P (List Item)
contents table n = do
  at ← seek_to table
  offsets ← numbers n
  visit 0 content offsets

-- behind the section's first eight bytes; the textures' offsets count from their table, which stands at 20
unfoldable pub body : ℕ → P (List Item)
body size = do
  frames ← num 2
  looping ← num 1
  reserve ← num 1
  nt ← num 2
  nc ← num 2
  table ← num 4
  start ← here
  offsets ← numbers nt
  ts ← visit start texture offsets
  cs ← contents table nc
  end ← seek_to size
  ret (word frames ∷ word (flag_of looping) ∷ word nt ∷ word nc ∷ (ts ++ cs))

unfoldable pub section : P (List Item)
section = do
  letters ← num 4
  size ← num 4
  given (eqb letters own_letters) (body size) (fail (OtherLetters letters))
