-- A section in parts, as the code reads it: the letters and the size; the numbers behind them; the contents with the seek to the section's end,
-- and the textures in front of them (document 01, 'The section'; `section` and `body` of Reading are the definitions that these parts make up).
use Rattle.std.specs.Prelude.{Result, Ok, Err, ℕ, List, [], ◌∷◌, ◌++◌}
use Rattle.bflan.specs.declared.fault.Fault.{Fault}
use Rattle.bflan.specs.declared.reader.section.SectionHeader.{SectionHeader}
use Rattle.bflan.specs.declared.reader.section.SectionHead.{SectionHead}
use Rattle.bflan.specs.Reader.{Res, ok, stop, P, ◌>>=◌, ret, here, Item, word, num, seek_to, numbers, visit}
use Rattle.bflan.specs.pai1.Reading.{texture, contents, flag_of}

unfoldable pub header : P SectionHeader
header = do
  letters ← num 4
  size ← num 4
  ret (record { magic = letters; size = size })

-- a header at the section's start as the code answers it: what follows stands at 8
abbrev pub as_header : Result SectionHeader Fault → Res SectionHeader
as_header (Ok h) = ok h 8
as_header (Err f) = stop f

-- the numbers behind the header
unfoldable pub head : P SectionHead
head = do
  frames ← num 2
  looping ← num 1
  reserve ← num 1
  nt ← num 2
  nc ← num 2
  table ← num 4
  ret (record { frames = frames; looping = looping; textures = nt; contents = nc; table = table })

-- a head behind the header as the code answers it: what follows stands at 20
abbrev pub as_head : Result SectionHead Fault → Res SectionHead
as_head (Ok h) = ok h 20
as_head (Err f) = stop f

-- its words, in the record's order
abbrev pub head_words : SectionHead → List ℕ
head_words h = h.frames ∷ flag_of h.looping ∷ h.textures ∷ h.contents ∷ []

-- what is behind it: the last lines of `body`
unfoldable pub after_head : ℕ → SectionHead → P (List Item)
after_head size h = do
  start ← here
  offsets ← numbers h.textures
  ts ← visit start texture offsets
  cs ← contents h.table h.contents
  end ← seek_to size
  ret (word h.frames ∷ word (flag_of h.looping) ∷ word h.textures ∷ word h.contents ∷ (ts ++ cs))

unfoldable pub contents_and_size : ℕ → ℕ → ℕ → P (List Item)
contents_and_size size table n = do
  cs ← contents table n
  end ← seek_to size
  ret cs

-- the textures' offsets count from their table, which stands at 20
unfoldable pub textures_and_contents : ℕ → List ℕ → ℕ → ℕ → P (List Item)
textures_and_contents size offsets table n = do
  ts ← visit 20 texture offsets
  cs ← contents_and_size size table n
  ret (ts ++ cs)
