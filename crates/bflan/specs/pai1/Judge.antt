-- The walk that judges the words and texts of a pai1 record (document 01, 'Flat record'): the tree that they are, or the first fault.
use Rattle.std.specs.Prelude.{ℕ, ◌*◌, eqb, ltb, leb}
use Rattle.bflan.specs.pai1.Letters.{fleu, letters_fit, target_fits}
use Rattle.bflan.specs.pai1.Record.{AnimTarget, ExtendedUserDataAnim, AnimInfo, Standard, ExtendedUserData, AnimContent, PaneAnimInfo, key_widths}
use Rattle.bflan.specs.Judge.{J, ◌>>=◌, ret, given, next_word, next_text, times, wide, row, whole}

unfoldable pub target : ℕ → J AnimTarget
target letters = do
  layer ← next_word (wide 1)
  number ← next_word (target_fits letters)
  curve ← next_word (λ c. ltb c 3)
  n ← next_word (wide 2)
  ks ← times n (row (key_widths curve))
  ret (record { layer = layer; target = number; curve = curve; keys = ks })

unfoldable pub datum : J ExtendedUserDataAnim
datum = do
  size ← next_word (wide 4)
  one ← next_word (wide 2)
  two ← next_word (wide 2)
  base ← next_word (wide 4)
  three ← next_word (wide 4)
  vs ← times (3 * base) (next_word (wide 4))
  key ← next_text (wide 4)
  ret (record { header_size = size; unk1 = one; unk2 = two; base_count = base; unk3 = three; values = vs; key = key })

unfoldable pub info : J AnimInfo
info = do
  letters ← next_word letters_fit
  n ← next_word (wide 1)
  given (eqb letters fleu)
      (do
        ds ← times n datum
        ret (ExtendedUserData ds))
      (do
        ts ← times n (target letters)
        ret (Standard letters ts))

unfoldable pub content : J AnimContent
content = do
  name ← next_text (λ n. leb n 28)
  type ← next_word (λ t. leb t 4)
  n ← next_word (wide 1)
  is ← times n info
  ret (record { name = name; type = type; infos = is })

unfoldable pub pane : J PaneAnimInfo
pane = do
  frames ← next_word (wide 2)
  looping ← next_word (λ b. leb b 1)
  nt ← next_word (wide 2)
  nc ← next_word (wide 2)
  ts ← times nt (next_text (wide 4))
  cs ← times nc content
  ret (record { frames = frames; looping = looping; textures = ts; contents = cs })

-- a section's record, and nothing behind it
unfoldable pub section : J PaneAnimInfo
section = whole pane
