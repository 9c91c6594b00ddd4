-- The pieces of a layout that functions of their own write.
use Rattle.std.specs.Prelude.{ℕ, ◌+◌, ◌-◌, ◌*◌, List, [], ◌∷◌, eqb, length, get_or, take, drop}
use Rattle.base.specs.Choice.{pick}
use Rattle.base.specs.Fill.{padding_of}
use Rattle.bflan.specs.Judge.{Judged, fine, bad_word, bad_text}
use Rattle.bflan.specs.Layout.{Layout, number, bytes, ◌⨾◌, size, zeros, row, parts, ended}
use Rattle.bflan.specs.pai1.Layout.{info_lay, infos_out, table_from, user_lay}
use Rattle.bflan.specs.pai1.Letters.{fleu}
use Rattle.bflan.specs.pai1.Record.{AnimInfo}
use Rattle.bflan.specs.inner.Pen.{listed}

-- ---- the pieces of parts that functions of their own write

-- a target before its keys
unfoldable pub target_head : ℕ → ℕ → ℕ → ℕ → Layout
target_head layer target curve n = row (1 ∷ 1 ∷ 1 ∷ 1 ∷ 2 ∷ 2 ∷ 4 ∷ []) (layer ∷ target ∷ curve ∷ 0 ∷ n ∷ 0 ∷ 12 ∷ [])

-- a datum before its values
unfoldable pub datum_head : ℕ → ℕ → ℕ → ℕ → ℕ → Layout
datum_head size one two base three = row (4 ∷ 2 ∷ 2 ∷ 4 ∷ 4 ∷ []) (size ∷ one ∷ two ∷ base ∷ three ∷ [])

-- and before its key, by its words
unfoldable pub datum_front : List ℕ → ℕ → Layout
datum_front w i =
    datum_head (get_or w i 0) (get_or w (i + 1) 0) (get_or w (i + 2) 0) (get_or w (i + 3) 0) (get_or w (i + 4) 0)
    ⨾ parts (number 4) (take (3 * get_or w (i + 3) 0) (drop (i + 5) w)) ⨾ number 4 4

-- a content's name
unfoldable pub name_lay : List ℕ → Layout
name_lay t = bytes t ⨾ zeros (28 - length t)

-- what is behind a content's name and counts
unfoldable pub body_lay : ℕ → List AnimInfo → Layout
body_lay type is =
    user_lay type (table_from type + 4 * length is + size (parts info_lay is) - infos_out is) ⨾ listed info_lay (table_from type + 4 * length is) is

-- a section's frame count, looping flag and counts
unfoldable pub frame_lay : ℕ → ℕ → ℕ → ℕ → Layout
frame_lay frames looping textures contents = row (2 ∷ 1 ∷ 1 ∷ 2 ∷ 2 ∷ []) (frames ∷ looping ∷ 0 ∷ textures ∷ contents ∷ [])

-- its texture names, with the zeros behind them
unfoldable pub names_lay : List (List ℕ) → Layout
names_lay ts = listed ended (4 * length ts) ts ⨾ zeros (padding_of (20 + (4 * length ts + size (parts ended ts))))

-- what the total size of a User content leaves out
unfoldable pub out_of : Judged (List AnimInfo) → ℕ
out_of (fine is i j) = infos_out is
out_of (bad_word i) = 0
out_of (bad_text j) = 0

-- the same of one info, by its first two words and by the text bytes before and behind it
unfoldable pub out_by : List ℕ → ℕ → ℕ → ℕ → ℕ
out_by w i j l = pick (eqb (get_or w i 0) fleu) (5 * get_or w (i + 1) 0 + (l - j)) 0
