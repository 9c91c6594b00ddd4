-- A record as a tree, with the Rust's names for its parts, and the words and texts that it is when flat (document 01, 'Flat record').
use Rattle.std.specs.Prelude.{ℕ, zero, suc, List, [], ◌∷◌, ◌++◌, map, length}
use Rattle.bflan.specs.pai1.Letters.{fleu}
use Rattle.bflan.specs.Cells.{Cell, word, chars, words_in, bytes_in, text_cells, each}

-- ---- the tree

-- a key is its words: as many, and as wide in a section, as its curve says
pub record AnimTarget : Type 0 where
  pub layer : ℕ
  pub target : ℕ
  pub curve : ℕ
  pub keys : List (List ℕ)

-- the values are three lists of base count numbers, one after another
pub record ExtendedUserDataAnim : Type 0 where
  pub header_size : ℕ
  pub unk1 : ℕ
  pub unk2 : ℕ
  pub base_count : ℕ
  pub unk3 : ℕ
  pub values : List ℕ
  pub key : List ℕ

pub data AnimInfo : Type 0 where
  Standard : ℕ → List AnimTarget → AnimInfo
  ExtendedUserData : List ExtendedUserDataAnim → AnimInfo

pub record AnimContent : Type 0 where
  pub name : List ℕ
  pub type : ℕ
  pub infos : List AnimInfo

pub record PaneAnimInfo : Type 0 where
  pub frames : ℕ
  pub looping : ℕ
  pub textures : List (List ℕ)
  pub contents : List AnimContent

-- the widths of a key's words: one binary32; a binary32 and a u16; three binary32
unfoldable pub key_widths : ℕ → List ℕ
key_widths zero = 4 ∷ []
key_widths (suc zero) = 4 ∷ 2 ∷ []
key_widths (suc (suc c)) = 4 ∷ 4 ∷ 4 ∷ []

-- ---- flat

unfoldable pub target_cells : AnimTarget → List Cell
target_cells t = word t.layer ∷ word t.target ∷ word t.curve ∷ word (length t.keys) ∷ each (map word) t.keys

unfoldable pub datum_cells : ExtendedUserDataAnim → List Cell
datum_cells d =
    word d.header_size ∷ word d.unk1 ∷ word d.unk2 ∷ word d.base_count ∷ word d.unk3 ∷ (map word d.values ++ (chars d.key ∷ []))

unfoldable pub info_cells : AnimInfo → List Cell
info_cells (Standard letters ts) = word letters ∷ word (length ts) ∷ each target_cells ts
info_cells (ExtendedUserData ds) = word fleu ∷ word (length ds) ∷ each datum_cells ds

unfoldable pub content_cells : AnimContent → List Cell
content_cells c = chars c.name ∷ word c.type ∷ word (length c.infos) ∷ each info_cells c.infos

unfoldable pub cells : PaneAnimInfo → List Cell
cells r =
    word r.frames ∷ word r.looping ∷ word (length r.textures) ∷ word (length r.contents)
    ∷ (each text_cells r.textures ++ each content_cells r.contents)

-- the record's two lists
abbrev pub words : PaneAnimInfo → List ℕ
words r = words_in (cells r)

abbrev pub texts : PaneAnimInfo → List ℕ
texts r = bytes_in (cells r)
