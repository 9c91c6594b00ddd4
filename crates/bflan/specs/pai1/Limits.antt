-- The limits of a pai1 record (document 01, 'Flat record').
use Rattle.std.specs.Prelude.{ℕ, ◌*◌, ◌^◌, ◌<◌, ◌≤◌, ◌≡◌, true, List, length}
use Rattle.bflan.specs.pai1.Letters.{fleu, letters_fit, target_fits}
use Rattle.bflan.specs.pai1.Layout.{section_lay}
use Rattle.bflan.specs.pai1.Record.{AnimTarget, ExtendedUserDataAnim, AnimInfo, Standard, ExtendedUserData, AnimContent, PaneAnimInfo, key_widths}
use Rattle.bflan.specs.Limits.{All, Fits, FineText, WithinBy}

pub record FineTarget (letters : ℕ) (t : AnimTarget) : Type 0 where
  pub layer : t.layer < 256
  pub target : target_fits letters t.target ≡ true
  pub curve : t.curve < 3
  pub count : length t.keys < 65536
  pub keys : All (Fits (key_widths t.curve)) t.keys

pub record FineDatum (d : ExtendedUserDataAnim) : Type 0 where
  pub header_size : d.header_size < 256 ^ 4
  pub unk1 : d.unk1 < 65536
  pub unk2 : d.unk2 < 65536
  pub base_count : d.base_count < 256 ^ 4
  pub unk3 : d.unk3 < 256 ^ 4
  pub count : length d.values ≡ 3 * d.base_count
  pub values : All (λ v. v < 256 ^ 4) d.values
  pub key : FineText d.key

pub record FineStandard (code : ℕ) (ts : List AnimTarget) : Type 0 where
  pub letters : letters_fit code ≡ true
  pub standard : code ≡ fleu → ⊥
  pub count : length ts < 256
  pub targets : All (FineTarget code) ts

abbrev pub FineInfo : AnimInfo → Type 0
FineInfo (Standard letters ts) = FineStandard letters ts
FineInfo (ExtendedUserData ds) = (length ds < 256) × All FineDatum ds

-- a content whose name has at most `most` bytes
pub record FineNamed (most : ℕ) (c : AnimContent) : Type 0 where
  pub short : length c.name ≤ most
  pub name : FineText c.name
  pub type : c.type < 5
  pub count : length c.infos < 256
  pub infos : All FineInfo c.infos

-- a name has at most 28 bytes
abbrev pub FineContent : AnimContent → Type 0
FineContent c = FineNamed 28 c

-- all but the written length, with names of at most `most` bytes
pub record FineBut (most : ℕ) (r : PaneAnimInfo) : Type 0 where
  pub frames : r.frames < 65536
  pub looping : r.looping < 2
  pub texture_count : length r.textures < 65536
  pub content_count : length r.contents < 65536
  pub textures : All FineText r.textures
  pub contents : All (FineNamed most) r.contents

-- all but the written length
abbrev pub Fine : PaneAnimInfo → Type 0
Fine r = FineBut 28 r

-- the same but for the length of names: a name that is read has at most 28 bytes, of which each is shown by at most three
abbrev pub Readable : PaneAnimInfo → Type 0
Readable r = FineBut 84 r

abbrev pub Within : PaneAnimInfo → Type 0
Within r = WithinBy Fine section_lay r
