-- What is written of a pai1 record, field by field (document 01, 'The section' and 'Writing').
use Rattle.std.specs.Prelude.{ℕ, ◌+◌, ◌-◌, ◌*◌, List, [], ◌∷◌, eqb, length}
use Rattle.base.specs.Choice.{pick}
use Rattle.base.specs.Fill.{padding_of}
use Rattle.base.specs.Number.{le}
use Rattle.bflan.specs.pai1.Letters.{fleu}
use Rattle.bflan.specs.pai1.Reading.{own_bytes}
use Rattle.bflan.specs.pai1.Record.{AnimTarget, ExtendedUserDataAnim, AnimInfo, Standard, ExtendedUserData, AnimContent, PaneAnimInfo, key_widths}
use Rattle.bflan.specs.Layout.{Layout, nothing, number, bytes, ◌⨾◌, size, zeros, row, parts, table, ended}

-- ---- a target with its keys

-- the bytes behind a key that no word fills
unfoldable pub key_skip : ℕ → ℕ
key_skip curve = pick (eqb curve 1) 2 0

unfoldable pub key_lay : ℕ → List ℕ → Layout
key_lay curve k = row (key_widths curve) k ⨾ zeros (key_skip curve)

unfoldable pub target_lay : AnimTarget → Layout
target_lay t =
    number 1 t.layer ⨾ number 1 t.target ⨾ number 1 t.curve ⨾ number 1 0 ⨾ number 2 (length t.keys) ⨾ number 2 0 ⨾ number 4 12
    ⨾ parts (key_lay t.curve) t.keys

-- ---- an extended datum

unfoldable pub datum_lay : ExtendedUserDataAnim → Layout
datum_lay d =
    number 4 d.header_size ⨾ number 2 d.unk1 ⨾ number 2 d.unk2 ⨾ number 4 d.base_count ⨾ number 4 d.unk3 ⨾ parts (number 4) d.values
    ⨾ number 4 4 ⨾ ended d.key

-- ---- an info

-- letters are bytes, not a number
unfoldable pub info_head : ℕ → ℕ → Layout
info_head letters n = bytes (le 4 letters) ⨾ number 1 n ⨾ number 1 0 ⨾ number 2 0

unfoldable pub info_lay : AnimInfo → Layout
info_lay (Standard letters ts) = info_head letters (length ts) ⨾ table target_lay (8 + 4 * length ts) ts ⨾ parts target_lay ts
info_lay (ExtendedUserData ds) = info_head fleu (length ds) ⨾ parts datum_lay ds

-- ---- a content

-- what the total size of a User content leaves out: 5 + key length for each extended datum
unfoldable pub data_out : List ExtendedUserDataAnim → ℕ
data_out [] = 0
data_out (d ∷ ds) = 5 + length d.key + data_out ds

unfoldable pub infos_out : List AnimInfo → ℕ
infos_out [] = 0
infos_out (Standard letters ts ∷ is) = infos_out is
infos_out (ExtendedUserData ds ∷ is) = data_out ds + infos_out is

-- where a content's infos start: behind the name, the counts, for a User content two numbers, and the table
unfoldable pub table_from : ℕ → ℕ
table_from type = pick (eqb type 2) 40 32

unfoldable pub infos_from : AnimContent → ℕ
infos_from c = table_from c.type + 4 * length c.infos

unfoldable pub user_lay : ℕ → ℕ → Layout
user_lay type total = pick (eqb type 2) (number 4 40 ⨾ number 4 total) nothing

unfoldable pub content_body : AnimContent → Layout
content_body c =
    bytes c.name ⨾ zeros (28 - length c.name) ⨾ number 1 (length c.infos) ⨾ number 1 c.type ⨾ number 2 0
    ⨾ user_lay c.type (infos_from c + size (parts info_lay c.infos) - infos_out c.infos)
    ⨾ table info_lay (infos_from c) c.infos ⨾ parts info_lay c.infos

unfoldable pub content_lay : AnimContent → Layout
content_lay c = content_body c ⨾ zeros (padding_of (size (content_body c)))

-- ---- a section

-- where the texture names end, and the content table stands
unfoldable pub names_end : PaneAnimInfo → ℕ
names_end r = 20 + (4 * length r.textures + size (parts ended r.textures))

unfoldable pub content_table : PaneAnimInfo → ℕ
content_table r = names_end r + padding_of (names_end r)

unfoldable pub section_size : PaneAnimInfo → ℕ
section_size r = content_table r + (4 * length r.contents + size (parts content_lay r.contents))

unfoldable pub section_lay : PaneAnimInfo → Layout
section_lay r =
    bytes own_bytes ⨾ number 4 (section_size r) ⨾ number 2 r.frames ⨾ number 1 r.looping ⨾ number 1 0 ⨾ number 2 (length r.textures)
    ⨾ number 2 (length r.contents) ⨾ number 4 (content_table r) ⨾ table ended (4 * length r.textures) r.textures
    ⨾ parts ended r.textures ⨾ zeros (padding_of (names_end r)) ⨾ table content_lay (content_table r + 4 * length r.contents) r.contents
    ⨾ parts content_lay r.contents
