-- The pai1 section as a format: its judge gives the records within the limits and no others, and the texts of a record are no longer than
-- what is written of it.
-- Assumes nothing.
use Prim.Native.Nat.{ℕ, ◌≤◌}
use mathlib.Core.Path.{◌≡◌, refl}
use mathlib.Core.List.{List, [], ◌∷◌, map}
use native.Mathlib.Omega.{arith}
use lib.ListN.{length, length-append}
use Rattle.bflan.specs.Layout.{Layout, size, parts, ended}
use Rattle.bflan.specs.pai1.Layout.{target_lay, datum_lay, info_lay, content_body, content_lay, section_lay}
use Rattle.bflan.specs.pai1.Judge.{section}
use Rattle.bflan.specs.pai1.Limits.{Fine}
use Rattle.bflan.specs.pai1.Record.{AnimTarget, ExtendedUserDataAnim, AnimInfo, Standard, ExtendedUserData, AnimContent, PaneAnimInfo, target_cells, datum_cells, info_cells, content_cells, cells, texts}
use Rattle.bflan.specs.Cells.{Cell, word, bytes_in, each, text_cells}
use Rattle.bflan.proofs.judge.Laws.{byte_count, byte_counts, text-bytes, Judges}
use Rattle.bflan.proofs.judge.Judging.{section_judges}

pub judges : Judges section cells Fine
judges = section_judges

-- ---- sizes

-- the texts are no longer than what is written
module _ {X : Type 0} (cells_of : X → List Cell) (lay : X → Layout) (law : (a : X) → byte_count (cells_of a) ≤ size (lay a)) where
  each-bytes : (xs : List X) → byte_count (each cells_of xs) ≤ size (parts lay xs)
  unfolding each parts size
  each-bytes [] = unfold bytes_in in omega arith
  each-bytes (x ∷ xs) = omega (arith, byte_counts (cells_of x) (each cells_of xs), law x, each-bytes xs)

texture-size : (t : List ℕ) → byte_count (text_cells t) ≤ size (ended t)
unfolding ended size
texture-size t = omega (arith, text-bytes t)

values-none : (vs : List ℕ) → byte_count (map word vs) ≡ 0
unfolding bytes_in
values-none [] = refl
values-none (v ∷ vs) = values-none vs

keys_none : (ks : List (List ℕ)) → byte_count (each (map word) ks) ≡ 0
unfolding each
keys_none [] = unfold bytes_in in refl
keys_none (k ∷ ks) = omega (arith, byte_counts (map word k) (each (map word) ks), values-none k, keys_none ks)

target-size : (t : AnimTarget) → byte_count (target_cells t) ≤ size (target_lay t)
unfolding target_cells bytes_in
target-size t = omega (arith, keys_none t.keys)

datum-size : (d : ExtendedUserDataAnim) → byte_count (datum_cells d) ≤ size (datum_lay d)
unfolding datum_cells text_cells bytes_in datum_lay ended size
datum-size d = omega (arith, byte_counts (map word d.values) (text_cells d.key), text-bytes d.key, values-none d.values)

info-size : (i : AnimInfo) → byte_count (info_cells i) ≤ size (info_lay i)
unfolding info_cells info_lay size bytes_in
info-size (Standard letters ts) = omega (arith, each-bytes target_cells target_lay target-size ts)
info-size (ExtendedUserData ds) = omega (arith, each-bytes datum_cells datum_lay datum-size ds)

content-size : (c : AnimContent) → byte_count (content_cells c) ≤ size (content_lay c)
unfolding content_cells bytes_in content_lay content_body size
content-size c = omega (arith, length-append c.name (bytes_in (each info_cells c.infos)), each-bytes info_cells info_lay info-size c.infos)

pub texts-size : (r : PaneAnimInfo) → length (texts r) ≤ size (section_lay r)
unfolding cells bytes_in section_lay size
texts-size r =
    omega (
      arith,
      byte_counts (each text_cells r.textures) (each content_cells r.contents),
      each-bytes text_cells ended texture-size r.textures,
      each-bytes content_cells content_lay content-size r.contents,
    )
