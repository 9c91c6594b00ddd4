-- What is written is bytes, and a field has 1, 2, 4, 6 or 12 of them.
-- Assumes nothing.
use Prim.Native.Nat.{ℕ, ◌+◌, ◌-◌}
use mathlib.Core.Bool.{Bool, true, false}
use mathlib.Core.List.{List, [], ◌∷◌}
use native.Mathlib.Omega.{arith}
use lib.Dec.{eqb}
use lib.ListN.{length}
use Rattle.base.specs.Choice.{pick}
use Rattle.base.specs.Fill.{padding_of}
use Rattle.base.specs.Number.{le, val}
use Rattle.bflan.specs.pai1.Reading.{own_letters}
use Rattle.base.proofs.Numbers.{Bytes, bytes_le, bytes-append, bytes-zeros}
use Rattle.base.proofs.utf8.Bounds.{well_bytes}
use Rattle.bflan.specs.Layout.{Layout, nothing, number, bytes, ◌⨾◌, size, written, zeros, row, parts, table, ended}
use Rattle.bflan.specs.pai1.Layout.{key_skip, key_lay, target_lay, datum_lay, info_head, info_lay, user_lay, content_body, content_lay, names_end, section_lay}
use Rattle.bflan.specs.Limits.{All, FineText}
use Rattle.bflan.specs.pai1.Limits.{FineDatum, FineInfo, FineContent, Fine, Within}
use Rattle.bflan.specs.pai1.Record.{AnimTarget, ExtendedUserDataAnim, AnimInfo, Standard, ExtendedUserData, AnimContent, PaneAnimInfo, key_widths}

-- a layout that is written in bytes
record Laid (l : Layout) : Type 0 where
  bytes : Bytes (written l)

none : Laid nothing
unfolding written
none = record { bytes = λ i. omega arith }

num : {k n : ℕ} → Laid (number k n)
unfolding written
num {k} {n} = record { bytes = bytes_le k n }

code : (k n : ℕ) → Laid (bytes (le k n))
unfolding written
code k n = record { bytes = bytes_le k n }

infixr 5 ◌then◌
◌then◌ : {a b : Layout} → Laid a → Laid b → Laid (a ⨾ b)
unfolding written
◌then◌ {a} {b} h k = record { bytes = bytes-append (written a) (written b) h.bytes k.bytes }

fill : (n : ℕ) → Laid (zeros n)
unfolding written
fill n = record { bytes = bytes-zeros n }

chars : {t : List ℕ} → FineText t → Laid (bytes t)
unfolding written
chars {t} f = record { bytes = well_bytes t f.well_formed }

row_laid : (ks vs : List ℕ) → Laid (row ks vs)
unfolding row
row_laid [] vs = none
row_laid (k ∷ ks) [] = num then row_laid ks []
row_laid (k ∷ ks) (v ∷ vs) = num then row_laid ks vs

module _ {X : Type 0} (lay : X → Layout) where
  parts-laid : (Q : X → Type 0) → ((x : X) → Q x → Laid (lay x)) → (xs : List X) → All Q xs → Laid (parts lay xs)
  unfolding parts
  parts-laid Q law [] q = none
  parts-laid Q law (x ∷ xs) q = law x q.0 then parts-laid Q law xs q.1

  -- where every part is
  each_laid : ((x : X) → Laid (lay x)) → (xs : List X) → Laid (parts lay xs)
  unfolding parts
  each_laid law [] = none
  each_laid law (x ∷ xs) = law x then each_laid law xs

  table-laid : (from : ℕ) (xs : List X) → Laid (table lay from xs)
  unfolding table
  table-laid from [] = none
  table-laid from (x ∷ xs) = num then table-laid (from + size (lay x)) xs

target-laid : (t : AnimTarget) → Laid (target_lay t)
unfolding target_lay key_lay
target-laid t = num then num then num then num then num then num then num then each_laid (key_lay t.curve) (λ k. row_laid (key_widths t.curve) k then fill (key_skip t.curve)) t.keys

ended-laid : (t : List ℕ) → FineText t → Laid (ended t)
unfolding ended
ended-laid t f = chars f then num

datum-laid : (d : ExtendedUserDataAnim) → FineDatum d → Laid (datum_lay d)
unfolding datum_lay
datum-laid d f = num then num then num then num then num then each_laid (number 4) (λ v. num) d.values then num then ended-laid d.key f.key

head-laid : (letters n : ℕ) → Laid (info_head letters n)
unfolding info_head
head-laid letters n = code 4 letters then num then num then num

info-laid : (x : AnimInfo) → FineInfo x → Laid (info_lay x)
unfolding info_lay
info-laid (Standard letters ts) f = head-laid letters (length ts) then table-laid target_lay _ ts then each_laid target_lay target-laid ts
info-laid (ExtendedUserData ds) f = head-laid _ (length ds) then parts-laid datum_lay FineDatum datum-laid ds f.1

user-laid : (type n : ℕ) → Laid (user_lay type n)
unfolding user_lay
user-laid type n = go (eqb type 2)
  where
    go : (b : Bool) → Laid (pick b (number 4 40 ⨾ number 4 n) nothing)
    go true = num then num
    go false = none

content-laid : (c : AnimContent) → FineContent c → Laid (content_lay c)
unfolding content_lay content_body
content-laid c f =
    (chars f.name then fill (28 - length c.name) then num then num then num then user-laid c.type _ then table-laid info_lay _ c.infos then parts-laid info_lay FineInfo info-laid c.infos f.infos) then fill (padding_of (size (content_body c)))

section-laid : (r : PaneAnimInfo) → Fine r → Laid (section_lay r)
unfolding section_lay le own_letters val
section-laid r f =
    code 4 own_letters then num then num then num then num then num then num then num then table-laid ended _ r.textures then parts-laid ended FineText ended-laid r.textures f.textures then fill (padding_of (names_end r))
    then table-laid content_lay _ r.contents then parts-laid content_lay FineContent content-laid r.contents f.contents

pub written-bytes : (r : PaneAnimInfo) → Within r → Bytes (written (section_lay r))
written-bytes r w = (section-laid r w.fine).bytes
