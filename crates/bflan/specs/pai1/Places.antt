-- The fields that can be edited (document 01, 'Edits and undo'): what values each takes, where the reader's path finds it in a section, and
-- where it stands in a record.
use Rattle.std.specs.Prelude.{ℕ, zero, suc, ◌+◌, ◌*◌, ◌^◌, Bool, true, false, ◌&&◌, List, [], ◌∷◌, eqb, leb, ltb, length, get_or}
use Rattle.base.specs.Choice.{pick}
use Rattle.base.specs.Number.{get}
use Rattle.bflan.specs.declared.curve.Curve.{Curve}
use Rattle.bflan.specs.declared.curve.Curve.TheVariants.{Constant, Step, Hermite}
use Rattle.bflan.specs.declared.place.Place.{Place}
use Rattle.bflan.specs.declared.place.Place.TheVariants.{FrameCount, Looping, Layer, Target, Key, Value}
use Rattle.bflan.specs.declared.place.Field.{Field}
use Rattle.bflan.specs.declared.place.Track.{Track}
use Rattle.bflan.specs.declared.place.Field.TheVariants.{FrameCount as frames, Looping as looping, Layer as layer, Target as number, Key as key, Value as value}
use Rattle.bflan.specs.pai1.Layout.{key_skip}
use Rattle.bflan.specs.pai1.Letters.{fleu, letters_of, target_fits}
use Rattle.bflan.specs.Reader.{Res, ok, stop, Item, many}
use Rattle.bflan.specs.pai1.Reading.{curve_of, count_of, datum}
use Rattle.bflan.specs.pai1.Record.{AnimTarget, ExtendedUserDataAnim, AnimInfo, Standard, ExtendedUserData, AnimContent, PaneAnimInfo, key_widths}

-- ---- fields: their widths in bytes, and which values they take

unfoldable pub widths : Field → List ℕ
widths frames = 2 ∷ []
widths looping = 1 ∷ []
widths layer = 1 ∷ []
widths (number letters) = 1 ∷ []
widths (key curve) = key_widths curve
widths value = 4 ∷ []

unfoldable pub total : List ℕ → ℕ
total [] = 0
total (k ∷ ks) = k + total ks

-- one value for each width, and none wider
unfoldable pub fit_widths : List ℕ → List ℕ → Bool
fit_widths [] [] = true
fit_widths [] (v ∷ vs) = false
fit_widths (k ∷ ks) [] = false
fit_widths (k ∷ ks) (v ∷ vs) = ltb v (256 ^ k) && fit_widths ks vs

abbrev pub first : List ℕ → ℕ
first vs = get_or vs 0 0

-- looping is 0 or 1; a target's number is one that the record's limits allow
unfoldable pub allowed : Field → List ℕ → Bool
allowed frames vs = true
allowed looping vs = leb (first vs) 1
allowed layer vs = true
allowed (number letters) vs = target_fits letters (first vs)
allowed (key curve) vs = true
allowed value vs = true

unfoldable pub fit : Field → List ℕ → Bool
fit f vs = fit_widths (widths f) vs && allowed f vs

-- ---- in a section

-- a field and the place of its first byte, or none
pub data Spot : Type 0 where
  nowhere : Spot
  spot : ℕ → Field → Spot

-- the bytes from one key to the next
unfoldable pub stride : ℕ → ℕ
stride curve = total (key_widths curve) + key_skip curve

-- the curve that reading has for a number: one above 2 is a Constant's
abbrev pub curve_by : ℕ → Curve
curve_by zero = Constant
curve_by (suc zero) = Step
curve_by (suc (suc zero)) = Hermite
curve_by (suc (suc (suc n))) = Constant

-- the target that starts at b, as reading has it: its curve and key count, and where its keys begin
abbrev pub track_at : List ℕ → ℕ → Track
track_at s b =
    record { start = b; curve = curve_by (get 1 s (b + 2)); count = count_of (get 1 s (b + 2)) (get 2 s (b + 4)); keys = b + get 4 s (b + 8) }

-- a key of it
unfoldable pub key_in : List ℕ → ℕ → ℕ → Spot
key_in s b k =
    pick (ltb k (track_at s b).count) (spot ((track_at s b).keys + k * stride (curve_of (get 1 s (b + 2)))) (key (curve_of (get 1 s (b + 2))))) nowhere

-- under the datum that starts at b: three lists of base count values
unfoldable pub value_in : List ℕ → ℕ → ℕ → ℕ → Spot
value_in s b l v = pick (ltb l 3 && ltb v (get 4 s (b + 8))) (spot (b + 16 + 4 * (l * get 4 s (b + 8) + v)) value) nowhere

-- what the reader finds where it stands after a number of data
abbrev pub after : Res (List Item) → (ℕ → Spot) → Spot
after (ok is q) f = f q
after (stop fault) f = nowhere

-- under the info that starts at b: a target of a standard one, a datum of an extended one
unfoldable pub target_in : List ℕ → ℕ → ℕ → (ℕ → Spot) → Spot
target_in s b t f = pick (eqb (get 4 s b) fleu) nowhere (pick (ltb t (get 1 s (b + 4))) (f (b + get 4 s (b + 8 + 4 * t))) nowhere)

unfoldable pub datum_in : List ℕ → ℕ → ℕ → (ℕ → Spot) → Spot
datum_in s b d f = pick (eqb (get 4 s b) fleu) (pick (ltb d (get 1 s (b + 4))) (after (many d datum s (b + 8)) f) nowhere) nowhere

-- an info of the content that starts at b; the table of a User content stands at an offset
unfoldable pub info_table_in : List ℕ → ℕ → ℕ
info_table_in s b = pick (eqb (get 1 s (b + 29)) 2) (b + get 4 s (b + 32)) (b + 32)

unfoldable pub info_in : List ℕ → ℕ → ℕ → (ℕ → Spot) → Spot
info_in s b i f = pick (ltb i (get 1 s (b + 28))) (f (b + get 4 s (info_table_in s b + 4 * i))) nowhere

unfoldable pub content_in : List ℕ → ℕ → (ℕ → Spot) → Spot
content_in s c f = pick (ltb c (get 2 s 14)) (f (get 4 s (get 4 s 16 + 4 * c))) nowhere

-- the place in a section that is read
unfoldable pub locate : List ℕ → Place → Spot
locate s FrameCount = spot 8 frames
locate s Looping = spot 10 looping
locate s (Layer c i t) = content_in s c (λ b. info_in s b i (λ b. target_in s b t (λ b. spot b layer)))
locate s (Target c i t) = content_in s c (λ b. info_in s b i (λ a. target_in s a t (λ b. spot (b + 1) (number (letters_of (get 4 s a))))))
locate s (Key c i t k) = content_in s c (λ b. info_in s b i (λ b. target_in s b t (λ b. key_in s b k)))
locate s (Value c i d l v) = content_in s c (λ b. info_in s b i (λ b. datum_in s b d (λ b. value_in s b l v)))

-- ---- in a record: whether the place is there, what its field is, and the record with the field replaced

module _ {X : Type 0} where
  -- what f says of element n, or `none` where there is no such element
  unfoldable pub of_element : {A : Type 0} → List X → ℕ → A → (X → A) → A
  of_element [] n none f = none
  of_element (x ∷ xs) zero none f = f x
  of_element (x ∷ xs) (suc n) none f = of_element xs n none f

  -- element n changed by f
  unfoldable pub changed : List X → ℕ → (X → X) → List X
  changed [] n f = []
  changed (x ∷ xs) zero f = f x ∷ xs
  changed (x ∷ xs) (suc n) f = x ∷ changed xs n f

-- a field of a record, or none
pub data Found : Type 0 where
  missing : Found
  found : Field → Found

-- what f says of a part, or `none`: targets are in standard infos only, extended data in FLEU only
module _ {A : Type 0} (none : A) where
  unfoldable pub at_target : AnimInfo → ℕ → (ℕ → AnimTarget → A) → A
  at_target (Standard letters ts) t f = of_element ts t none (f letters)
  at_target (ExtendedUserData ds) t f = none

  unfoldable pub at_datum : AnimInfo → ℕ → (ExtendedUserDataAnim → A) → A
  at_datum (Standard letters ts) d f = none
  at_datum (ExtendedUserData ds) d f = of_element ds d none f

  unfoldable pub at_info : PaneAnimInfo → ℕ → ℕ → (AnimInfo → A) → A
  at_info r c i f = of_element r.contents c none (λ x. of_element x.infos i none f)

unfoldable pub field_of : PaneAnimInfo → Place → Found
field_of r FrameCount = found frames
field_of r Looping = found looping
field_of r (Layer c i t) = at_info missing r c i (λ x. at_target missing x t (λ letters y. found layer))
field_of r (Target c i t) = at_info missing r c i (λ x. at_target missing x t (λ letters y. found (number letters)))
field_of r (Key c i t k) = at_info missing r c i (λ x. at_target missing x t (λ letters y. pick (ltb k (length y.keys)) (found (key y.curve)) missing))
field_of r (Value c i d l v) = at_info missing r c i (λ x. at_datum missing x d (λ y. pick (ltb l 3 && ltb v y.base_count) (found value) missing))

unfoldable pub on_target : ℕ → (AnimTarget → AnimTarget) → AnimInfo → AnimInfo
on_target t f (Standard letters ts) = Standard letters (changed ts t f)
on_target t f (ExtendedUserData ds) = ExtendedUserData ds

unfoldable pub on_datum : ℕ → (ExtendedUserDataAnim → ExtendedUserDataAnim) → AnimInfo → AnimInfo
on_datum d f (Standard letters ts) = Standard letters ts
on_datum d f (ExtendedUserData ds) = ExtendedUserData (changed ds d f)

unfoldable pub on_content : ℕ → (AnimInfo → AnimInfo) → AnimContent → AnimContent
on_content i f x = record { name = x.name; type = x.type; infos = changed x.infos i f }

unfoldable pub on_info : PaneAnimInfo → ℕ → ℕ → (AnimInfo → AnimInfo) → PaneAnimInfo
on_info r c i f = record { frames = r.frames; looping = r.looping; textures = r.textures; contents = changed r.contents c (on_content i f) }

unfoldable pub replaced : PaneAnimInfo → Place → List ℕ → PaneAnimInfo
replaced r FrameCount vs = record { frames = first vs; looping = r.looping; textures = r.textures; contents = r.contents }
replaced r Looping vs = record { frames = r.frames; looping = first vs; textures = r.textures; contents = r.contents }
replaced r (Layer c i t) vs = on_info r c i (on_target t (λ y. record { layer = first vs; target = y.target; curve = y.curve; keys = y.keys }))
replaced r (Target c i t) vs = on_info r c i (on_target t (λ y. record { layer = y.layer; target = first vs; curve = y.curve; keys = y.keys }))
replaced r (Key c i t k) vs = on_info r c i (on_target t (λ y. record { layer = y.layer; target = y.target; curve = y.curve; keys = changed y.keys k (λ old. vs) }))
replaced r (Value c i d l v) vs =
    on_info r c i
    (on_datum d (λ y. record { header_size = y.header_size; unk1 = y.unk1; unk2 = y.unk2; base_count = y.base_count; unk3 = y.unk3; values = changed y.values (l * y.base_count + v) (λ old. first vs); key = y.key }))
