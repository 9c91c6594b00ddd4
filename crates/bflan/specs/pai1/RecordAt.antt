-- The record that a section's bytes are, whatever they are: each part as a function of the bytes and the place where it starts. It is what
-- reading gives where it is not stopped (document 01, 'The section').
use Rattle.std.specs.Prelude.{ℕ, zero, suc, ◌+◌, ◌*◌, List, [], ◌∷◌, eqb, take, drop}
use Rattle.base.specs.Choice.{pick}
use Rattle.base.specs.Number.{get}
use Rattle.base.specs.Run.{numbers_at}
use Rattle.base.specs.Text.{before_zero}
use Rattle.bflan.specs.pai1.FieldValues.{numbers_in}
use Rattle.bflan.specs.pai1.Letters.{fleu, letters_of, target_of}
use Rattle.bflan.specs.pai1.Places.{stride, info_table_in}
use Rattle.bflan.specs.Reader.{Res, ok, stop, Item}
use Rattle.bflan.specs.pai1.Reading.{curve_of, count_of, datum, type_of, flag_of}
use Rattle.bflan.specs.pai1.Record.{AnimTarget, ExtendedUserDataAnim, AnimInfo, Standard, ExtendedUserData, AnimContent, PaneAnimInfo, key_widths}
use Rattle.bflan.specs.Items.{shown_at}

-- what follows where a reading ends, or `none` where it is stopped
abbrev pub reached : {A : Type 0} → Res (List Item) → A → (ℕ → A) → A
reached (ok is q) none f = f q
reached (stop g) none f = none

-- the length of a content's name, which stands in 28 bytes
abbrev pub name_size : List ℕ → ℕ → ℕ
name_size s base = before_zero (take 28 (drop base s))

module _ (s : List ℕ) where
  -- n parts at the offsets of the table at `at`, which count from base
  unfoldable pub parts_at : {X : Type 0} → (ℕ → X) → ℕ → ℕ → ℕ → List X
  parts_at part base zero at = []
  parts_at part base (suc n) at = part (base + get 4 s at) ∷ parts_at part base n (at + 4)

  -- a text that ends at a zero
  unfoldable pub ended_at : ℕ → List ℕ
  ended_at i = shown_at s i (before_zero (drop i s))

  -- n keys, one after another
  unfoldable pub keys_at : ℕ → ℕ → ℕ → List (List ℕ)
  keys_at curve zero p = []
  keys_at curve (suc n) p = numbers_in (key_widths curve) s p ∷ keys_at curve n (p + stride curve)

  unfoldable pub target_at : ℕ → ℕ → AnimTarget
  target_at letters b =
      record {
        layer = get 1 s b;
        target = target_of letters (get 1 s (b + 1));
        curve = curve_of (get 1 s (b + 2));
        keys = keys_at (curve_of (get 1 s (b + 2))) (count_of (get 1 s (b + 2)) (get 2 s (b + 4))) (b + get 4 s (b + 8));
      }

  -- the key text's offset stands behind the three lists, and counts from its own place
  unfoldable pub datum_at : ℕ → ExtendedUserDataAnim
  datum_at p =
      record {
        header_size = get 4 s p;
        unk1 = get 2 s (p + 4);
        unk2 = get 2 s (p + 6);
        base_count = get 4 s (p + 8);
        unk3 = get 4 s (p + 12);
        values = numbers_at (3 * get 4 s (p + 8)) s (p + 16);
        key = ended_at (p + 16 + 4 * (3 * get 4 s (p + 8)) + get 4 s (p + 16 + 4 * (3 * get 4 s (p + 8))));
      }

  -- n data, each of which starts where reading the one before ends
  unfoldable pub data_at : ℕ → ℕ → List ExtendedUserDataAnim
  data_at zero p = []
  data_at (suc n) p = datum_at p ∷ reached (datum s p) [] (λ q. data_at n q)

  unfoldable pub info_at : ℕ → AnimInfo
  info_at b =
      pick (eqb (get 4 s b) fleu) (ExtendedUserData (data_at (get 1 s (b + 4)) (b + 8)))
      (Standard (letters_of (get 4 s b)) (parts_at (target_at (get 4 s b)) b (get 1 s (b + 4)) (b + 8)))

  unfoldable pub content_at : ℕ → AnimContent
  content_at b =
      record {
        name = shown_at s b (name_size s b);
        type = type_of (get 1 s (b + 29));
        infos = parts_at info_at b (get 1 s (b + 28)) (info_table_in s b);
      }

  unfoldable pub record_at : PaneAnimInfo
  record_at =
      record {
        frames = get 2 s 8;
        looping = flag_of (get 1 s 10);
        textures = parts_at ended_at 20 (get 2 s 12) 20;
        contents = parts_at content_at 0 (get 2 s 14) (get 4 s 16);
      }
