-- How much a pai1 section of at most 16,777,216 bytes can hold, level by level: the counts fit one byte or two, and the numbers of a list are
-- all in the section.
-- Assumes nothing.
use Prim.Native.Nat.{ℕ, zero, suc, ◌+◌, ◌*◌, ◌<◌, ◌≤◌}
use mathlib.Core.List.{List}
use native.Mathlib.Omega.{arith}
use lib.Dec.{leb, eqb}
use lib.ListN.{length}
use Rattle.base.specs.Number.{get}
use Rattle.base.proofs.Numbers.{Bytes, get_lt}
use Rattle.bflan.specs.pai1.Letters.{fleu}
use Rattle.bflan.specs.pai1.Places.{total}
use Rattle.bflan.specs.Reader.{here, num, seek_to, skip}
use Rattle.bflan.specs.pai1.Reading.{key_of, curve_of, count_of, keys, target, datum, info, info_table, content, texture, own_letters, contents, body, section}
use Rattle.bflan.specs.inner.SectionParts.{after_head}
use Rattle.bflan.proofs.reader.Bounds.{Gives, none, either, next, past, done, Small, wider, small-none, small_word, small-words, small-append, many-small, visit-small, ended-small, fixed_small, numbers_fit, wider_all, row_gives, Countable}
use Rattle.bflan.proofs.reader.ContentParts.{content_after, content_widths}
use Rattle.bflan.proofs.reader.DatumParts.{fields_in, datum_after, datum_widths}
use Rattle.bflan.proofs.reader.InfoParts.{info_after, info_widths}
use Rattle.bflan.proofs.reader.Rows.{row_then, fields_at}
use Rattle.bflan.proofs.reader.SectionParts.{head_of, head_widths}
use Rattle.bflan.proofs.reader.TargetParts.{target_after, target_widths}
use Rattle.bflan.proofs.reader.Unstopped.{pick_by}

module _ (s : List ℕ) where
  texture-small : (base : ℕ) → Gives s (Small s 1 1) (texture base)
  unfolding texture
  texture-small base = past s (seek_to base) _ (λ at. ended-small s)

  key-small : (c : ℕ) → Gives s (Small s 3 0) (key_of c)
  key-small zero = past s (num 4) _ (λ value. done s _ (small_word s value (small-none s 2 0)))
  key-small (suc zero) = past s (num 4) _ (λ frame. past s (num 2) _ (λ value. past s (skip 2) _ (λ k. done s _ (small_word s frame (small_word s value (small-none s 1 0))))))
  key-small (suc (suc c)) = past s (num 4) _ (λ frame. past s (num 4) _ (λ value. past s (num 4) _ (λ slope. done s _ (small_word s frame (small_word s value (small_word s slope (small-none s 0 0)))))))

pub count-le : (curve n : ℕ) → count_of curve n ≤ n
unfolding count_of
count-le curve n = pick_by (λ c. c ≤ n) (leb curve 2) (λ e. omega arith) (λ e. omega arith)

module _ (s : List ℕ) (bytes : Bytes s) (fits : length s ≤ 16777216) where
  keys-small : (curve n : ℕ) → n < 65536 → Gives s (Small s 196605 0) (keys curve n)
  unfolding keys
  keys-small curve n h =
      let c = count-le curve n in
      wider_all s 196605 0 (many-small s 3 0 (key_of (curve_of curve)) (key-small s (curve_of curve)) (count_of curve n)) (omega arith) (omega arith)

  target_small : (letters base : ℕ) → Gives s (Small s 196609 0) (target letters base)
  unfolding target row_then total fields_at
  target_small letters base =
      past s (seek_to base) _ (λ at. row_gives s target_widths (target_after letters base) (omega arith) (λ i. past s (seek_to (base + get 4 s (i + 8))) _ (λ at.
      next s _ (keys-small (get 1 s (i + 2)) (get 2 s (i + 4)) (get_lt 2 s (i + 4) bytes)) (λ ks k. done s _ (small_word s _ (small_word s _ (small_word s _ (small_word s _ k))))))))

  datum-small : Gives s (Small s 4194310 1) datum
  unfolding datum row_then total fields_at
  datum-small =
      row_gives s datum_widths (λ vs. datum_after (fields_in vs)) (omega arith) (λ i. next s _ (numbers_fit s (3 * get 4 s (i + 8))) (λ vs h.
      past s here _ (λ at. past s (num 4) _ (λ offset. past s (seek_to (at + offset)) _ (λ start. next s _ (ended-small s) (λ key k.
      done s _ (wider s (small_word s _ (small_word s _ (small_word s _ (small_word s _ (small_word s _ (small-append s (small-words s vs) k)))))) (omega (arith, h.0, h.1)) (omega arith))))))))

  info-small : (base : ℕ) → Gives s (Small s 1069549052 255) (info base)
  unfolding info row_then total fields_at
  info-small base =
      past s (seek_to base) _ (λ at. row_gives s info_widths (info_after base) (omega arith) (λ i. let n = get 1 s (i + 4) in let h = get_lt 1 s (i + 4) bytes in
      either s (eqb (get 4 s i) fleu)
      (next s _ (many-small s 4194310 1 datum datum-small n) (λ ds k. done s _ (wider s (small_word s _ (small_word s _ k)) (omega arith) (omega arith))))
      (next s _ (numbers_fit s n) (λ os e. next s _ (visit-small s 196609 0 base (target (get 4 s i)) (target_small (get 4 s i)) os) (λ ts k.
      done s _ (wider s (small_word s _ (small_word s _ k)) (omega (arith, e.0)) (omega arith)))))))

  content-small : (base : ℕ) → Gives s (Small s 272735008263 65026) (content base)
  unfolding content row_then total fields_at
  content-small base =
      past s (seek_to base) _ (λ at. next s _ (fixed_small s 28) (λ name t. row_gives s content_widths (content_after base name) (omega arith) (λ i. let h = get_lt 1 s i bytes in
      past s (info_table base (get 1 s (i + 1))) _ (λ at. next s _ (numbers_fit s (get 1 s i)) (λ os e. next s _ (visit-small s 1069549052 255 base info info-small os) (λ is k.
      done s _ (wider s (small-append s t (small_word s _ (small_word s _ k))) (omega (arith, e.0)) (omega (arith, e.0)))))))))

  contents-small : (table n : ℕ) → n < 65536 → Gives s (Small s 17873688766515705 4261478910) (contents table n)
  unfolding contents
  contents-small table n h =
      past s (seek_to table) _ (λ at. next s _ (numbers_fit s n) (λ os e.
      wider_all s _ _ (visit-small s 272735008263 65026 0 content content-small os) (omega (arith, e.0)) (omega (arith, e.0))))

  body-small : (size : ℕ) → Gives s (Small s 17873688766581244 4261544445) (body size)
  unfolding body after_head row_then total fields_at
  body-small size =
      row_gives s head_widths (λ vs. after_head size (head_of vs)) (omega arith) (λ i. let h = get_lt 2 s (i + 4) bytes in
      past s here _ (λ start. next s _ (numbers_fit s (get 2 s (i + 4))) (λ os e. next s _ (visit-small s 1 1 start texture (texture-small s) os) (λ ts k.
      next s _ (contents-small (get 4 s (i + 8)) (get 2 s (i + 6)) (get_lt 2 s (i + 6) bytes)) (λ cs l. past s (seek_to size) _ (λ end.
      done s _ (wider s (small_word s _ (small_word s _ (small_word s _ (small_word s _ (small-append s k l))))) (omega (arith, e.0)) (omega (arith, e.0)))))))))

  pub section_countable : Gives s (Countable s) section
  unfolding section
  section_countable =
      past s (num 4) _ (λ letters. past s (num 4) _ (λ size.
      either s (eqb letters own_letters) (wider_all s _ _ (body-small size) (omega arith) (omega arith)) (none s _)))
