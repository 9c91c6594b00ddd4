-- What the stores of a walk are in terms of `run`.
-- Assumes nothing.
use Rattle.base.specs.declared.error.PastEnd.{PastEnd as Past}
use Prim.Native.Nat.{ℕ, min, ◌+◌, ◌-◌, ◌<◌, ◌≤◌}
use mathlib.Core.Path.{◌≡◌, refl, ap, sym, ◌∙◌}
use mathlib.Core.Bool.{Bool, true, false}
use mathlib.Core.List.{List, [], ◌∷◌, append-nil}
use native.Mathlib.Numerals.{add-one}
use native.Mathlib.Omega.{arith}
use lib.ListN.{length, set, take, drop}
use lib.Seq.{sets, slice, length-slice}
use Rattle.base.specs.Choice.{pick}
use Rattle.base.specs.Utf8.{decode, decoded_size, replacements}
use Rattle.base.proofs.Seeks.{seek_there, seek_over}
use Rattle.base.proofs.utf8.Laws.{decode_bound, well_from, well_none}
use Rattle.base.proofs.utf8.Turns.{part_is}
use Rattle.bflan.specs.declared.reader.tally.Tables.{Tables}
use Rattle.bflan.specs.declared.reader.tally.Tally.{Tally}
use Rattle.std.specs.Prelude.{Ok, Err}
use Rattle.base.specs.Number.{read_of}
use Rattle.base.specs.Seek.{seek_of}
use Rattle.base.specs.Text.{ended_of}
use Rattle.bflan.specs.declared.fault.Fault.TheVariants.{PastEnd}
use Rattle.bflan.specs.Reader.{past_fault, ok, stop, word, text, num, seek_to, ended_text, one_ended}
use Rattle.bflan.specs.pai1.Reading.{texture}
use Rattle.bflan.proofs.reader.KeyRuns.{moved_more}
use Rattle.bflan.specs.Items.{shown_at, words_of, texts_of}
use Rattle.bflan.specs.inner.Walk.{sat, with_words, with_text_of, tallied, after}

-- the decoded length of a part of a section
pub shown-size : (s : List ℕ) (start len size : ℕ) (part : List ℕ) → start + len ≤ length s → length s ≤ 16777216 → part ≡ slice start (start + len) s → size ≡ decoded_size part
    → (size ≡ length (shown_at s start len)) × (size ≤ 50331648)
unfolding decoded_size
shown-size s start len size part h k ep es =
    let b = decode_bound (slice start (start + len) s) in
    let l = length-slice start (start + len) s h in
    let e : size ≡ min (length (decode (slice start (start + len) s))) 18446744073709551615 = rw ep at es in
    (omega (arith, b, l, e), omega (arith, b, l, e))

pub shown_part : (s : List ℕ) (start len : ℕ) → take (start + len - start) (drop start s) ≡ slice start (start + len) s
shown_part s start len = part_is start (start + len) s (omega arith)

-- two stores, one after the other
pub two_stores : (w : List ℕ) (at a b : ℕ) (u v : List ℕ) → u ≡ set w at a → v ≡ set u (at + 1) b → v ≡ sets w at (a ∷ b ∷ [])
two_stores w at a b u v eu ev = rw (ev, eu, add-one)

-- ---- a text that ends at a zero, by core's answer

module _ (s : List ℕ) (p : ℕ) where
  pub ended_on : (len next : ℕ) → ended_of s p ≡ Ok (len, next) → one_ended s p ≡ ok (text p len ∷ []) next
  unfolding one_ended ended_text
  ended_on len next e = rw e

-- ---- a seek, by core's answer

module _ (s : List ℕ) (to i : ℕ) where
  pub sought_on : (q : ℕ) → seek_of s to ≡ Ok q → seek_to to s i ≡ ok q q
  unfolding seek_to
  sought_on q e = rw e

  pub sought_past : (f : Past) → seek_of s to ≡ Err f → seek_to to s i ≡ stop (past_fault f)
  unfolding seek_to
  sought_past f e = rw e

  -- within the section, and beyond it
  pub sought_there : to ≤ length s → seek_to to s i ≡ ok to to
  sought_there h = sought_on to (seek_there s to h)

  pub sought_over : length s < to → seek_to to s i ≡ stop (PastEnd (length s) (to - length s))
  sought_over h = sought_past _ (seek_over s to h)

-- ---- a number, by core's answer

module _ (k : ℕ) (s : List ℕ) (i : ℕ) where
  pub num_on : (v q : ℕ) → read_of k s i ≡ Ok (v, q) → num k s i ≡ ok v q
  unfolding num
  num_on v q e = rw e

  pub num_past : (f : Past) → read_of k s i ≡ Err f → num k s i ≡ stop (past_fault f)
  unfolding num
  num_past f e = rw e

-- ---- a texture, by its seek

module _ (s : List ℕ) (base i : ℕ) where
  pub texture_on : (q : ℕ) → seek_of s base ≡ Ok q → texture base s i ≡ one_ended s q
  unfolding texture
  texture_on q e = rw (sought_on s base i q e)

  pub texture_past : (f : Past) → seek_of s base ≡ Err f → texture base s i ≡ stop (past_fault f)
  unfolding texture
  texture_past f e = rw (sought_past s base i f e)

-- a name that was guessed
pub texture-plain : (base : ℕ) (s : List ℕ) (i n : ℕ) → base + n < length s → ended_of s base ≡ Ok (n, base + n + 1) → texture base s i ≡ ok (text base n ∷ []) (base + n + 1)
texture-plain base s i n h e = texture_on s base i base (seek_there s base (omega arith)) ∙ ended_on s base n (base + n + 1) e

-- a text of the section that may be known to be shown as it is: its bytes, its size, and how many U+FFFD are put in
module _ (s : List ℕ) (start len : ℕ) (plain : Bool) (part : List ℕ) (ep : part ≡ slice start (start + len) s) (f : plain ≡ true → shown_at s start len ≡ slice start (start + len) s) where
  pub known_bytes : pick plain part (decode part) ≡ shown_at s start len
  known_bytes = rw ep (go plain f)
    where
      go : (b : Bool) → (b ≡ true → shown_at s start len ≡ slice start (start + len) s) → pick b (slice start (start + len) s) (shown_at s start len) ≡ shown_at s start len
      go true k = sym (k refl)
      go false k = refl

  pub known_count : (before sum : ℕ) → sum ≡ sat (before + pick plain 0 (replacements part)) → sum ≡ sat (before + replacements (slice start (start + len) s))
  known_count before sum ec = go plain f (rw ep at ec)
    where
      go : (b : Bool) → (b ≡ true → shown_at s start len ≡ slice start (start + len) s) → sum ≡ sat (before + pick b 0 (replacements (slice start (start + len) s)))
          → sum ≡ sat (before + replacements (slice start (start + len) s))
      go true g e = e ∙ ap (λ (n : ℕ). sat (before + n)) (well_none _ (well_from _ (g refl)))
      go false g e = e

  pub known_size : (size : ℕ) → start + len ≤ length s → length s ≤ 16777216 → size ≡ pick plain (length part) (decoded_size part)
      → (size ≡ length (shown_at s start len)) × (size ≤ 50331648)
  known_size size h k es = go plain f (rw ep at es)
    where
      l : length (slice start (start + len) s) ≡ start + len - start
      l = length-slice start (start + len) s h

      go : (b : Bool) → (b ≡ true → shown_at s start len ≡ slice start (start + len) s) → size ≡ pick b (length (slice start (start + len) s)) (decoded_size (slice start (start + len) s))
          → (size ≡ length (shown_at s start len)) × (size ≤ 50331648)
      go true g e = (e ∙ sym (ap length (g refl)), omega (arith, e, l))
      go false g e = shown-size s start len size (slice start (start + len) s) h k refl e

-- ---- what is stored, as items

module _ (s : List ℕ) (t : Tables) where
  pub after_one : (a : ℕ) {out : List ℕ} {u : Tally} → out ≡ set t.words.now t.tally.words a → u ≡ with_words t.tally 1
      → record t { words = record t.words { now = out }; tally = u } ≡ after s t (word a ∷ [])
  unfolding tallied words_of texts_of
  after_one a eo eu = rw (eo, eu)

  pub after_two : (a b : ℕ) {out : List ℕ} {u : Tally} → out ≡ sets t.words.now t.tally.words (a ∷ b ∷ []) → u ≡ with_words t.tally 2
      → record t { words = record t.words { now = out }; tally = u } ≡ after s t (word a ∷ word b ∷ [])
  unfolding tallied words_of texts_of
  after_two a b eo eu = rw (eo, eu, moved_more t.tally 1 1)

  pub after_text : (a n : ℕ) {out shown : List ℕ} {u : Tally} → out ≡ set t.words.now t.tally.words (length (shown_at s a n)) → shown ≡ sets t.texts.now t.tally.bytes (shown_at s a n)
      → u ≡ with_text_of s t.tally a n
      → record t { words = record t.words { now = out }; texts = record t.texts { now = shown }; tally = u } ≡ after s t (text a n ∷ [])
  unfolding tallied words_of texts_of
  after_text a n eo ex eu = rw (eo, ex, eu, append-nil)
