-- The journal's entries: a new one is read back and leaves those below it, its old bytes are unpacked as they were packed, and they undo
-- the edit that they were taken from. Assumes nothing.
use Prim.Native.Nat.{ℕ, zero, suc, ◌+◌, ◌-◌, ◌*◌, ◌<◌, ◌≤◌}
use mathlib.Core.Path.{◌≡◌, refl, sym, ap, ◌∙◌}
use mathlib.Core.Bool.{true}
use mathlib.Core.List.{List, [], ◌∷◌, ◌++◌, append_assoc}
use native.Mathlib.Omega.{arith}
use borrow.Author.Tests.{le-leb}
use lib.ListN.{length, set, take, drop, replicate, length-append, length-drop, length-replicate, take-append-drop}
use lib.Seq.{sets, length-sets, sets-eq, take_at, drop_at, take_all, drop-drop, length-take-le, take-set-le, drop-set-lt}
use Rattle.base.proofs.Numbers.{Bytes, bytes_take, bytes_drop, bytes-append, bytes-zeros, le-get, sets-read}
use Rattle.base.proofs.Stores.{sets-sets}
use Rattle.bflan.specs.pai1.Places.{widths, total}
use Rattle.bflan.specs.pai1.Record.{key_widths}
use Rattle.bflan.specs.declared.place.Field.{Field}
use Rattle.bflan.specs.declared.place.Field.TheVariants.{FrameCount, Looping, Layer, Target, Key, Value}
use Rattle.edit.specs.Editing.{old_at, restored}
use Rattle.edit.specs.Journal.{entry_words, capacity, entry_at, padded, entry_of, offset_in, count_in, bytes_in, field_size, all_zero, restorable}

-- ---- what a run of stores leaves of the parts beside it

part_set : (k a : ℕ) (s : List ℕ) (o x : ℕ) → a + k ≤ o → take k (drop a (set s o x)) ≡ take k (drop a s)
part_set k zero s o x h = take-set-le k s o x (omega arith)
part_set k (suc a) [] o x h = refl
part_set k (suc a) (y ∷ s) zero x h = absurd (omega arith)
part_set k (suc a) (y ∷ s) (suc o) x h = part_set k a s o x (omega arith)

-- a part before it
pub part_sets : (k a : ℕ) (s : List ℕ) (o : ℕ) (v : List ℕ) → a + k ≤ o → take k (drop a (sets s o v)) ≡ take k (drop a s)
part_sets k a s o [] h = refl
part_sets k a s o (x ∷ v) h = part_sets k a (set s o x) (suc o) v (omega arith) ∙ part_set k a s o x h

-- all that is behind it
pub drop-sets : (k : ℕ) (s : List ℕ) (o : ℕ) (v : List ℕ) → o + length v ≤ k → drop k (sets s o v) ≡ drop k s
drop-sets k s o [] h = refl
drop-sets k s o (x ∷ v) h = drop-sets k (set s o x) (suc o) v (omega arith) ∙ drop-set-lt k s o x (omega arith)

-- what stands there, stored there, changes nothing
sets_own : (s : List ℕ) (at n : ℕ) → at + n ≤ length s → sets s at (take n (drop at s)) ≡ s
sets_own s at n h =
    let l : length (take n (drop at s)) ≡ n = length-take-le n (drop at s) (rw length-drop (omega arith)) in
    sets-eq (take n (drop at s)) s at (omega arith)
    ∙ rw (l, append_assoc, ← drop-drop n at s, take-append-drop n (drop at s), take-append-drop at s)

-- an edit is taken back by the bytes that stood there
pub sets_back : (s : List ℕ) (at n : ℕ) (new : List ℕ) → length new ≡ n → at + n ≤ length s → sets (sets s at new) at (take n (drop at s)) ≡ s
sets_back s at n new e h =
    let l : length (take n (drop at s)) ≡ n = length-take-le n (drop at s) (rw length-drop (omega arith)) in
    sets-sets s at new (take n (drop at s)) (e ∙ sym l) ∙ sets_own s at n h

-- ---- entries of a journal

pub room : (j : List ℕ) (n : ℕ) → n < capacity j → entry_words * n + entry_words ≤ length j
unfolding capacity
room j n h = omega arith

module _ (j e : List ℕ) (n : ℕ) where
  pub capacity-sets : capacity (sets j (entry_words * n) e) ≡ capacity j
  unfolding capacity
  capacity-sets = rw (length-sets j (entry_words * n) e)

  pub entry_new : length e ≡ entry_words → entry_words * n + entry_words ≤ length j → entry_at (sets j (entry_words * n) e) n ≡ e
  unfolding entry_at
  entry_new l h = rw l at (sets-read j (entry_words * n) e (omega arith))

  pub entry_below : (m : ℕ) → m < n → entry_at (sets j (entry_words * n) e) m ≡ entry_at j m
  unfolding entry_at
  entry_below m h = part_sets entry_words (entry_words * m) j (entry_words * n) e (omega arith)

-- ---- the old bytes in an entry

zeros_zero : (n : ℕ) → all_zero (replicate n 0) ≡ true
unfolding all_zero
zeros_zero zero = refl
zeros_zero (suc n) = zeros_zero n

-- three times four bytes
thrice : (p : List ℕ) → length p ≡ 12 → take 4 (drop 0 p) ++ (take 4 (drop 4 p) ++ take 4 (drop 8 p)) ≡ p
thrice p l =
    let k : length (drop 8 p) ≤ 4 = rw length-drop (omega arith) in
    rw (take_all 4 (drop 8 p) k, ← drop-drop 4 4 p, take-append-drop 4 (drop 4 p), take-append-drop 4 p)

module _ (at : ℕ) (old : List ℕ) (b : Bytes old) (h : length old ≤ 12) where
  bytes-padded : bytes_in (entry_of at old) ≡ padded old
  unfolding bytes_in entry_of padded
  bytes-padded =
      let p : List ℕ = old ++ replicate (12 - length old) 0 in
      let l : length p ≡ 12 = rw (length-append, length-replicate) (omega arith) in
      let bp : Bytes p = bytes-append old (replicate (12 - length old) 0) b (bytes-zeros (12 - length old)) in
      rw (le-get 4 p 0 bp (omega arith), le-get 4 p 4 bp (omega arith), le-get 4 p 8 bp (omega arith)) (thrice p l)

  pub old_back : take (length old) (bytes_in (entry_of at old)) ≡ old
  old_back = ap (take (length old)) bytes-padded ∙ (unfold padded in take_at old (replicate (12 - length old) 0) (length old) refl)

  pub fill_zero : all_zero (drop (length old) (bytes_in (entry_of at old))) ≡ true
  fill_zero =
      ap (λ (bs : List ℕ). all_zero (drop (length old) bs)) bytes-padded
      ∙ (unfold padded in rw (drop_at old (replicate (12 - length old) 0) (length old) refl) (zeros_zero (12 - length old)))

-- ---- fields

-- what holds of the widths that there are holds of every field's
pub of_widths : (P : List ℕ → Type 0) → P (1 ∷ []) → P (2 ∷ []) → P (4 ∷ []) → P (4 ∷ 2 ∷ []) → P (4 ∷ 4 ∷ 4 ∷ []) → (f : Field) → P (widths f)
unfolding widths key_widths
of_widths P one two four step hermite FrameCount = two
of_widths P one two four step hermite Looping = one
of_widths P one two four step hermite Layer = one
of_widths P one two four step hermite (Target letters) = one
of_widths P one two four step hermite (Key zero) = four
of_widths P one two four step hermite (Key (suc zero)) = step
of_widths P one two four step hermite (Key (suc (suc c))) = hermite
of_widths P one two four step hermite Value = four

-- one of the sizes that an entry can have
pub field_size_lem : (f : Field) → field_size (total (widths f)) ≡ true
unfolding field_size total
field_size_lem f = of_widths (λ ks. field_size (total ks) ≡ true) refl refl refl refl refl f

pub field_short : (f : Field) → total (widths f) ≤ 12
unfolding total
field_short f = of_widths (λ ks. total ks ≤ 12) (omega arith) (omega arith) (omega arith) (omega arith) (omega arith) f

-- ---- an edit's entry

offset_own : (at : ℕ) (old : List ℕ) → offset_in (entry_of at old) ≡ at
unfolding entry_of
offset_own at old = refl

count_own : (at : ℕ) (old : List ℕ) → count_in (entry_of at old) ≡ length old
unfolding entry_of
count_own at old = refl

module _ (s : List ℕ) (at : ℕ) (f : Field) (b : Bytes s) (h : at + total (widths f) ≤ length s) where
  old_length : length (old_at s at (total (widths f))) ≡ total (widths f)
  old_length = length-take-le (total (widths f)) (drop at s) (rw length-drop (omega arith))

  old_bytes_lem : Bytes (old_at s at (total (widths f)))
  old_bytes_lem = bytes_take (total (widths f)) (drop at s) (bytes_drop at s b)

  old_short : length (old_at s at (total (widths f))) ≤ 12
  old_short = omega (arith, old_length, field_short f)

  -- it can be undone
  pub entry-restorable : restorable (length s) (entry_of at (old_at s at (total (widths f)))) ≡ true
  unfolding restorable
  entry-restorable =
      let old : List ℕ = old_at s at (total (widths f)) in
      let e : length old ≡ total (widths f) = old_length in
      let i : at + length old ≤ length s = omega (arith, e, h) in
      rw (offset_own at old, count_own at old, fill_zero at old old_bytes_lem old_short, le-leb (at + length old) (length s) i, e, field_size_lem f)

  -- and gives the section back
  pub entry_restores : (new : List ℕ) → length new ≡ total (widths f) → restored (sets s at new) (entry_of at (old_at s at (total (widths f)))) ≡ s
  unfolding restored
  entry_restores new e =
      let old : List ℕ = old_at s at (total (widths f)) in
      rw (offset_own at old, count_own at old, old_back at old old_bytes_lem old_short) (sets_back s at (total (widths f)) new e h)
