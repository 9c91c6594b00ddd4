-- The laws of numbers in bytes, each proved once, for every width k. Assumes nothing.
use Rattle.std.specs.Prelude.{Result, Ok, Err}
use Rattle.base.specs.declared.error.PastEnd.{PastEnd}
use mathlib.Core.Path.{◌≡◌, refl, ap, ◌∙◌, sym}
use mathlib.Core.Bool.{Bool, true, false}
use mathlib.Core.List.{List, [], ◌∷◌, ◌++◌, append_assoc}
use mathlib.Core.Logic.{inl, inr, ⊎_elim}
use Prim.Native.Nat.{ℕ, zero, suc, ◌+◌, ◌*◌, ◌/◌, ◌%◌, ◌^◌, ◌-◌, ◌<◌, ◌≤◌, min}
use native.Mathlib.Nat.{add_assoc}
use native.Mathlib.Numerals.{add-one}
use native.Mathlib.Omega.{arith}
use borrow.Author.Tests.{leb-true, leb-false, le-leb, lt-leb}
use lib.Dec.{leb}
use lib.ListN.{length, get_or, set, take, drop, replicate, length-drop}
use lib.Seq.{sets, length-sets, sets-eq, take-nil, drop-nil, drop_at, take_at, length-take-le, get_or-drop, set-get_or}
use Rattle.std.specs.Int.{w16, w32, from_le_bytes}
use Rattle.base.specs.Choice.{pick}
use Rattle.base.specs.Number.{le, val, get, put, read_of, past_end}
use Rattle.base.proofs.Apart.{Apart, sets_away, sets_past}
use Rattle.base.proofs.Stores.{sets_out, sets-sets}

-- ---- bytes, and the numbers that they are

-- each element is a byte: of a slice of bytes `λ i. (c.shared-slice-known.given i).fits`, or `.slice-known` where it is a `&mut`
abbrev pub Bytes : List ℕ → Type 0
Bytes s = (i : ℕ) → get_or s i 0 < 256

pub bytes_take : (n : ℕ) (s : List ℕ) → Bytes s → Bytes (take n s)
bytes_take zero s h i = omega arith
bytes_take (suc n) [] h i = omega arith
bytes_take (suc n) (x ∷ s) h zero = h 0
bytes_take (suc n) (x ∷ s) h (suc i) = bytes_take n s (λ j. h (suc j)) i

pub bytes_drop : (n : ℕ) (s : List ℕ) → Bytes s → Bytes (drop n s)
bytes_drop n s h i = rw (get_or-drop n s i 0) (h (n + i))

pub bytes-append : (s t : List ℕ) → Bytes s → Bytes t → Bytes (s ++ t)
bytes-append [] t h k i = k i
bytes-append (x ∷ s) t h k zero = h 0
bytes-append (x ∷ s) t h k (suc i) = bytes-append s t (λ j. h (suc j)) k i

pub bytes-zeros : (n : ℕ) → Bytes (replicate n 0)
bytes-zeros zero i = omega arith
bytes-zeros (suc n) zero = omega arith
bytes-zeros (suc n) (suc i) = bytes-zeros n i

bytes-set : (s : List ℕ) (i x : ℕ) → Bytes s → x < 256 → Bytes (set s i x)
bytes-set [] i x h b j = h j
bytes-set (y ∷ s) zero x h b zero = b
bytes-set (y ∷ s) zero x h b (suc j) = h (suc j)
bytes-set (y ∷ s) (suc i) x h b zero = h 0
bytes-set (y ∷ s) (suc i) x h b (suc j) = bytes-set s i x (λ m. h (suc m)) b j

pub bytes-sets : (s : List ℕ) (o : ℕ) (v : List ℕ) → Bytes s → Bytes v → Bytes (sets s o v)
bytes-sets s o [] h k = h
bytes-sets s o (x ∷ v) h k = bytes-sets (set s o x) (suc o) v (bytes-set s o x h (k 0)) (λ i. k (suc i))

pub length-le : (k n : ℕ) → length (le k n) ≡ k
unfolding le
length-le zero n = refl
length-le (suc k) n = ap suc (length-le k (n / 256))

pub bytes_le : (k n : ℕ) → Bytes (le k n)
unfolding le
bytes_le zero n i = omega arith
bytes_le (suc k) n zero = omega arith
bytes_le (suc k) n (suc i) = bytes_le k (n / 256) i

pub val-le : (k n : ℕ) → n < 256 ^ k → val (le k n) ≡ n
unfolding le val
val-le zero n h = omega arith
val-le (suc k) n h = let e = val-le k (n / 256) (omega arith) in omega arith

above : (k b v : ℕ) → b < 256 → v < 256 ^ k → b + 256 * v < 256 ^ suc k
above k b v h l = omega arith

pub val_lt : (bs : List ℕ) → Bytes bs → val bs < 256 ^ length bs
unfolding val
val_lt [] h = omega arith
val_lt (b ∷ bs) h = above (length bs) b (val bs) (h 0) (val_lt bs (λ i. h (suc i)))

pub low : (b n : ℕ) → b < 256 → (b + 256 * n) % 256 ≡ b
low b n h = omega arith

high : (b n : ℕ) → b < 256 → (b + 256 * n) / 256 ≡ n
high b n h = omega arith

pub le_val : (bs : List ℕ) → Bytes bs → le (length bs) (val bs) ≡ bs
unfolding le val
le_val [] h = refl
le_val (b ∷ bs) h = rw (low b (val bs) (h 0), high b (val bs) (h 0), le_val bs (λ i. h (suc i)))

-- ---- byte by byte, as code reads and writes

pub get_zero : (s : List ℕ) (at : ℕ) → get 0 s at ≡ 0
unfolding get val
get_zero s at = refl

get_step : (k : ℕ) (s : List ℕ) (at : ℕ) → val (take (suc k) (drop at s)) ≡ get_or s at 0 + 256 * val (take k (drop (suc at) s))
unfolding val
get_step k [] at = rw (drop-nil at, take-nil k)
get_step k (x ∷ s) zero = refl
get_step k (x ∷ s) (suc at) = get_step k s at

pub get_suc : (k : ℕ) (s : List ℕ) (at : ℕ) → get (suc k) s at ≡ get_or s at 0 + 256 * get k s (at + 1)
unfolding get
get_suc k s at = rw add-one (get_step k s at)

pub put_zero : (s : List ℕ) (at n : ℕ) → put 0 s at n ≡ s
unfolding put le
put_zero s at n = refl

pub put_suc : (k : ℕ) (s : List ℕ) (at n : ℕ) → put (suc k) s at n ≡ put k (set s at (n % 256)) (at + 1) (n / 256)
unfolding put le
put_suc k s at n = rw add-one

-- ---- what a read is bounded by, and what it is in bytes

pub get_lt : (k : ℕ) (s : List ℕ) (at : ℕ) → Bytes s → get k s at < 256 ^ k
get_lt zero s at h = omega (arith, get_zero s at)
get_lt (suc k) s at h = rw (get_suc k s at) (above k (get_or s at 0) (get k s (at + 1)) (h at) (get_lt k s (at + 1) h))

-- the bytes of what is read are the bytes that stand there
pub le-get : (k : ℕ) (s : List ℕ) (at : ℕ) → Bytes s → at + k ≤ length s → le k (get k s at) ≡ take k (drop at s)
unfolding get
le-get k s at h l =
    let e : length (take k (drop at s)) ≡ k = length-take-le k (drop at s) (rw length-drop (omega arith)) in
    rw e at (le_val (take k (drop at s)) (bytes_take k (drop at s) (bytes_drop at s h)))

-- ---- a write and a read

pub length-put : (k : ℕ) (s : List ℕ) (at n : ℕ) → length (put k s at n) ≡ length s
unfolding put
length-put k s at n = length-sets s at (le k n)

pub bytes-put : (k : ℕ) (s : List ℕ) (at n : ℕ) → Bytes s → Bytes (put k s at n)
unfolding put
bytes-put k s at n h = bytes-sets s at (le k n) h (bytes_le k n)

-- a write at or past the end changes nothing
pub put_out : (k : ℕ) (s : List ℕ) (at n : ℕ) → length s ≤ at → put k s at n ≡ s
unfolding put
put_out k s at n h = sets_out s at (le k n) h

-- what a run of stores has stored stands there
pub sets-read : (s : List ℕ) (o : ℕ) (v : List ℕ) → o + length v ≤ length s → take (length v) (drop o (sets s o v)) ≡ v
sets-read s o v h =
    rw (sets-eq v s o h, append_assoc, drop_at (take o s) (v ++ drop (o + length v) s) o (length-take-le o s (omega arith)))
    (take_at v (drop (o + length v) s) (length v) refl)

-- what was written is read
pub get-put : (k : ℕ) (s : List ℕ) (at n : ℕ) → n < 256 ^ k → at + k ≤ length s → get k (put k s at n) at ≡ n
unfolding get put
get-put k s at n h l =
    let e : take (length (le k n)) (drop at (sets s at (le k n))) ≡ le k n = sets-read s at (le k n) (rw length-le l) in
    ap val (rw length-le at e) ∙ val-le k n h

-- what was read, written where it was read, changes nothing
pub put-get : (k : ℕ) (s : List ℕ) (at : ℕ) → Bytes s → put k s at (get k s at) ≡ s
put-get zero s at h = put_zero s at (get 0 s at)
put-get (suc k) s at h =
    rw (put_suc k s at (get (suc k) s at), get_suc k s at, low (get_or s at 0) (get k s (at + 1)) (h at), high (get_or s at 0) (get k s (at + 1)) (h at), set-get_or s at 0)
    (put-get k s (at + 1) h)

-- of two writes at one place the later stands: a gap that is patched is as if the number had been written at once
pub put-put : (k : ℕ) (s : List ℕ) (at m n : ℕ) → put k (put k s at m) at n ≡ put k s at n
unfolding put
put-put k s at m n = sets-sets s at (le k m) (le k n) (length-le k m ∙ sym (length-le k n))

-- bytes are written by a store each
pub put_one : (s : List ℕ) (at v : ℕ) → put 1 s at v ≡ set s at (v % 256)
put_one s at v = put_suc 0 s at v ∙ put_zero (set s at (v % 256)) (at + 1) (v / 256)

pub put_two : (s : List ℕ) (at v : ℕ) → put 2 s at v ≡ set (set s at (v % 256)) (at + 1) (v / 256 % 256)
put_two s at v = put_suc 1 s at v ∙ put_one (set s at (v % 256)) (at + 1) (v / 256)

pub put_four : (s : List ℕ) (at v : ℕ) → put 4 s at v ≡ set (set (set (set s at (v % 256)) (at + 1) (v / 256 % 256)) (at + 2) (v / 65536 % 256)) (at + 3) (v / 16777216 % 256)
put_four s at v =
    let two : at + 1 + 1 ≡ at + 2 = omega arith in
    let three : at + 2 + 1 ≡ at + 3 = omega arith in
    let third : v / 256 / 256 ≡ v / 65536 = omega arith in
    let fourth : v / 65536 / 256 ≡ v / 16777216 = omega arith in
    rw (put_suc 3 s at v, put_suc 2 (set s at (v % 256)) (at + 1) (v / 256), two, third, put_two, three, fourth)

-- a loop that writes the k bytes of n from at on, i of them written: a turn, and the end, where the number or the list ends
pub put_turn : (k : ℕ) (s : List ℕ) (at i n : ℕ) → i < k → put (k - (i + 1)) (set s (at + i) (n % 256)) (at + (i + 1)) (n / 256) ≡ put (k - i) s (at + i) n
put_turn k s at i n h =
    let e : k - i ≡ suc (k - (i + 1)) = omega arith in
    rw (e, put_suc (k - (i + 1)) s (at + i) n, add_assoc)

put-none : (k : ℕ) (s : List ℕ) (at n : ℕ) → min k (length s - at) ≡ 0 → put k s at n ≡ s
put-none zero s at n e = put_zero s at n
put-none (suc k) s at n e = put_out (suc k) s at n (omega arith)

pub put_end : (k : ℕ) (s : List ℕ) (at i n : ℕ) → min k (length s - at) ≤ i → put (k - i) s (at + i) n ≡ s
put_end k s at i n h = put-none (k - i) s (at + i) n (omega arith)

-- ---- what a write leaves

-- every other place
pub put_away : (k : ℕ) (s : List ℕ) (at n i : ℕ) → Apart 1 i k at → get_or (put k s at n) i 0 ≡ get_or s i 0
unfolding put
put_away k s at n i h = sets_away s at (le k n) i (rw length-le h)

-- every number beside it
pub get_away : (j : ℕ) (s : List ℕ) (o : ℕ) (v : List ℕ) (b : ℕ) → Apart j b (length v) o → get j (sets s o v) b ≡ get j s b
get_away zero s o v b h = get_zero (sets s o v) b ∙ sym (get_zero s b)
get_away (suc j) s o v b h =
    let a : get_or (sets s o v) b 0 ≡ get_or s b 0 = sets_away s o v b (⊎_elim (λ p. inl (omega arith)) (λ p. inr p) h) in
    let d : get j (sets s o v) (b + 1) ≡ get j s (b + 1) = get_away j s o v (b + 1) (⊎_elim (λ p. inl (omega arith)) (λ p. inr (omega arith)) h) in
    rw (get_suc j (sets s o v) b, get_suc j s b, a, d)

pub get_beside : (j k : ℕ) (s : List ℕ) (at n b : ℕ) → Apart j b k at → get j (put k s at n) b ≡ get j s b
unfolding put
get_beside j k s at n b h = get_away j s at (le k n) b (rw length-le h)

-- a gap that is patched after other runs were stored beside it is as if the number had been written at once
pub patch_late : (k : ℕ) (s : List ℕ) (at m n o : ℕ) (v : List ℕ) → Apart k at (length v) o → put k (sets (put k s at m) o v) at n ≡ sets (put k s at n) o v
unfolding put
patch_late k s at m n o v h =
    let a : Apart (length (le k m)) at (length v) o = rw length-le h in
    rw (sets_past s o v at (le k m) a, sets_past s o v at (le k n) (rw length-le h)) (sets-sets (sets s o v) at (le k m) (le k n) (length-le k m ∙ sym (length-le k n)))

-- ---- reads that may be refused

pub read_there : (k : ℕ) (s : List ℕ) (at : ℕ) → at + k ≤ length s → read_of k s at ≡ Ok (get k s at, at + k)
unfolding read_of
read_there k s at h = rw (le-leb (at + k) (length s) h)

pub read_short : (k : ℕ) (s : List ℕ) (at : ℕ) → length s < at + k → read_of k s at ≡ Err (past_end at k)
unfolding read_of
read_short k s at h = rw (lt-leb (at + k) (length s) h)

-- the same, as code gives its answer
pub read_is : (k : ℕ) (s : List ℕ) (at v : ℕ) → at + k ≤ length s → v ≡ get k s at → Ok (v, at + k) ≡ read_of k s at
read_is k s at v h e = rw e (sym (read_there k s at h))

-- answers that are the same have the same parts
pub err_past : {A : Type 0} {a b c d : ℕ} → ◌≡◌ {A = Result A PastEnd} (Err (past_end a b)) (Err (past_end c d)) → (a ≡ c) × (b ≡ d)
err_past e = let f : past_end _ _ ≡ past_end _ _ = cc in (ap (λ (x : PastEnd). x.offset) f, ap (λ (x : PastEnd). x.requested) f)

pub ok_pair : {A B E : Type 0} {a c : A} {b d : B} → ◌≡◌ {A = Result (A × B) E} (Ok (a, b)) (Ok (c, d)) → (a ≡ c) × (b ≡ d)
ok_pair {A = A} {B = B} e = let f : ◌≡◌ {A = A × B} (_, _) (_, _) = cc in (ap (λ (x : A × B). x.0) f, ap (λ (x : A × B). x.1) f)

-- what a read that gave a number says
pub record Got (k : ℕ) (s : List ℕ) (at v n : ℕ) : Type 0 where
  pub fits : at + k ≤ length s
  pub number : v ≡ get k s at
  pub next : n ≡ at + k

-- what a read that was refused says
pub record Short (k : ℕ) (s : List ℕ) (at p m : ℕ) : Type 0 where
  pub over : length s < at + k
  pub place : p ≡ at
  pub asked : m ≡ k

pub read_value_lem : (k : ℕ) (s : List ℕ) (at v n : ℕ) → read_of k s at ≡ Ok (v, n) → Got k s at v n
unfolding read_of
read_value_lem k s at v n = go (leb (at + k) (length s)) refl
  where
    go : (b : Bool) → leb (at + k) (length s) ≡ b → pick {A = Result (ℕ × ℕ) PastEnd} b (Ok (get k s at, at + k)) (Err (past_end at k)) ≡ Ok (v, n) → Got k s at v n
    go true t e = let same = ok_pair e in record { fits = leb-true (at + k) (length s) t; number = sym same.0; next = sym same.1 }
    go false t e = let z : ◌≡◌ {A = ℕ} 0 1 = cc in absurd (omega arith)

pub read_past : (k : ℕ) (s : List ℕ) (at p m : ℕ) → read_of k s at ≡ Err (past_end p m) → Short k s at p m
unfolding read_of
read_past k s at p m = go (leb (at + k) (length s)) refl
  where
    go : (b : Bool) → leb (at + k) (length s) ≡ b → pick {A = Result (ℕ × ℕ) PastEnd} b (Ok (get k s at, at + k)) (Err (past_end at k)) ≡ Err (past_end p m) → Short k s at p m
    go true t e = let z : ◌≡◌ {A = ℕ} 0 1 = cc in absurd (omega arith)
    go false t e = let same = err_past e in record { over = leb-false (at + k) (length s) t; place = sym same.0; asked = sym same.1 }

-- a read of what was written, and a read beside it
pub read-put : (k : ℕ) (s : List ℕ) (at n : ℕ) → n < 256 ^ k → at + k ≤ length s → read_of k (put k s at n) at ≡ Ok (n, at + k)
read-put k s at n h l =
    rw (read_there k (put k s at n) at (rw length-put l), get-put k s at n h l)

pub read_away : (j : ℕ) (s : List ℕ) (o : ℕ) (v : List ℕ) (b : ℕ) → Apart j b (length v) o → read_of j (sets s o v) b ≡ read_of j s b
unfolding read_of
read_away j s o v b h = rw (length-sets s o v, get_away j s o v b h)

pub read_beside : (j k : ℕ) (s : List ℕ) (at n b : ℕ) → Apart j b k at → read_of j (put k s at n) b ≡ read_of j s b
unfolding put
read_beside j k s at n b h = read_away j s at (le k n) b (rw length-le h)

-- ---- the number that the library's `from_le_bytes` gives

pub from_two : (s : List ℕ) (at : ℕ) → from_le_bytes w16 (get_or s at 0 ∷ get_or s (at + 1) 0 ∷ []) ≡ get 2 s at
from_two s at = omega (arith, get_suc 1 s at, get_suc 0 s (at + 1), get_zero s (at + 1 + 1))

pub from_four : (s : List ℕ) (at : ℕ) → from_le_bytes w32 (get_or s at 0 ∷ get_or s (at + 1) 0 ∷ get_or s (at + 2) 0 ∷ get_or s (at + 3) 0 ∷ []) ≡ get 4 s at
from_four s at =
    let a : ℕ = get_or s at 0 in
    let b : ℕ = get_or s (at + 1) 0 in
    let c : ℕ = get_or s (at + 2) 0 in
    let d : ℕ = get_or s (at + 3) 0 in
    let e : from_le_bytes w32 (a ∷ b ∷ c ∷ d ∷ []) ≡ a + b * 256 + c * 65536 + d * 16777216 = refl in
    let two : get 2 s (at + 1 + 1) ≡ get 2 s (at + 2) = ap (get 2 s) (omega arith) in
    let three : get 1 s (at + 2 + 1) ≡ get 1 s (at + 3) = ap (get 1 s) (omega arith) in
    e ∙ omega (arith, two, three, get_suc 3 s at, get_suc 2 s (at + 1), get_suc 1 s (at + 2), get_suc 0 s (at + 3), get_zero s (at + 3 + 1))
