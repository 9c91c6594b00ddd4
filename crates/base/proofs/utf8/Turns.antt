-- What a step of the code does at a position of a text.
-- Assumes nothing.
use Rattle.std.specs.Prelude.{Ok}
use Prim.Native.Nat.{ℕ, zero, suc, min, ◌+◌, ◌-◌, ◌*◌, ◌<◌, ◌≤◌}
use mathlib.Core.Path.{◌≡◌, refl, ap, ap₂, sym, ◌∙◌}
use mathlib.Core.Bool.{Bool, true, false, ◌&&◌}
use borrow.Author.Tests.{ltb-true, eqb-true}
use lib.Dec.{leb, ltb, eqb}
use mathlib.Core.List.{List, [], ◌∷◌, ◌++◌, append-nil}
use native.Mathlib.Nat.{add-zero, zero-add}
use native.Mathlib.Numerals.{add-one}
use native.Mathlib.Omega.{arith}
use lib.ListN.{length, get_or, take, drop, length-append, length-drop, drop_of_length-le, take-append-drop}
use lib.Seq.{sets, slice, slice_empty, length-slice, drop-cons, drop-drop, take-nil}
use Rattle.base.specs.declared.utf8.step.Step.{Step}
use Rattle.base.specs.declared.utf8.step.Step.TheVariants.{Good, Bad}
use Rattle.base.specs.Utf8.{rows, class_of, later_of, matched, more, good, step_of, replacement, decode, decoded_size, valid_up_to, replacements}
use Rattle.base.specs.Choice.{pick}
use Rattle.base.specs.Text.{before_zero, first_fault, every, not_zero, ascii, plain, is_plain, plain_at, ended_of}
use Rattle.base.specs.inner.Scan.{ill_size, ascii_seen, added, Lones}
use Rattle.base.proofs.Stores.{sets_on}
use Rattle.base.proofs.Tests.{every_at}
use Rattle.base.proofs.Zeros.{byte_some, free_of, ended_there}
use Rattle.base.proofs.utf8.Steps.{matched_none, ascii_class, step_none}
use Rattle.base.proofs.utf8.Pieces.{more_within, step_good, step_bad, decode_nil, decode-good, valid_nil, valid_good, valid_bad, ill_nil, ill_bad, count_nil, count-good}
use Rattle.base.proofs.utf8.Laws.{both_true, good_from, whole_well, decode_well, valid_le, decode_front, ill-short, ill-within, ill_or_end, decode-ill, count_front, count-ill, well_none}

-- ---- parts of a list

pub take-drop : (i k : ℕ) (l : List ℕ) → take k (drop i l) ≡ slice i (i + k) l
take-drop zero k l = rw zero-add
take-drop (suc i) k [] = simp take-nil
take-drop (suc i) k (x ∷ l) = rw (native.Mathlib.Nat.suc-add i k) (take-drop i k l)

pub valid_end : (s : List ℕ) (i : ℕ) → length s ≤ i → valid_up_to (drop i s) ≡ 0
valid_end s i h = rw (drop_of_length-le s h) valid_nil

pub ill_end : (s : List ℕ) (i : ℕ) → length s ≤ i → ill_size (drop i s) ≡ 0
ill_end s i h = rw (drop_of_length-le s h) ill_nil

-- ---- a step

pub record GoodAt (s : List ℕ) (i k : ℕ) : Type 0 where
  pub some : 1 ≤ k
  pub reach : i + k ≤ length s
  pub on : i + k + valid_up_to (drop (i + k) s) ≡ i + valid_up_to (drop i s)
  pub split : decode (drop i s) ≡ slice i (i + k) s ++ decode (drop (i + k) s)
  pub count : replacements (drop i s) ≡ replacements (drop (i + k) s)

pub record BadAt (s : List ℕ) (i k : ℕ) : Type 0 where
  pub some : 1 ≤ k
  pub reach : i + k ≤ length s
  pub here : valid_up_to (drop i s) ≡ 0
  pub size : k ≡ ill_size (drop i s)

module _ (s : List ℕ) (i k : ℕ) (h : i < length s) where
  cut : drop i s ≡ get_or s i 0 ∷ drop (i + 1) s
  cut = rw add-one (drop-cons s i 0 h)

  reached : suc (more (get_or s i 0) (drop (i + 1) s)) ≡ k → (1 ≤ k) × (i + k ≤ length s)
  reached e =
      let m = more_within (get_or s i 0) (drop (i + 1) s) in
      let d = length-drop (i + 1) s in
      omega arith

  rest : suc (more (get_or s i 0) (drop (i + 1) s)) ≡ k → drop (more (get_or s i 0) (drop (i + 1) s)) (drop (i + 1) s) ≡ drop (i + k) s
  rest e =
      let q : i + 1 + more (get_or s i 0) (drop (i + 1) s) ≡ i + k = omega arith in
      drop-drop (more (get_or s i 0) (drop (i + 1) s)) (i + 1) s ∙ ap (λ (n : ℕ). drop n s) q

  pub good_at : (r : Step) → r ≡ step_of (get_or s i 0) (drop (i + 1) s) → r ≡ Good k → GoodAt s i k
  good_at r er ek =
      let g = step_good (get_or s i 0) (drop (i + 1) s) k (sym er ∙ ek) in
      let x = get_or s i 0 in
      let xs = drop (i + 1) s in
      let w : x ∷ take (more x xs) xs ≡ slice i (i + k) s = ap (take (suc (more x xs))) (sym cut) ∙ rw g.1 (take-drop i k s) in
      let b = reached g.1 in
      let a = ap valid_up_to cut ∙ valid_good x xs g.0 in
      let d = ap valid_up_to (rest g.1) in
      record {
        some = b.0;
        reach = b.1;
        on = omega (arith, a, d, g.1);
        split =
            ap decode cut
            ∙ decode-good x xs g.0
            ∙ ap (λ (l : List ℕ). l ++ decode (drop (more x xs) xs)) w
            ∙ ap (λ (l : List ℕ). slice i (i + k) s ++ decode l) (rest g.1);
        count = ap replacements cut ∙ count-good x xs g.0 ∙ ap replacements (rest g.1);
      }

  pub bad_at : (r : Step) → r ≡ step_of (get_or s i 0) (drop (i + 1) s) → r ≡ Bad k → BadAt s i k
  bad_at r er ek =
      let g = step_bad (get_or s i 0) (drop (i + 1) s) k (sym er ∙ ek) in
      let b = reached g.1 in
      record {
        some = b.0;
        reach = b.1;
        here = ap valid_up_to cut ∙ valid_bad _ _ g.0;
        size = sym (ap ill_size cut ∙ ill_bad _ _ g.0 ∙ g.1);
      }

-- ---- a run of ASCII

ascii-good : (x : ℕ) (xs : List ℕ) → x < 128 → (good x xs ≡ true) × (more x xs ≡ 0)
unfolding more
ascii-good x xs h =
    let e = ascii_class x h in
    let m : matched (later_of (class_of x)) xs ≡ 0 = rw e (unfold later_of rows in sym (matched_none xs)) in
    (good_from x xs (rw e refl) (m ∙ rw e (unfold later_of rows in refl)), m)

pub ascii_run : (s : List ℕ) (i m : ℕ) → i + m ≤ length s → ((j : ℕ) → j < m → get_or s (i + j) 0 < 128) → i + m + valid_up_to (drop (i + m) s) ≡ i + valid_up_to (drop i s)
ascii_run s i zero h f = rw add-zero
ascii_run s i (suc m) h f =
    let lt : i < length s = omega arith in
    let x = get_or s i 0 in
    let g = ascii-good x (drop (i + 1) s) (rw add-zero at (f 0 (omega arith))) in
    let a = ap valid_up_to (cut s i 1 lt) ∙ valid_good x (drop (i + 1) s) g.0 in
    let d : valid_up_to (drop (more x (drop (i + 1) s)) (drop (i + 1) s)) ≡ valid_up_to (drop (i + 1) s) = rw g.1 in
    let p : i + 1 + m ≡ i + suc m = omega arith in
    let n : i + 1 + m + valid_up_to (drop (i + 1 + m) s) ≡ i + 1 + valid_up_to (drop (i + 1) s) =
    ascii_run s (i + 1) m (omega arith) (λ j q. let e : i + suc j ≡ i + 1 + j = omega arith in rw e at (f (suc j) (omega arith))) in
    let w : valid_up_to (drop (i + suc m) s) ≡ valid_up_to (drop (i + 1 + m) s) = rw p in
    omega (arith, a, d, g.1)

-- what the tests of a byte say
pub ascii-byte : (b : ℕ) → ascii b ≡ true → b < 128
ascii-byte b e = ltb-true b 128 e

pub plain_byte : (b : ℕ) → plain b ≡ true → (0 < b) × (b < 128)
plain_byte b e = let h = both_true (not_zero b) (ascii b) e in (byte_some b h.0, ascii-byte b h.1)

-- a text that is seen to be ASCII has no other byte
pub seen_ascii : (s : List ℕ) → ascii_seen s ≡ true → (k : ℕ) → k < length s → get_or s k 0 < 128
unfolding ascii_seen
seen_ascii s e k h = go (leb 8 (length s) && leb (length s) 32) e
  where
    go : (b : Bool) → every (pick b plain ascii) s ≡ true → get_or s k 0 < 128
    go true f = (plain_byte _ (every_at plain s f k h)).1
    go false f = ascii-byte _ (every_at ascii s f k h)

-- and so has a plain text, and no zero
pub plain-bytes : (t : List ℕ) → is_plain t ≡ true → (k : ℕ) → k < length t → (0 < get_or t k 0) × (get_or t k 0 < 128)
unfolding is_plain
plain-bytes t e k h = plain_byte _ (every_at plain t (both_true (leb 8 (length t) && leb (length t) 32) (every plain t) e).1 k h)

-- a text that is all ASCII is its own decoding
pub ascii_valid : (s : List ℕ) → ((j : ℕ) → j < length s → get_or s j 0 < 128) → valid_up_to s ≡ length s
ascii_valid s f =
    let r = ascii_run s 0 (length s) (omega arith) (λ j h. rw zero-add (f j h)) in
    let e = valid_end s (0 + length s) (omega arith) in
    omega (arith, r, e)

-- a text of ASCII without a zero has no fault
pub plain_fault : (s : List ℕ) → is_plain s ≡ true → length s ≡ first_fault s
unfolding first_fault
plain_fault s e =
    let f = plain-bytes s e in
    let z = free_of s (λ k h e. let p = (f k h).0 in omega (arith, p, e)) in
    let a = ascii_valid s (λ k h. (f k h).1) in
    omega (arith, z, a)

pub ascii_decode : (s : List ℕ) → ((j : ℕ) → j < length s → get_or s j 0 < 128) → decode s ≡ s
ascii_decode s f = decode_well s (whole_well s (ascii_valid s f))

pub ascii_size : (s : List ℕ) → length s < 18446744073709551616 → ((j : ℕ) → j < length s → get_or s j 0 < 128) → length s ≡ decoded_size s
unfolding decoded_size
ascii_size s h f = rw (ascii_decode s f) (omega arith)

pub ascii_none : (s : List ℕ) → ((j : ℕ) → j < length s → get_or s j 0 < 128) → 0 ≡ replacements s
ascii_none s f = well_none s (whole_well s (ascii_valid s f))

-- ---- a walk that came to an ill-formed subpart or to the end

pub run_end : (s : List ℕ) (from end skip : ℕ) → end + valid_up_to (drop end s) ≡ from + valid_up_to (drop from s) → (skip ≡ 0 → length s ≤ end)
    → (0 < skip → (skip ≡ ill_size (drop end s)) × (valid_up_to (drop end s) ≡ 0)) → (end ≡ from + valid_up_to (drop from s)) × (skip ≡ ill_size (drop end s))
run_end s from end zero e last bad = (omega (arith, e, valid_end s end (last refl)), sym (ill_end s end (last refl)))
run_end s from end (suc k) e last bad = let b = bad (omega arith) in (omega (arith, e, b.1), b.0)

-- ---- a run: the characters from i on, and the ill-formed subpart behind them

pub record RunAt (s : List ℕ) (i end skip : ℕ) : Type 0 where
  pub start : i ≤ end
  pub reach : end + skip ≤ length s
  pub short : skip ≤ 3
  pub last : skip ≡ 0 → end ≡ length s
  pub whole : skip ≡ 0 → decode (drop i s) ≡ slice i end s
  pub split : 0 < skip → decode (drop i s) ≡ slice i end s ++ (replacement ++ decode (drop (end + skip) s))
  pub none : skip ≡ 0 → replacements (drop i s) ≡ 0
  pub one : 0 < skip → replacements (drop i s) ≡ suc (replacements (drop (end + skip) s))

module _ (s : List ℕ) (i end skip : ℕ) (h : i ≤ length s) (e : end ≡ i + valid_up_to (drop i s)) (k : skip ≡ ill_size (drop end s)) where
  behind : drop (valid_up_to (drop i s)) (drop i s) ≡ drop end s
  behind = drop-drop (valid_up_to (drop i s)) i s ∙ rw (← e)

  bounds : (i ≤ end) × (end ≤ length s)
  bounds = let l = valid_le (drop i s) in let d = length-drop i s in omega (arith, l, d, e)

  front : decode (drop i s) ≡ slice i end s ++ decode (drop end s)
  front =
      decode_front (drop i s)
      ∙ ap (λ (l : List ℕ). l ++ decode (drop (valid_up_to (drop i s)) (drop i s))) (take-drop i (valid_up_to (drop i s)) s ∙ ap (λ (n : ℕ). slice i n s) (sym e))
      ∙ ap (λ (l : List ℕ). slice i end s ++ decode l) behind

  count : replacements (drop i s) ≡ replacements (drop end s)
  count = count_front (drop i s) ∙ ap replacements behind

  ended : skip ≡ 0 → end ≡ length s
  ended q =
      let z : ill_size (drop (valid_up_to (drop i s)) (drop i s)) ≡ 0 = ap ill_size behind ∙ sym k ∙ q in
      let w = ill_or_end (drop i s) z in
      let d = length-drop i s in
      omega (arith, w, d, e)

  pub run_at : RunAt s i end skip
  run_at =
      let b = bounds in
      let w = ill-within (drop end s) in
      let d = length-drop end s in
      record {
        start = b.0;
        reach = omega (arith, b.1, w, d, k);
        short = rw k (ill-short (drop end s));
        last = ended;
        whole = λ q. front ∙ ap (λ (l : List ℕ). slice i end s ++ decode l) (nothing q) ∙ ap (λ (l : List ℕ). slice i end s ++ l) decode_nil ∙ append-nil (slice i end s);
        split = λ q. front ∙ ap (λ (l : List ℕ). slice i end s ++ l) (there q);
        none = λ q. count ∙ ap replacements (nothing q) ∙ count_nil;
        one = λ q. count ∙ counted q;
      }
    where
      nothing : skip ≡ 0 → drop end s ≡ []
      nothing q = let w : length s ≤ end = omega (arith, ended q) in drop_of_length-le s w

      passed : drop (ill_size (drop end s)) (drop end s) ≡ drop (end + skip) s
      passed = ap (λ (n : ℕ). drop n (drop end s)) (sym k) ∙ drop-drop skip end s

      there : 0 < skip → decode (drop end s) ≡ replacement ++ decode (drop (end + skip) s)
      there q =
          decode-ill (drop end s) (omega (arith, q, k))
          ∙ ap (λ (l : List ℕ). replacement ++ decode l) passed

      counted : 0 < skip → replacements (drop end s) ≡ suc (replacements (drop (end + skip) s))
      counted q = count-ill (drop end s) (omega (arith, q, k)) ∙ ap (λ (l : List ℕ). suc (replacements l)) passed

-- ---- numbers, for the loops that decode: of what was passed, `n` pieces are ill-formed and have `extra` bytes beyond one each, so its decoding is
-- longer by 2 * n - extra

abbrev pub Counted : List ℕ → ℕ → ℕ → ℕ → Type 0
Counted s i extra n =
    (i ≤ length s) × (length (decode (drop i s)) + i + 2 * n ≡ length (decode s) + extra) × (n + extra ≤ i) × (n + replacements (drop i s) ≡ replacements s)
    × (extra ≤ 2 * n)

pub counted_run : (s : List ℕ) (i extra n end skip : ℕ) → Counted s i extra n → RunAt s i end skip → 0 < skip → Counted s (end + skip) (extra + (skip - 1)) (n + 1)
counted_run s i extra n end skip c r h =
    let a = ap length (r.split h) in
    let b = length-append (slice i end s) (replacement ++ decode (drop (end + skip) s)) in
    let l = length-slice i end s (omega (arith, r.reach)) in
    let st = r.start in
    let sh = r.short in
    let o = r.one h in
    (r.reach, omega (arith, c.1, a, b, l, st, sh), omega (arith, c.2, st), omega (arith, c.3, o), omega (arith, c.4, sh))

-- a sum as a usize
pub added_is : (before n : ℕ) → before ≤ 18446744073709551615 → min (before + n) 18446744073709551615 ≡ added before n
added_is before n h = go (eqb n 0) refl
  where
    go : (b : Bool) → eqb n 0 ≡ b → min (before + n) 18446744073709551615 ≡ pick b before (min (before + n) 18446744073709551615)
    go true e = let z = eqb-true n 0 e in omega arith
    go false e = refl

-- lone bytes: one more, and all of them passed
pub one_lone : (s : List ℕ) (i j : ℕ) → Lones s i j → RunAt s j j 1 → Lones s i (j + 1)
one_lone s i j l r =
    let a = ap length (r.split (omega arith)) in
    let b = length-append (slice j j s) (replacement ++ decode (drop (j + 1) s)) in
    let c = length-slice j j s (omega (arith, l.1)) in
    let o = r.one (omega arith) in
    (omega (arith, l.0), r.reach, omega (arith, l.0, l.2, a, b, c), omega (arith, l.0, l.3, o))

pub counted_lones : (s : List ℕ) (i extra n j : ℕ) → Counted s i extra n → Lones s i j → Counted s j extra (n + (j - i))
counted_lones s i extra n j c l = (l.1, omega (arith, l.0, l.2, c.1), omega (arith, l.0, c.2), omega (arith, l.0, l.3, c.3), omega (arith, c.4))

-- at the end
pub counted_last : (s : List ℕ) (i extra n end skip : ℕ) → Counted s i extra n → RunAt s i end skip → skip ≡ 0
    → (length s + (2 * n - extra) ≡ length (decode s)) × (n ≡ replacements s)
counted_last s i extra n end skip c r q =
    let a = ap length (r.whole q) in
    let e = r.last q in
    let l = length-slice i end s (omega (arith, e)) in
    let o = r.none q in
    (omega (arith, c.0, c.1, c.4, a, l, e), omega (arith, c.3, o))

pub counted-size : (s : List ℕ) (n r : ℕ) → n ≡ length (decode s) → r ≡ min n 18446744073709551615 → r ≡ decoded_size s
unfolding decoded_size
counted-size s n r e q = rw (← e) q

-- ---- stores, for the same loops: what is still to be decoded, stored from here on, makes the list that all of it makes

pub sets_run : (s out : List ℕ) (o i end skip : ℕ) (part m n : List ℕ) (p q : ℕ) → RunAt s i end skip → 0 < skip → part ≡ slice i end s → m ≡ sets out o part
    → p ≡ o + min (length part) (length out - o) → n ≡ sets m p replacement → q ≡ p + min 3 (length m - p) → sets n q (decode (drop (end + skip) s)) ≡ sets out o (decode (drop i s))
sets_run s out o i end skip part m n p q r h es em ep en eq =
    sets_on m p (replacement ++ decode (drop (end + skip) s)) replacement (decode (drop (end + skip) s)) n q refl en eq
    ∙ sets_on out o (decode (drop i s)) part (replacement ++ decode (drop (end + skip) s)) m p (rw es (r.split h)) em ep

-- a part of the code, `&s[i..end]`
pub part_is : (i end : ℕ) (s : List ℕ) → i ≤ end → take (end - i) (drop i s) ≡ slice i end s
part_is i end s h = let e : i + (end - i) ≡ end = omega arith in take-drop i (end - i) s ∙ ap (λ (n : ℕ). slice i n s) e

-- a plain text at a position, with a zero behind it: the text that ends there, and it is shown as it is
pub record PlainText (s : List ℕ) (at n : ℕ) : Type 0 where
  pub fits : at + n < length s
  pub ended : ended_of s at ≡ Ok (n, at + n + 1)
  pub shown : decode (slice at (at + n) s) ≡ slice at (at + n) s

pub plain-text : (s : List ℕ) (at n : ℕ) → plain_at s at n ≡ true → PlainText s at n
unfolding plain_at
plain-text s at n e =
    let t : List ℕ = slice at (at + n) s in
    let u = both_true (ltb (at + n) (length s) && eqb (get_or s (at + n) 0) 0) (is_plain t) e in
    let v = both_true (ltb (at + n) (length s)) (eqb (get_or s (at + n) 0) 0) u.0 in
    let h = ltb-true (at + n) (length s) v.0 in
    let f = plain-bytes t u.1 in
    let l : length t ≡ n = length-slice at (at + n) s (omega arith) ∙ omega arith in
    let m : n ≡ at + n - at = omega arith in
    let p : take n (drop at s) ≡ t = ap (λ (k : ℕ). take k (drop at s)) m ∙ part_is at (at + n) s (omega arith) in
    let d : drop at s ≡ t ++ 0 ∷ drop (suc (at + n)) s =
    sym (take-append-drop n (drop at s))
    ∙ ap₂ (λ (a b : List ℕ). a ++ b) p (drop-drop n at s ∙ drop-cons s (at + n) 0 h ∙ ap (λ (b : ℕ). b ∷ drop (suc (at + n)) s) (eqb-true _ _ v.1)) in
    let b : before_zero t ≡ length t = free_of t (λ k m e. let q = (f k m).0 in omega (arith, q, e)) in
    record { fits = h; ended = rw l at (ended_there s at t (drop (suc (at + n)) s) d b); shown = ascii_decode t (λ k m. (f k m).1) }

-- ---- the same for one step at a time

pub counted-good : (s : List ℕ) (i extra n k : ℕ) → Counted s i extra n → GoodAt s i k → Counted s (i + k) extra n
counted-good s i extra n k c g =
    let a = ap length g.split in
    let b = length-append (slice i (i + k) s) (decode (drop (i + k) s)) in
    let l = length-slice i (i + k) s g.reach in
    let o = g.count in
    (g.reach, omega (arith, c.1, a, b, l), omega (arith, c.2), omega (arith, c.3, o), c.4)

-- an ill-formed subpart is a run of no characters with it behind
pub run_bad : (s : List ℕ) (i k : ℕ) → BadAt s i k → RunAt s i i k
run_bad s i k b = run_at s i i k (omega (arith, b.reach)) (omega (arith, b.here)) b.size

-- and so is a byte that begins nothing
pub lone_bad : (s : List ℕ) (i : ℕ) → ltb i (length s) && eqb (class_of (get_or s i 0)) 0 ≡ true → BadAt s i 1
lone_bad s i e =
    let h = both_true (ltb i (length s)) (eqb (class_of (get_or s i 0)) 0) e in
    bad_at s i 1 (ltb-true _ _ h.0) (Bad 1) (step_none _ _ (eqb-true _ _ h.1)) refl

pub counted_end : (s : List ℕ) (i extra n : ℕ) → Counted s i extra n → length s ≤ i → (length s + (2 * n - extra) ≡ length (decode s)) × (n ≡ replacements s)
counted_end s i extra n c h =
    let a : length (decode (drop i s)) ≡ 0 = rw (drop_of_length-le s h, decode_nil) refl in
    let o : replacements (drop i s) ≡ 0 = rw (drop_of_length-le s h) count_nil in
    (omega (arith, c.0, c.1, c.4, a), omega (arith, c.3, o))

pub decode_end : (s : List ℕ) (i : ℕ) → length s ≤ i → decode (drop i s) ≡ []
decode_end s i h = rw (drop_of_length-le s h) decode_nil

pub sets-good : (s out : List ℕ) (o i k : ℕ) (part m : List ℕ) (p : ℕ) → GoodAt s i k → part ≡ slice i (i + k) s → m ≡ sets out o part
    → p ≡ o + min (length part) (length out - o) → sets m p (decode (drop (i + k) s)) ≡ sets out o (decode (drop i s))
sets-good s out o i k part m p g es em ep = sets_on out o (decode (drop i s)) part (decode (drop (i + k) s)) m p (rw es g.split) em ep

pub sets_bad : (s out : List ℕ) (o i k : ℕ) (m : List ℕ) (p : ℕ) → BadAt s i k → m ≡ sets out o replacement → p ≡ o + min 3 (length out - o)
    → sets m p (decode (drop (i + k) s)) ≡ sets out o (decode (drop i s))
sets_bad s out o i k m p b em ep =
    let r = run_bad s i k b in
    sets_on out o (decode (drop i s)) replacement (decode (drop (i + k) s)) m p (r.split b.some ∙ ap (λ (l : List ℕ). l ++ (replacement ++ decode (drop (i + k) s))) (slice_empty i s)) em ep
