-- The laws of decoding.
-- Assumes nothing.
use Prim.Native.Nat.{ℕ, zero, suc, ◌+◌, ◌*◌, ◌<◌, ◌≤◌}
use mathlib.Core.Path.{◌≡◌, refl, ap, sym, ◌∙◌}
use mathlib.Core.Bool.{Bool, true, false, ◌&&◌}
use mathlib.Core.List.{List, [], ◌∷◌, ◌++◌, append_assoc, append-nil}
use native.Mathlib.Nat.{zero-add}
use native.Mathlib.Omega.{arith}
use borrow.Author.Tests.{eqb-true, eq-eqb, ne_eqb, le-leb}
use lib.Dec.{leb, eqb}
use lib.ListN.{length, get_or, take, drop, length-append, take-append-drop, length-drop}
use lib.Seq.{length-take-le, take-add, take-append-le, drop-append-le, drop-drop, drop-length}
use Rattle.base.specs.Choice.{pick}
use Rattle.base.specs.Utf8.{Range, rows, within, class_of, later_of, matched, more, good, replacement, decode, valid_up_to, replacements, well_formed, clean, pieces, pieces_after, piece_of}
use Rattle.base.specs.inner.Scan.{ill_size}
use Rattle.base.proofs.utf8.Steps.{matched-le, class_below}
use Rattle.base.proofs.utf8.Pieces.{more_within, by_pieces, decode_nil, decode-good, decode_bad, valid_nil, valid_good, valid_bad, ill_nil, ill-good, ill_bad, count_nil, count-good, count_bad, well_nil, well_good, well_bad}

-- what holds of a text by its first piece, with the two cases apart
module _ (P : List ℕ → Type 0) (none : P []) (one : (x : ℕ) (xs : List ℕ) → good x xs ≡ true → P (drop (more x xs) xs) → P (x ∷ xs))
    (other : (x : ℕ) (xs : List ℕ) → good x xs ≡ false → P (drop (more x xs) xs) → P (x ∷ xs)) where
  by_case : (x : ℕ) (xs : List ℕ) (b : Bool) → good x xs ≡ b → P (drop (more x xs) xs) → P (x ∷ xs)
  by_case x xs true e h = one x xs e h
  by_case x xs false e h = other x xs e h

  pub by_kind : (t : List ℕ) → P t
  by_kind = by_pieces P none (λ x xs. by_case x xs (good x xs) refl)

-- ---- where the first ill-formed subpart starts

pub valid_le : (t : List ℕ) → valid_up_to t ≤ length t
valid_le =
    by_kind (λ t. valid_up_to t ≤ length t) (rw valid_nil (omega arith))
    (λ x xs e h. let m = more_within x xs in let d = length-drop (more x xs) xs in rw (valid_good x xs e) (omega arith))
    (λ x xs e h. rw (valid_bad x xs e) (omega arith))

-- a text is well-formed exactly where no ill-formed subpart starts before its end
pub well_valid : (t : List ℕ) → well_formed t ≡ eqb (valid_up_to t) (length t)
well_valid =
    by_kind (λ t. well_formed t ≡ eqb (valid_up_to t) (length t)) (rw (well_nil, valid_nil))
    (λ x xs e h. well_good x xs e ∙ h ∙ same x xs e)
    (λ x xs e h. well_bad x xs e ∙ sym (ne_eqb (valid_up_to (x ∷ xs)) (suc (length xs)) (λ q. let z = valid_bad x xs e in omega arith)))
  where
    same : (x : ℕ) (xs : List ℕ) → good x xs ≡ true → eqb (valid_up_to (drop (more x xs) xs)) (length (drop (more x xs) xs)) ≡ eqb (valid_up_to (x ∷ xs)) (suc (length xs))
    same x xs e = go (eqb (valid_up_to (drop (more x xs) xs)) (length (drop (more x xs) xs))) refl
      where
        go : (b : Bool) → eqb (valid_up_to (drop (more x xs) xs)) (length (drop (more x xs) xs)) ≡ b → b ≡ eqb (valid_up_to (x ∷ xs)) (suc (length xs))
        go true q =
            let z : valid_up_to (drop (more x xs) xs) ≡ length (drop (more x xs) xs) = eqb-true _ _ q in
            let m = more_within x xs in
            let d = length-drop (more x xs) xs in
            let g = valid_good x xs e in
            sym (eq-eqb (valid_up_to (x ∷ xs)) (suc (length xs)) (omega arith))
        go false q = sym (ne_eqb _ _ (λ w. no q w))
          where
            no : eqb (valid_up_to (drop (more x xs) xs)) (length (drop (more x xs) xs)) ≡ false → valid_up_to (x ∷ xs) ≡ suc (length xs) → ⊥
            no q w =
                let m = more_within x xs in
                let d = length-drop (more x xs) xs in
                let g = valid_good x xs e in
                let k : valid_up_to (drop (more x xs) xs) ≡ length (drop (more x xs) xs) = omega arith in
                let f : ◌≡◌ {A = Bool} true false = sym (eq-eqb _ _ k) ∙ q in
                let z : ◌≡◌ {A = ℕ} 0 1 = cc in
                omega arith

pub well_whole : (t : List ℕ) → well_formed t ≡ true → valid_up_to t ≡ length t
well_whole t e = eqb-true _ _ (sym (well_valid t) ∙ e)

pub whole_well : (t : List ℕ) → valid_up_to t ≡ length t → well_formed t ≡ true
whole_well t e = well_valid t ∙ eq-eqb _ _ e

-- ---- what stands before the first ill-formed subpart is kept

front_good : (x : ℕ) (xs : List ℕ) → good x xs ≡ true
    → decode (drop (more x xs) xs) ≡ take (valid_up_to (drop (more x xs) xs)) (drop (more x xs) xs) ++ decode (drop (valid_up_to (drop (more x xs) xs)) (drop (more x xs) xs))
    → decode (x ∷ xs) ≡ take (valid_up_to (x ∷ xs)) (x ∷ xs) ++ decode (drop (valid_up_to (x ∷ xs)) (x ∷ xs))
front_good x xs e h =
    let m = more x xs in
    let k = valid_up_to (drop (more x xs) xs) in
    decode-good x xs e
    ∙ ap (λ (l : List ℕ). (x ∷ take m xs) ++ l) h
    ∙ sym (append_assoc (x ∷ take m xs) (take k (drop m xs)) (decode (drop k (drop m xs))))
    ∙ ap (λ (l : List ℕ). l ++ decode (drop k (drop m xs))) (sym (take-add (suc m) k (x ∷ xs)))
    ∙ ap (λ (l : List ℕ). take (suc m + k) (x ∷ xs) ++ decode l) (drop-drop k (suc m) (x ∷ xs))
    ∙ ap (λ (n : ℕ). take n (x ∷ xs) ++ decode (drop n (x ∷ xs))) (sym (valid_good x xs e))

pub decode_front : (t : List ℕ) → decode t ≡ take (valid_up_to t) t ++ decode (drop (valid_up_to t) t)
decode_front =
    by_kind (λ t. decode t ≡ take (valid_up_to t) t ++ decode (drop (valid_up_to t) t)) (rw valid_nil)
    front_good
    (λ x xs e h. rw (valid_bad x xs e))

-- ---- the ill-formed subpart there

later-short : (c : ℕ) → c < 10 → length (later_of c) ≤ 3
unfolding later_of rows
later-short zero h = omega arith
later-short (suc zero) h = omega arith
later-short (suc (suc zero)) h = omega arith
later-short (suc (suc (suc zero))) h = omega arith
later-short (suc (suc (suc (suc zero)))) h = omega arith
later-short (suc (suc (suc (suc (suc zero))))) h = omega arith
later-short (suc (suc (suc (suc (suc (suc zero)))))) h = omega arith
later-short (suc (suc (suc (suc (suc (suc (suc zero))))))) h = omega arith
later-short (suc (suc (suc (suc (suc (suc (suc (suc zero)))))))) h = omega arith
later-short (suc (suc (suc (suc (suc (suc (suc (suc (suc zero))))))))) h = omega arith
later-short (suc (suc (suc (suc (suc (suc (suc (suc (suc (suc c)))))))))) h = absurd (omega arith)

bad_short : (x : ℕ) (xs : List ℕ) → good x xs ≡ false → suc (more x xs) ≤ 3
unfolding good more
bad_short x xs e = go (class_of x) (class_below x) refl e
  where
    go : (c : ℕ) → c < 10 → class_of x ≡ c → leb 1 c && eqb (matched (later_of c) xs) (length (later_of c)) ≡ false → suc (matched (later_of (class_of x)) xs) ≤ 3
    go zero h q f = rw q (unfold later_of matched in omega arith)
    go (suc c) h q f =
        let a = matched-le (later_of (suc c)) xs in
        let b = later-short (suc c) h in
        let n : matched (later_of (suc c)) xs ≡ length (later_of (suc c)) → ⊥ = λ w. clash (eqb (matched (later_of (suc c)) xs) (length (later_of (suc c)))) (eq-eqb _ _ w) f in
        rw q (omega arith)
      where
        clash : (t : Bool) → t ≡ true → leb 1 (suc c) && t ≡ false → ⊥
        clash t p r =
            let l : leb 1 (suc c) ≡ true = le-leb 1 (suc c) (omega arith) in
            let z : ◌≡◌ {A = ℕ} 0 1 = cc in
            omega arith

pub ill-short : (t : List ℕ) → ill_size t ≤ 3
ill-short =
    by_kind (λ t. ill_size t ≤ 3) (rw ill_nil (omega arith)) (λ x xs e h. rw (ill-good x xs e) (omega arith))
    (λ x xs e h. rw (ill_bad x xs e) (bad_short x xs e))

pub ill-within : (t : List ℕ) → ill_size t ≤ length t
ill-within =
    by_kind (λ t. ill_size t ≤ length t) (rw ill_nil (omega arith)) (λ x xs e h. rw (ill-good x xs e) (omega arith))
    (λ x xs e h. let m = more_within x xs in rw (ill_bad x xs e) (omega arith))

-- behind the characters at the front there is an ill-formed subpart, or nothing
pub ill_or_end : (t : List ℕ) → ill_size (drop (valid_up_to t) t) ≡ 0 → valid_up_to t ≡ length t
ill_or_end =
    by_kind (λ t. ill_size (drop (valid_up_to t) t) ≡ 0 → valid_up_to t ≡ length t) (λ q. valid_nil)
    (λ x xs e h q. on x xs e h q)
    (λ x xs e h q. let z = ill_bad x xs e in let w = valid_bad x xs e in absurd (off x xs w z q))
  where
    on : (x : ℕ) (xs : List ℕ) → good x xs ≡ true → (ill_size (drop (valid_up_to (drop (more x xs) xs)) (drop (more x xs) xs)) ≡ 0 → valid_up_to (drop (more x xs) xs) ≡ length (drop (more x xs) xs))
        → ill_size (drop (valid_up_to (x ∷ xs)) (x ∷ xs)) ≡ 0 → valid_up_to (x ∷ xs) ≡ suc (length xs)
    on x xs e h q =
        let g = valid_good x xs e in
        let m = more_within x xs in
        let d = length-drop (more x xs) xs in
        let k = h (ap ill_size (drop-drop (valid_up_to (drop (more x xs) xs)) (suc (more x xs)) (x ∷ xs)) ∙ ap (λ (n : ℕ). ill_size (drop n (x ∷ xs))) (sym g) ∙ q) in
        omega arith

    off : (x : ℕ) (xs : List ℕ) → valid_up_to (x ∷ xs) ≡ 0 → ill_size (x ∷ xs) ≡ suc (more x xs) → ill_size (drop (valid_up_to (x ∷ xs)) (x ∷ xs)) ≡ 0 → ⊥
    off x xs w z q = let r : ill_size (x ∷ xs) ≡ 0 = rw w at q in omega arith

-- an ill-formed subpart that comes first is shown as U+FFFD
pub decode-ill : (t : List ℕ) → 0 < ill_size t → decode t ≡ replacement ++ decode (drop (ill_size t) t)
decode-ill =
    by_kind (λ t. 0 < ill_size t → decode t ≡ replacement ++ decode (drop (ill_size t) t)) (λ q. absurd (omega (arith, ill_nil)))
    (λ x xs e h q. absurd (omega (arith, ill-good x xs e)))
    (λ x xs e h q. decode_bad x xs e ∙ rw (ill_bad x xs e))

-- ---- how many U+FFFD a decoding puts in

-- none for the characters at the front
pub count_front : (t : List ℕ) → replacements t ≡ replacements (drop (valid_up_to t) t)
count_front =
    by_kind (λ t. replacements t ≡ replacements (drop (valid_up_to t) t)) (rw valid_nil)
    (λ x xs e h.
    count-good x xs e
    ∙ h
    ∙ ap replacements (drop-drop (valid_up_to (drop (more x xs) xs)) (suc (more x xs)) (x ∷ xs))
    ∙ ap (λ (n : ℕ). replacements (drop n (x ∷ xs))) (sym (valid_good x xs e)))
    (λ x xs e h. rw (valid_bad x xs e))

-- one for an ill-formed subpart that comes first
pub count-ill : (t : List ℕ) → 0 < ill_size t → replacements t ≡ suc (replacements (drop (ill_size t) t))
count-ill =
    by_kind (λ t. 0 < ill_size t → replacements t ≡ suc (replacements (drop (ill_size t) t))) (λ q. absurd (omega (arith, ill_nil)))
    (λ x xs e h q. absurd (omega (arith, ill-good x xs e)))
    (λ x xs e h q. count_bad x xs e ∙ rw (ill_bad x xs e))

-- no more than the text has bytes
pub count-le : (t : List ℕ) → replacements t ≤ length t
count-le =
    by_kind (λ t. replacements t ≤ length t) (rw count_nil (omega arith))
    (λ x xs e h. let d = length-drop (more x xs) xs in rw (count-good x xs e) (omega arith))
    (λ x xs e h. let d = length-drop (more x xs) xs in rw (count_bad x xs e) (omega arith))

-- none exactly where the text is well-formed
pub well_count : (t : List ℕ) → well_formed t ≡ eqb (replacements t) 0
well_count =
    by_kind (λ t. well_formed t ≡ eqb (replacements t) 0) (rw (well_nil, count_nil))
    (λ x xs e h. well_good x xs e ∙ h ∙ rw (count-good x xs e))
    (λ x xs e h. well_bad x xs e ∙ sym (ne_eqb (replacements (x ∷ xs)) 0 (λ q. let z = count_bad x xs e in omega arith)))

pub well_none : (t : List ℕ) → well_formed t ≡ true → 0 ≡ replacements t
well_none t w = sym (eqb-true _ _ (sym (well_count t) ∙ w))

-- ---- a well-formed text, alone and in front of another

matched-append : (rs : List Range) (xs b : List ℕ) → matched rs xs ≡ length rs → matched rs (xs ++ b) ≡ length rs
unfolding matched
matched-append [] xs b e = refl
matched-append (r ∷ rs) [] b e = absurd (omega arith)
matched-append (r ∷ rs) (x ∷ xs) b e = go (within r x) (matched-append rs xs b) e
  where
    go : (t : Bool) → (matched rs xs ≡ length rs → matched rs (xs ++ b) ≡ length rs) → pick t (suc (matched rs xs)) 0 ≡ suc (length rs) → pick t (suc (matched rs (xs ++ b))) 0 ≡ suc (length rs)
    go true ih q = ap suc (ih (omega arith))
    go false ih q = absurd (omega arith)

pub both_true : (a b : Bool) → a && b ≡ true → (a ≡ true) × (b ≡ true)
both_true true b e = (refl, e)
both_true false b e = let z : ◌≡◌ {A = ℕ} 0 1 = cc in absurd (omega arith)

pub good-parts : (x : ℕ) (xs : List ℕ) → good x xs ≡ true → (leb 1 (class_of x) ≡ true) × (more x xs ≡ length (later_of (class_of x)))
unfolding good
good-parts x xs e =
    let h = both_true (leb 1 (class_of x)) (eqb (more x xs) (length (later_of (class_of x)))) e in
    (h.0, eqb-true _ _ h.1)

pub good_from : (x : ℕ) (xs : List ℕ) → leb 1 (class_of x) ≡ true → more x xs ≡ length (later_of (class_of x)) → good x xs ≡ true
unfolding good
good_from x xs p q = rw (p, eq-eqb _ _ q)

-- a character is the same one whatever follows
good-append : (x : ℕ) (xs b : List ℕ) → good x xs ≡ true → (good x (xs ++ b) ≡ true) × (more x (xs ++ b) ≡ more x xs)
unfolding more
good-append x xs b e =
    let h = good-parts x xs e in
    let m = matched-append (later_of (class_of x)) xs b h.1 in
    (good_from x (xs ++ b) h.0 m, m ∙ sym h.1)

-- and so are all that stand before b
pub record Before (a b : List ℕ) : Type 0 where
  pub kept : decode (a ++ b) ≡ a ++ decode b
  pub reach : valid_up_to (a ++ b) ≡ length a + valid_up_to b
  pub fault : well_formed (a ++ b) ≡ well_formed b

module _ (b : List ℕ) where
  before-good : (x : ℕ) (xs : List ℕ) → good x xs ≡ true → (well_formed (drop (more x xs) xs) ≡ true → Before (drop (more x xs) xs) b) → well_formed (x ∷ xs) ≡ true → Before (x ∷ xs) b
  before-good x xs e h w =
      let k = good-append x xs b e in
      let m = more_within x xs in
      let r = h (sym (well_good x xs e) ∙ w) in
      let d : drop (more x (xs ++ b)) (xs ++ b) ≡ drop (more x xs) xs ++ b = rw k.1 (drop-append-le (more x xs) xs b m) in
      let t : take (more x (xs ++ b)) (xs ++ b) ≡ take (more x xs) xs = rw k.1 (take-append-le (more x xs) xs b m) in
      let l = length-drop (more x xs) xs in
      let s : valid_up_to (x ∷ (xs ++ b)) ≡ suc (more x xs) + valid_up_to (drop (more x xs) xs ++ b) = valid_good x (xs ++ b) k.0 ∙ rw (d, k.1) in
      record {
        kept =
            decode-good x (xs ++ b) k.0
            ∙ rw (t, d, r.kept) (ap (λ (y : List ℕ). x ∷ y) (sym (append_assoc (take (more x xs) xs) (drop (more x xs) xs) (decode b)) ∙ ap (λ (y : List ℕ). y ++ decode b) (take-append-drop (more x xs) xs)));
        reach = omega (arith, r.reach);
        fault = well_good x (xs ++ b) k.0 ∙ rw d r.fault;
      }

  before_all : (a : List ℕ) → well_formed a ≡ true → Before a b
  before_all =
      by_kind (λ a. well_formed a ≡ true → Before a b) (λ w. record { kept = refl; reach = sym (zero-add (valid_up_to b)); fault = refl })
      before-good
      (λ x xs e h w. let z : ◌≡◌ {A = ℕ} 0 1 = cc (well_bad x xs e) in absurd (omega arith))

pub before : (a b : List ℕ) → well_formed a ≡ true → Before a b
before a b = before_all b a

pub decode-append : (a b : List ℕ) → well_formed a ≡ true → decode (a ++ b) ≡ a ++ decode b
decode-append a b w = (before a b w).kept

-- decoding well-formed text is the identity
pub decode_well : (t : List ℕ) → well_formed t ≡ true → decode t ≡ t
decode_well t w = rw (append-nil, decode_nil, append-nil) at (decode-append t [] w)

-- ---- a decoding is well-formed

matched-take : (rs : List Range) (xs : List ℕ) → matched rs xs ≡ length rs → matched rs (take (length rs) xs) ≡ length rs
unfolding matched
matched-take [] xs e = refl
matched-take (r ∷ rs) [] e = e
matched-take (r ∷ rs) (x ∷ xs) e = go (within r x) (matched-take rs xs) e
  where
    go : (t : Bool) → (matched rs xs ≡ length rs → matched rs (take (length rs) xs) ≡ length rs) → pick t (suc (matched rs xs)) 0 ≡ suc (length rs) → pick t (suc (matched rs (take (length rs) xs))) 0 ≡ suc (length rs)
    go true ih q = ap suc (ih (omega arith))
    go false ih q = absurd (omega arith)

-- a character by itself
alone : (x : ℕ) (xs : List ℕ) → good x xs ≡ true → well_formed (x ∷ take (more x xs) xs) ≡ true
alone x xs e =
    let h = good-parts x xs e in
    let ys = take (more x xs) xs in
    let n = length-take-le (more x xs) xs (more_within x xs) in
    let m : more x ys ≡ length (later_of (class_of x)) = rw h.1 (unfold more in matched-take (later_of (class_of x)) xs h.1) in
    let g = good_from x ys h.0 m in
    let d : drop (more x ys) ys ≡ [] = ap (λ (i : ℕ). drop i ys) (m ∙ sym h.1 ∙ sym n) ∙ drop-length ys in
    well_good x ys g ∙ rw d well_nil

replacement_well : well_formed replacement ≡ true
unfolding rows within class_of later_of matched more good well_formed pieces pieces_after piece_of clean
replacement_well = refl

pub well_decode : (t : List ℕ) → well_formed (decode t) ≡ true
well_decode =
    by_kind (λ t. well_formed (decode t) ≡ true) (rw decode_nil well_nil)
    (λ x xs e h. rw (decode-good x xs e) ((before (x ∷ take (more x xs) xs) (decode (drop (more x xs) xs)) (alone x xs e)).fault ∙ h))
    (λ x xs e h. rw (decode_bad x xs e) ((before replacement (decode (drop (more x xs) xs)) replacement_well).fault ∙ h))

pub decode-decode : (t : List ℕ) → decode (decode t) ≡ decode t
decode-decode t = decode_well (decode t) (well_decode t)

-- so a text is well-formed exactly where it is its own decoding
pub well_from : (t : List ℕ) → decode t ≡ t → well_formed t ≡ true
well_from t e = rw e at (well_decode t)

-- ---- how long a decoding is

pub decode-long : (t : List ℕ) → length t ≤ length (decode t)
decode-long =
    by_kind (λ t. length t ≤ length (decode t)) (omega arith)
    (λ x xs e h.
    let m = more_within x xs in
    let d = length-drop (more x xs) xs in
    let l = length-take-le (more x xs) xs m in
    let a = length-append (x ∷ take (more x xs) xs) (decode (drop (more x xs) xs)) in
    rw (decode-good x xs e) (omega arith))
    (λ x xs e h.
    let b = bad_short x xs e in
    let m = more_within x xs in
    let d = length-drop (more x xs) xs in
    rw (decode_bad x xs e) (omega arith))

pub decode_bound : (t : List ℕ) → length (decode t) ≤ 3 * length t
decode_bound =
    by_kind (λ t. length (decode t) ≤ 3 * length t) (rw decode_nil (omega arith))
    (λ x xs e h.
    let m = more_within x xs in
    let d = length-drop (more x xs) xs in
    let l = length-take-le (more x xs) xs m in
    let a = length-append (x ∷ take (more x xs) xs) (decode (drop (more x xs) xs)) in
    rw (decode-good x xs e) (omega arith))
    (λ x xs e h.
    let m = more_within x xs in
    let d = length-drop (more x xs) xs in
    rw (decode_bad x xs e) (omega arith))

-- ---- what holds of every byte of a text, and of those of U+FFFD, holds of every byte of its decoding

abbrev pub Each : (ℕ → Type 0) → List ℕ → Type 0
Each P l = (i : ℕ) → i < length l → P (get_or l i 0)

module _ (P : ℕ → Type 0) where
  each_append : (a b : List ℕ) → Each P a → Each P b → Each P (a ++ b)
  each_append [] b f g i h = g i h
  each_append (x ∷ a) b f g zero h = f zero (omega arith)
  each_append (x ∷ a) b f g (suc i) h = each_append a b (λ j q. f (suc j) (omega arith)) g i (omega arith)

  each_take : (n : ℕ) (l : List ℕ) → Each P l → Each P (take n l)
  each_take zero l f i h = absurd (omega arith)
  each_take (suc n) [] f i h = absurd (omega arith)
  each_take (suc n) (x ∷ l) f zero h = f zero (omega arith)
  each_take (suc n) (x ∷ l) f (suc i) h = each_take n l (λ j q. f (suc j) (omega arith)) i (omega arith)

  each-drop : (n : ℕ) (l : List ℕ) → Each P l → Each P (drop n l)
  each-drop zero l f = f
  each-drop (suc n) [] f = f
  each-drop (suc n) (x ∷ l) f = each-drop n l (λ j q. f (suc j) (omega arith))

  pub each-decode : Each P replacement → (t : List ℕ) → Each P t → Each P (decode t)
  each-decode r =
      by_kind (λ t. Each P t → Each P (decode t)) (λ f. rw decode_nil f)
      (λ x xs e h f. rw (decode-good x xs e) (each_append (x ∷ take (more x xs) xs) (decode (drop (more x xs) xs)) (each_take (suc (more x xs)) (x ∷ xs) f) (h (each-drop (suc (more x xs)) (x ∷ xs) f))))
      (λ x xs e h f. rw (decode_bad x xs e) (each_append replacement (decode (drop (more x xs) xs)) r (h (each-drop (suc (more x xs)) (x ∷ xs) f))))
