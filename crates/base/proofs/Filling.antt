-- A loop that stores a run v from o on, i bytes of it stored: it starts, turns, and ends where the run or the list does.
-- Assumes nothing.
use Prim.Native.Nat.{ℕ, ◌+◌, ◌-◌, ◌<◌, ◌≤◌, min}
use mathlib.Core.Path.{◌≡◌, refl, ap, sym, ◌∙◌}
use mathlib.Core.Bool.{Bool, true, false}
use mathlib.Core.List.{List, [], ◌∷◌}
use mathlib.Core.Logic.{inr}
use native.Mathlib.Nat.{add-suc}
use native.Mathlib.Numerals.{add-one}
use native.Mathlib.Omega.{arith}
use borrow.Author.Tests.{leb-true, leb-false}
use lib.Dec.{leb}
use lib.ListN.{length, get_or, set, take, drop, length-drop, take-append-drop}
use lib.Seq.{sets, length-sets, drop-cons, length-take-le, take-add}
use Rattle.base.proofs.Apart.{sets_past}
use Rattle.base.proofs.Stores.{sets_out, sets-append, sets_over}

pub fill_turn : (l : List ℕ) (o i : ℕ) (v : List ℕ) → i < length v
    → sets (set l (o + i) (get_or v i 0)) (o + (i + 1)) (drop (i + 1) v) ≡ sets l (o + i) (drop i v)
fill_turn l o i v h = rw (drop-cons v i 0 h, add-one i, add-suc)

-- a run with no byte, or at a place with no room, stores nothing
pub fill_none : (l : List ℕ) (o : ℕ) (v : List ℕ) → min (length v) (length l - o) ≡ 0 → sets l o v ≡ l
fill_none l o [] e = refl
fill_none l o (x ∷ v) e = sets_out l o (x ∷ v) (omega arith)

pub fill_end : (l : List ℕ) (o i : ℕ) (v : List ℕ) → min (length v) (length l - o) ≤ i → sets l (o + i) (drop i v) ≡ l
fill_end l o i v h = let e = length-drop i v in fill_none l (o + i) (drop i v) (omega arith)

-- the part of a run that there is room for stores as much as the run
pub fill_room : (l : List ℕ) (o n : ℕ) (v : List ℕ) → n ≡ min (length v) (length l - o) → sets l o (take n v) ≡ sets l o v
fill_room l o n v e =
    let t : length (take n v) ≡ n = length-take-le n v (omega arith) in
    let k : length (sets l o (take n v)) ≡ length l = length-sets l o (take n v) in
    let z : sets (sets l o (take n v)) (o + n) (drop n v) ≡ sets l o (take n v) = fill_end (sets l o (take n v)) o n v (omega arith) in
    sym z
    ∙ ap (λ (i : ℕ). sets (sets l o (take n v)) (o + i) (drop n v)) (sym t)
    ∙ sym (sets-append l o (take n v) (drop n v))
    ∙ ap (sets l o) (take-append-drop n v)

-- the first m bytes are there: k bytes from p on, which may be among them, carry them on
fill_next : (l : List ℕ) (o m p k : ℕ) (v : List ℕ) → p ≤ m → m ≤ p + k → p + k ≤ length v
    → sets (sets l o (take m v)) (o + p) (take k (drop p v)) ≡ sets l o (take (p + k) v)
fill_next l o m p k v h g f =
    let e : length (take p v) ≡ p = length-take-le p v (omega arith) in
    let q : p + (m - p) ≡ m = omega arith in
    let d = length-drop p v in
    let b : length (take k (drop p v)) ≡ k = length-take-le k (drop p v) (omega arith) in
    let c : length (take (m - p) (drop p v)) ≡ m - p = length-take-le (m - p) (drop p v) (omega arith) in
    let all : sets l o (take (p + k) v) ≡ sets (sets l o (take p v)) (o + p) (take k (drop p v)) =
    ap (sets l o) (take-add p k v) ∙ sets-append l o (take p v) (take k (drop p v))
    ∙ ap (λ (i : ℕ). sets (sets l o (take p v)) (o + i) (take k (drop p v))) e in
    let first : sets l o (take m v) ≡ sets (sets l o (take p v)) (o + p) (take (m - p) (drop p v)) =
    ap (sets l o) (ap (λ (i : ℕ). take i v) (sym q) ∙ take-add p (m - p) v) ∙ sets-append l o (take p v) (take (m - p) (drop p v))
    ∙ ap (λ (i : ℕ). sets (sets l o (take p v)) (o + i) (take (m - p) (drop p v))) e in
    ap (λ (x : List ℕ). sets x (o + p) (take k (drop p v))) first
    ∙ sets_over (sets l o (take p v)) (o + p) (take (m - p) (drop p v)) (take k (drop p v)) (omega (arith, b, c))
    ∙ sym all

-- k bytes that are among them change nothing
fill_again : (l : List ℕ) (o m p k : ℕ) (v : List ℕ) → p + k ≤ m → m ≤ length v → sets (sets l o (take m v)) (o + p) (take k (drop p v)) ≡ sets l o (take m v)
fill_again l o m p k v h g =
    let d = length-drop p v in
    let e : length (take (p + k) v) ≡ p + k = length-take-le (p + k) v (omega arith) in
    let b : length (take k (drop p v)) ≡ k = length-take-le k (drop p v) (omega arith) in
    let q : p + k + (m - (p + k)) ≡ m = omega arith in
    let rest = take (m - (p + k)) (drop (p + k) v) in
    let all : sets l o (take m v) ≡ sets (sets l o (take (p + k) v)) (o + (p + k)) rest =
    ap (sets l o) (ap (λ (i : ℕ). take i v) (sym q) ∙ take-add (p + k) (m - (p + k)) v) ∙ sets-append l o (take (p + k) v) rest
    ∙ ap (λ (i : ℕ). sets (sets l o (take (p + k) v)) (o + i) rest) e in
    ap (λ (x : List ℕ). sets x (o + p) (take k (drop p v))) all
    ∙ sets_past (sets l o (take (p + k) v)) (o + p) (take k (drop p v)) (o + (p + k)) rest (inr (omega (arith, b)))
    ∙ ap (λ (x : List ℕ). sets x (o + (p + k)) rest) (fill_next l o (p + k) p k v (omega arith) (omega arith) (omega arith))
    ∙ sym all

-- n bytes as four blocks of 8: the first and the last, and those beside them, of which the third may lie among the first two
pub fill_four : (l : List ℕ) (o n b : ℕ) (v : List ℕ) (l₁ l₂ l₃ l₄ : List ℕ) → 8 ≤ n → n ≤ 32 → n ≤ length v → b ≡ min 8 (n - 8)
    → l₁ ≡ sets l o (take 8 (drop 0 v)) → l₂ ≡ sets l₁ (o + b) (take 8 (drop b v)) → l₃ ≡ sets l₂ (o + (n - 8 - b)) (take 8 (drop (n - 8 - b) v))
    → l₄ ≡ sets l₃ (o + (n - 8)) (take 8 (drop (n - 8) v)) → l₄ ≡ sets l o (take n v)
fill_four l o n b v l₁ l₂ l₃ l₄ h g f eb e₁ e₂ e₃ e₄ = go (leb (n - 8 - b) b) refl
  where
    third : l₃ ≡ sets (sets l o (take (b + 8) v)) (o + (n - 8 - b)) (take 8 (drop (n - 8 - b) v))
    third =
        let s₂ : l₂ ≡ sets l o (take (b + 8) v) =
        e₂ ∙ ap (λ (x : List ℕ). sets x (o + b) (take 8 (drop b v))) e₁ ∙ fill_next l o 8 b 8 v (omega arith) (omega arith) (omega arith) in
        e₃ ∙ ap (λ (x : List ℕ). sets x (o + (n - 8 - b)) (take 8 (drop (n - 8 - b) v))) s₂

    last : (m : ℕ) → l₃ ≡ sets l o (take m v) → n - 8 ≤ m → m ≤ n → l₄ ≡ sets l o (take n v)
    last m s₃ x y =
        let e : n - 8 + 8 ≡ n = omega arith in
        e₄ ∙ ap (λ (x : List ℕ). sets x (o + (n - 8)) (take 8 (drop (n - 8) v))) s₃
        ∙ fill_next l o m (n - 8) 8 v x (omega arith) (omega arith)
        ∙ ap (λ (i : ℕ). sets l o (take i v)) e

    go : (t : Bool) → leb (n - 8 - b) b ≡ t → l₄ ≡ sets l o (take n v)
    go true t =
        let k = leb-true (n - 8 - b) b t in
        last (b + 8) (third ∙ fill_again l o (b + 8) (n - 8 - b) 8 v (omega arith) (omega arith)) (omega arith) (omega arith)
    go false t =
        let k = leb-false (n - 8 - b) b t in
        last (n - 8 - b + 8) (third ∙ fill_next l o (b + 8) (n - 8 - b) 8 v (omega arith) (omega arith) (omega arith)) (omega arith) (omega arith)
