-- The pieces of a text: its first piece and the pieces of the rest, an induction by pieces, and what each question about a text is by its first piece.
-- Assumes nothing.
use Prim.Native.Nat.{ℕ, zero, suc, ◌+◌, ◌≤◌}
use mathlib.Core.Path.{◌≡◌, refl, ap}
use mathlib.Core.Bool.{Bool, true, false}
use mathlib.Core.List.{List, [], ◌∷◌, ◌++◌}
use native.Mathlib.Omega.{arith}
use lib.ListN.{length, take, drop}
use lib.Seq.{length-take-le}
use Rattle.base.specs.Choice.{pick}
use Rattle.base.specs.declared.utf8.step.Step.TheVariants.{Good, Bad}
use Rattle.base.specs.Utf8.{Range, within, class_of, later_of, matched, more, good, step_of, Piece, character, ill, piece_of, pieces_after, pieces, replacement, shown, decoded, leading, clean, ill_count, decode, valid_up_to, replacements, well_formed}
use Rattle.base.specs.inner.Scan.{ill_first, ill_size}

-- ---- the first piece

matched-within : (rs : List Range) (xs : List ℕ) → matched rs xs ≤ length xs
unfolding matched
matched-within [] xs = omega arith
matched-within (r ∷ rs) [] = omega arith
matched-within (r ∷ rs) (x ∷ xs) = go (within r x) (matched-within rs xs)
  where
    go : (b : Bool) → matched rs xs ≤ length xs → pick b (suc (matched rs xs)) 0 ≤ suc (length xs)
    go true h = omega arith
    go false h = omega arith

pub more_within : (x : ℕ) (xs : List ℕ) → more x xs ≤ length xs
unfolding more
more_within x xs = matched-within (later_of (class_of x)) xs

-- what is skipped may as well be dropped
skip : (n : ℕ) (l : List ℕ) → pieces_after n l ≡ pieces (drop n l)
unfolding pieces pieces_after
skip zero l = refl
skip (suc n) [] = refl
skip (suc n) (x ∷ l) = skip n l

pub pieces_nil : pieces [] ≡ []
unfolding pieces pieces_after
pieces_nil = refl

pub pieces_cons : (x : ℕ) (xs : List ℕ) → pieces (x ∷ xs) ≡ piece_of x xs ∷ pieces (drop (more x xs) xs)
unfolding pieces pieces_after
pieces_cons x xs = ap (λ (ps : List Piece). piece_of x xs ∷ ps) (skip (more x xs) xs)

pub piece_good : (x : ℕ) (xs : List ℕ) → good x xs ≡ true → piece_of x xs ≡ character (x ∷ take (more x xs) xs)
unfolding piece_of
piece_good x xs e = rw e

pub piece_bad : (x : ℕ) (xs : List ℕ) → good x xs ≡ false → piece_of x xs ≡ ill (x ∷ take (more x xs) xs)
unfolding piece_of
piece_bad x xs e = rw e

-- ---- induction: what holds of a text whenever it holds of what is behind its first piece

module _ (P : List ℕ → Type 0) (none : P []) (one : (x : ℕ) (xs : List ℕ) → P (drop (more x xs) xs) → P (x ∷ xs)) where
  behind : (n : ℕ) (l : List ℕ) → P (drop n l)
  behind zero [] = none
  behind (suc n) [] = none
  behind zero (x ∷ xs) = one x xs (behind (more x xs) xs)
  behind (suc n) (x ∷ xs) = behind n xs

  pub by_pieces : (t : List ℕ) → P t
  by_pieces t = behind 0 t

-- ---- the questions, by the first piece

pub decode_nil : decode [] ≡ []
unfolding decode decoded
decode_nil = rw pieces_nil

pub valid_nil : valid_up_to [] ≡ 0
unfolding valid_up_to leading
valid_nil = rw pieces_nil

pub ill_nil : ill_size [] ≡ 0
unfolding ill_size ill_first
ill_nil = rw pieces_nil

pub count_nil : replacements [] ≡ 0
unfolding replacements ill_count
count_nil = rw pieces_nil

pub well_nil : well_formed [] ≡ true
unfolding well_formed clean
well_nil = rw pieces_nil

module _ (x : ℕ) (xs : List ℕ) (e : good x xs ≡ true) where
  pub decode-good : decode (x ∷ xs) ≡ (x ∷ take (more x xs) xs) ++ decode (drop (more x xs) xs)
  unfolding decode decoded shown
  decode-good = rw (pieces_cons, piece_good x xs e)

  pub valid_good : valid_up_to (x ∷ xs) ≡ suc (more x xs) + valid_up_to (drop (more x xs) xs)
  unfolding valid_up_to leading
  valid_good = rw (pieces_cons, piece_good x xs e, length-take-le (more x xs) xs (more_within x xs))

  pub ill-good : ill_size (x ∷ xs) ≡ 0
  unfolding ill_size ill_first
  ill-good = rw (pieces_cons, piece_good x xs e)

  pub count-good : replacements (x ∷ xs) ≡ replacements (drop (more x xs) xs)
  unfolding replacements ill_count
  count-good = rw (pieces_cons, piece_good x xs e)

  pub well_good : well_formed (x ∷ xs) ≡ well_formed (drop (more x xs) xs)
  unfolding well_formed clean
  well_good = rw (pieces_cons, piece_good x xs e)

module _ (x : ℕ) (xs : List ℕ) (e : good x xs ≡ false) where
  pub decode_bad : decode (x ∷ xs) ≡ replacement ++ decode (drop (more x xs) xs)
  unfolding decode decoded shown
  decode_bad = rw (pieces_cons, piece_bad x xs e)

  pub valid_bad : valid_up_to (x ∷ xs) ≡ 0
  unfolding valid_up_to leading
  valid_bad = rw (pieces_cons, piece_bad x xs e)

  pub ill_bad : ill_size (x ∷ xs) ≡ suc (more x xs)
  unfolding ill_size ill_first
  ill_bad = rw (pieces_cons, piece_bad x xs e, length-take-le (more x xs) xs (more_within x xs))

  pub count_bad : replacements (x ∷ xs) ≡ suc (replacements (drop (more x xs) xs))
  unfolding replacements ill_count
  count_bad = rw (pieces_cons, piece_bad x xs e)

  pub well_bad : well_formed (x ∷ xs) ≡ false
  unfolding well_formed clean
  well_bad = rw (pieces_cons, piece_bad x xs e)

-- ---- a step of the code

picked_good : (b : Bool) (n k : ℕ) → pick b (Good n) (Bad n) ≡ Good k → (b ≡ true) × (n ≡ k)
picked_good true n k e = (refl, (cc))
picked_good false n k e = let z : ◌≡◌ {A = ℕ} 0 1 = cc in absurd (omega arith)

picked_bad : (b : Bool) (n k : ℕ) → pick b (Good n) (Bad n) ≡ Bad k → (b ≡ false) × (n ≡ k)
picked_bad true n k e = let z : ◌≡◌ {A = ℕ} 0 1 = cc in absurd (omega arith)
picked_bad false n k e = (refl, (cc))

pub step_good : (x : ℕ) (xs : List ℕ) (k : ℕ) → step_of x xs ≡ Good k → (good x xs ≡ true) × (suc (more x xs) ≡ k)
unfolding step_of
step_good x xs k e = picked_good (good x xs) (suc (more x xs)) k e

pub step_bad : (x : ℕ) (xs : List ℕ) (k : ℕ) → step_of x xs ≡ Bad k → (good x xs ≡ false) × (suc (more x xs) ≡ k)
unfolding step_of
step_bad x xs k e = picked_bad (good x xs) (suc (more x xs)) k e
