-- Walks over a record's words and texts that judge them (document 01, 'Flat record' and the refusals 6 and 7): a value that they are, or
-- the first fault. A length is judged before its text, and a text before the word behind its length.
use Rattle.std.specs.Prelude.{ℕ, zero, suc, ◌+◌, ◌^◌, Bool, true, false, ◌&&◌, List, [], ◌∷◌, ltb, leb, length, get_or, take, drop}
use Rattle.base.specs.Choice.{pick}
use Rattle.base.specs.Text.{first_fault}

-- a value with the words and the text bytes that are behind it, or a fault: the index of a word, or of a text byte
pub data Judged (A : Type 0) : Type 0 where
  fine : A → ℕ → ℕ → Judged A
  bad_word : ℕ → Judged A
  bad_text : ℕ → Judged A

abbrev pub J : Type 0 → Type 0
J A = List ℕ → List ℕ → ℕ → ℕ → Judged A

module _ {A B : Type 0} where
  abbrev pub and_then : Judged A → (A → J B) → List ℕ → List ℕ → Judged B
  and_then (fine a i j) q w x = q a w x i j
  and_then (bad_word i) q w x = bad_word i
  and_then (bad_text j) q w x = bad_text j

  abbrev pub ◌>>=◌ : J A → (A → J B) → J B
  ◌>>=◌ p q = λ w x i j. and_then (p w x i j) q w x

module _ {A : Type 0} where
  abbrev pub ret : A → J A
  ret a = λ w x i j. fine a i j

  abbrev pub given : Bool → J A → J A → J A
  given true p q = p
  given false p q = q

-- the next word, if it is there and the test holds of it
unfoldable pub next_word : (ℕ → Bool) → J ℕ
next_word test = λ w x i j. pick (ltb i (length w) && test (get_or w i 0)) (fine (get_or w i 0) (i + 1) j) (bad_word i)

-- the next n bytes of the texts, if they are there and well-formed and none is zero
unfoldable pub next_chars : ℕ → J (List ℕ)
next_chars n = λ w x i j.
    pick (leb (j + n) (length x))
    (pick (ltb (first_fault (take n (drop j x))) n) (bad_text (j + first_fault (take n (drop j x)))) (fine (take n (drop j x)) i (j + n)))
    (bad_text (length x))

-- a text: its length, of which the test holds, and its bytes
unfoldable pub next_text : (ℕ → Bool) → J (List ℕ)
next_text test = do
  n ← next_word test
  next_chars n

-- n values, one after another
unfoldable pub times : {X : Type 0} → ℕ → J X → J (List X)
times zero p = ret []
times (suc n) p = do
  x ← p
  xs ← times n p
  ret (x ∷ xs)

-- a number of k bytes
abbrev pub wide : ℕ → ℕ → Bool
wide k v = ltb v (256 ^ k)

-- one word for each width
unfoldable pub row : List ℕ → J (List ℕ)
row [] = ret []
row (k ∷ ks) = do
  v ← next_word (wide k)
  vs ← row ks
  ret (v ∷ vs)

-- no word and then no text byte is over
unfoldable pub ends : J ℕ
ends = λ w x i j. pick (ltb i (length w)) (bad_word i) (pick (ltb j (length x)) (bad_text j) (fine 0 i j))

-- a value that is all there is
unfoldable pub whole : {X : Type 0} → J X → J X
whole p = do
  x ← p
  _ ← ends
  ret x
