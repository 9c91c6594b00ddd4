-- A datum by its parts: the arms of the reads.
-- Assumes nothing.
use Rattle.std.specs.Prelude.{Err}
use Prim.Native.Nat.{ℕ, ◌<◌, ◌+◌, ◌*◌, ◌≤◌}
use mathlib.Core.Path.{◌≡◌, refl, ap, sym, ◌∙◌}
use mathlib.Core.List.{List, [], ◌∷◌, ◌++◌, map}
use native.Mathlib.Omega.{arith}
use lib.ListN.{length, get_or}
use Rattle.base.specs.declared.error.PastEnd.{PastEnd as Past}
use Rattle.base.specs.Number.{get, read_of}
use Rattle.bflan.specs.declared.reader.datum.Fields.{Fields}
use Rattle.bflan.specs.declared.fault.Fault.{Fault}
use Rattle.bflan.specs.inner.DatumParts.{head, fields_of, key_text, values_and_key_text}
use Rattle.bflan.specs.Reader.{past_fault, Res, ok, stop, P, and_then, ◌>>=◌, ret, here, Item, word, num, seek_to, one_ended, numbers}
use Rattle.bflan.specs.pai1.Reading.{texture, datum}
use Rattle.bflan.specs.pai1.Places.{total}
use Rattle.bflan.specs.inner.Row.{cut_in}
use Rattle.bflan.specs.inner.Walk.{as_items}
use Rattle.bflan.proofs.reader.Emits.{num_past}
use Rattle.bflan.proofs.reader.Rows.{row_then, row_bind, fields_at, row_there, row_cut}
use Rattle.bflan.proofs.reader.Walks.{before, joined, put-before}

-- ---- the head: its reads are a row

abbrev pub fields_in : List ℕ → Fields
fields_in vs = record { size = get_or vs 0 0; one = get_or vs 1 0; two = get_or vs 2 0; base = get_or vs 3 0; three = get_or vs 4 0 }

abbrev pub datum_widths : List ℕ
datum_widths = 4 ∷ 2 ∷ 2 ∷ 4 ∷ 4 ∷ []

head-row : (s : List ℕ) (p : ℕ) → head s p ≡ row_then datum_widths (λ vs. ret (fields_in vs)) s p
unfolding head row_then
head-row s p = refl

module _ (s : List ℕ) (p : ℕ) where
  pub head_short : {f : Fault} → length s < p + 16 → f ≡ cut_in datum_widths s p → stop f ≡ head s p
  unfolding total
  head_short h e = rw e (sym (head-row s p ∙ row_cut s datum_widths (λ vs. ret (fields_in vs)) p (omega arith) h))

  pub head_there : {a b c d e : ℕ} → p + 16 ≤ length s → a ≡ get 4 s p → b ≡ get 2 s (p + 4) → c ≡ get 2 s (p + 6) → d ≡ get 4 s (p + 8) → e ≡ get 4 s (p + 12)
      → ok (record { size = a; one = b; two = c; base = d; three = e }) (p + 16) ≡ head s p
  unfolding total fields_at
  head_there h ea eb ec ed ee = rw (ea, eb, ec, ed, ee) (sym (head-row s p ∙ row_there s datum_widths (λ vs. ret (fields_in vs)) p 0 h))

-- ---- the key text, by core's answer

pub key_past : (s : List ℕ) (p : ℕ) (past : Past) → read_of 4 s p ≡ Err past → key_text s p ≡ stop (past_fault past)
unfolding key_text
key_past s p past e = rw (num_past 4 s p past e)

-- ---- the values, then the key text

pub behind_is : (n : ℕ) (s : List ℕ) (p : ℕ) → values_and_key_text n s p ≡ joined (as_items (numbers n s p)) (λ q. key_text s q)
unfolding values_and_key_text
behind_is n s p = go (numbers n s p)
  where
    go : (r : Res (List ℕ)) → and_then r (λ vs. λ s i. and_then (key_text s i) (λ key. ret (map word vs ++ key)) s) s ≡ joined (as_items r) (λ q. key_text s q)
    go (ok vs q) = put-before (map word vs) (key_text s q) s
    go (stop f) = refl

-- ---- a datum: the head, then what is behind it

-- the last lines of `datum`
abbrev rest : List Item → List ℕ → P (List Item)
rest is vs = do
  at ← here
  offset ← num 4
  start ← seek_to (at + offset)
  key ← one_ended
  ret (is ++ (map word vs ++ key))

rest_is : (is : List Item) (vs : List ℕ) (s : List ℕ) (q : ℕ) → rest is vs s q ≡ before is (before (map word vs) (key_text s q))
unfolding key_text texture
rest_is is vs s q = one (num 4 s q) refl
  where
    three : (offset q1 q2 start : ℕ) → num 4 s q ≡ ok offset q1 → seek_to (q + offset) s q1 ≡ ok start q2 → (r : Res (List Item)) → one_ended s q2 ≡ r
        → rest is vs s q ≡ before is (before (map word vs) (key_text s q))
    three offset q1 q2 start e1 e2 (ok key q3) e3 = rw (e1, e2, e3)
    three offset q1 q2 start e1 e2 (stop f) e3 = rw (e1, e2, e3)

    two : (offset q1 : ℕ) → num 4 s q ≡ ok offset q1 → (r : Res ℕ) → seek_to (q + offset) s q1 ≡ r → rest is vs s q ≡ before is (before (map word vs) (key_text s q))
    two offset q1 e1 (ok start q2) e2 = three offset q1 q2 start e1 e2 (one_ended s q2) refl
    two offset q1 e1 (stop f) e2 = rw (e1, e2)

    one : (r : Res ℕ) → num 4 s q ≡ r → rest is vs s q ≡ before is (before (map word vs) (key_text s q))
    one (ok offset q1) e1 = two offset q1 e1 (seek_to (q + offset) s q1) refl
    one (stop f) e1 = rw e1

rest_behind : (is : List Item) (vs : List ℕ) (s : List ℕ) (q : ℕ) → rest is vs s q ≡ before is (and_then (key_text s q) (λ key. ret (map word vs ++ key)) s)
rest_behind is vs s q = rest_is is vs s q ∙ ap (before is) (sym (put-before (map word vs) (key_text s q) s))

-- the lines of `datum` behind its head
abbrev pub datum_after : Fields → P (List Item)
datum_after h = λ s i. and_then (numbers (3 * h.base) s i) (rest (map word (fields_of h))) s

after_is : (h : Fields) (s : List ℕ) (q : ℕ) → datum_after h s q ≡ before (map word (fields_of h)) (values_and_key_text (3 * h.base) s q)
unfolding values_and_key_text
after_is h s q = go (numbers (3 * h.base) s q)
  where
    go : (r : Res (List ℕ)) → and_then r (rest (map word (fields_of h))) s ≡ before (map word (fields_of h)) (and_then r (λ vs. λ s i. and_then (key_text s i) (λ key. ret (map word vs ++ key)) s) s)
    go (ok vs j) = rest_behind (map word (fields_of h)) vs s j
    go (stop f) = refl

module _ (s : List ℕ) (p : ℕ) where
  datum-row : datum s p ≡ row_then datum_widths (λ vs. datum_after (fields_in vs)) s p
  unfolding datum row_then
  datum-row = refl

  -- with all of them there it goes on with its values
  pub datum_there : p + 16 ≤ length s → datum s p ≡ datum_after (fields_in (fields_at datum_widths s p 0)) s (p + 16)
  unfolding total
  datum_there h = datum-row ∙ row_there s datum_widths (λ vs. datum_after (fields_in vs)) p 0 h

  datum_head_lem : datum s p ≡ and_then (head s p) datum_after s
  datum_head_lem = datum-row ∙ sym (row_bind datum_widths (λ vs. ret (fields_in vs)) datum_after s p) ∙ ap (λ (r : Res Fields). and_then r datum_after s) (sym (head-row s p))

  -- the same for the arms over a head
  pub datum_on : (h : Fields) (q : ℕ) → ok h q ≡ head s p → datum s p ≡ before (map word (fields_of h)) (values_and_key_text (3 * h.base) s q)
  datum_on h q e = datum_head_lem ∙ ap (λ (r : Res Fields). and_then r datum_after s) (sym e) ∙ after_is h s q

  pub datum_no : (f : Fault) → stop f ≡ head s p → datum s p ≡ stop f
  datum_no f e = datum_head_lem ∙ ap (λ (r : Res Fields). and_then r datum_after s) (sym e)
