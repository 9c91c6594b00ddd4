-- An info by its eight bytes: the reads of its head, and what follows it.
-- Assumes nothing.
use Rattle.std.specs.Prelude.{Ok, Err}
use Prim.Native.Nat.{ℕ, ◌+◌, ◌<◌, ◌≤◌}
use mathlib.Core.Path.{◌≡◌, refl, ap, sym, ◌∙◌}
use mathlib.Core.List.{List, [], ◌∷◌}
use borrow.Author.Tests.{eq-eqb, ne_eqb}
use lib.Dec.{eqb}
use lib.ListN.{length, get_or}
use Rattle.base.specs.declared.error.PastEnd.{PastEnd as Past}
use Rattle.base.specs.Number.{get}
use Rattle.base.specs.Run.{numbers_at}
use Rattle.base.specs.Run.{numbers_of}
use Rattle.bflan.specs.declared.fault.Fault.{Fault}
use Rattle.bflan.specs.pai1.Letters.{fleu, letters_of}
use Rattle.bflan.specs.Reader.{past_fault, Res, ok, stop, and_then, ◌>>=◌, ret, given, Item, word, seek_to, numbers, many, visit}
use Rattle.bflan.specs.pai1.Reading.{target, datum, info}
use Rattle.bflan.specs.pai1.Places.{total}
use Rattle.bflan.specs.inner.Row.{sought_cut}
use Rattle.bflan.proofs.reader.KeyRuns.{numbers_run}
use Rattle.bflan.proofs.reader.Rows.{row_then, fields_at, sought_row, sought_short}
use Rattle.bflan.proofs.reader.Walks.{before, put-before}

-- what is read behind the numbers of an info's head
abbrev pub info_after : ℕ → List ℕ → List ℕ → ℕ → Res (List Item)
info_after base vs =
    given (eqb (get_or vs 0 0) fleu)
    (◌>>=◌ (many (get_or vs 1 0) datum) (λ ds. ret (word fleu ∷ word (get_or vs 1 0) ∷ ds)))
    (◌>>=◌ (numbers (get_or vs 1 0)) (λ offsets. ◌>>=◌ (visit base (target (get_or vs 0 0)) offsets) (λ ts. ret (word (letters_of (get_or vs 0 0)) ∷ word (get_or vs 1 0) ∷ ts))))

abbrev pub info_widths : List ℕ
info_widths = 4 ∷ 1 ∷ 1 ∷ 2 ∷ []

module _ (base : ℕ) (s : List ℕ) (i : ℕ) where
  -- a seek, its numbers as a row, and what is behind them
  info_seek : info base s i ≡ and_then (seek_to base s i) (λ at. row_then info_widths (info_after base)) s
  unfolding info row_then
  info_seek = refl

  pub info_short : {f : Fault} → length s < base + 8 → f ≡ sought_cut info_widths s base → info base s i ≡ stop f
  unfolding total
  info_short h e = rw e (info_seek ∙ sought_short s info_widths (info_after base) base i h)

  -- what follows the head, by its letters and its count
  abbrev pub info_rest : ℕ → ℕ → Res (List Item)
  info_rest letters n = info_after base (letters ∷ n ∷ []) s (base + 8)

  pub info_there : base + 8 ≤ length s → info base s i ≡ info_rest (get 4 s base) (get 1 s (base + 4))
  unfolding total fields_at
  info_there h = info_seek ∙ sought_row s info_widths (info_after base) base i h

  -- an extended info
  pub rest_extended : (letters n : ℕ) → letters ≡ fleu → info_rest letters n ≡ before (word fleu ∷ word n ∷ []) (many n datum s (base + 8))
  rest_extended letters n e = rw (eq-eqb letters fleu e) (put-before (word fleu ∷ word n ∷ []) (many n datum s (base + 8)) s)

  -- a standard info whose offset table is whole, or is not
  pub rest_standard : (letters n q : ℕ) → (letters ≡ fleu → ⊥) → numbers_of n s (base + 8) ≡ Ok q
      → info_rest letters n ≡ before (word (letters_of letters) ∷ word n ∷ []) (visit base (target letters) (numbers_at n s (base + 8)) s q)
  rest_standard letters n q e t =
      let r : numbers n s (base + 8) ≡ ok (numbers_at n s (base + 8)) q = numbers_run n s (base + 8) ∙ rw t in
      rw (ne_eqb letters fleu e, r) (put-before (word (letters_of letters) ∷ word n ∷ []) (visit base (target letters) (numbers_at n s (base + 8)) s q) s)

  pub rest_cut : (letters n : ℕ) (past : Past) → (letters ≡ fleu → ⊥) → numbers_of n s (base + 8) ≡ Err past → info_rest letters n ≡ stop (past_fault past)
  rest_cut letters n past e t =
      let r : numbers n s (base + 8) ≡ stop (past_fault past) = numbers_run n s (base + 8) ∙ rw t in
      rw (ne_eqb letters fleu e, r)

  -- the same with the head's numbers at hand
  pub info_extended : (n : ℕ) → base + 8 ≤ length s → get 4 s base ≡ fleu → n ≡ get 1 s (base + 4) → info base s i ≡ before (word fleu ∷ word n ∷ []) (many n datum s (base + 8))
  info_extended n h e en = info_there h ∙ ap (λ (m : ℕ). info_rest (get 4 s base) m) (sym en) ∙ rest_extended (get 4 s base) n e

  pub info_standard : (letters n q : ℕ) → base + 8 ≤ length s → letters ≡ get 4 s base → (letters ≡ fleu → ⊥) → n ≡ get 1 s (base + 4) → numbers_of n s (base + 8) ≡ Ok q
      → info base s i ≡ before (word (letters_of letters) ∷ word n ∷ []) (visit base (target letters) (numbers_at n s (base + 8)) s q)
  info_standard letters n q h el e en t =
      info_there h ∙ ap (λ (m : ℕ). info_rest (get 4 s base) m) (sym en) ∙ ap (λ (m : ℕ). info_rest m n) (sym el) ∙ rest_standard letters n q e t

  pub info_cut : (letters n : ℕ) (past : Past) → base + 8 ≤ length s → letters ≡ get 4 s base → (letters ≡ fleu → ⊥) → n ≡ get 1 s (base + 4) → numbers_of n s (base + 8) ≡ Err past
      → info base s i ≡ stop (past_fault past)
  info_cut letters n past h el e en t =
      info_there h ∙ ap (λ (m : ℕ). info_rest (get 4 s base) m) (sym en) ∙ ap (λ (m : ℕ). info_rest m n) (sym el) ∙ rest_cut letters n past e t
