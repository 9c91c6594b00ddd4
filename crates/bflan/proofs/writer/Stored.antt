-- Numbers and texts as they are stored, of any format: a row of numbers, and a text with what is behind it.
-- Assumes nothing.
use Prim.Native.Nat.{ℕ, ◌+◌, ◌≤◌, ◌<◌}
use mathlib.Core.Path.{◌≡◌, refl, sym, ap, ◌∙◌}
use mathlib.Core.Bool.{Bool, true}
use mathlib.Core.List.{List, [], ◌∷◌}
use native.Mathlib.Omega.{arith}
use lib.ListN.{length, get_or, take, drop}
use lib.Seq.{sets}
use Rattle.base.specs.Number.{put}
use Rattle.bflan.specs.Judge.{next_text, wide}
use Rattle.bflan.specs.Layout.{Layout, number, bytes, ◌⨾◌, size, written, row as rowLay, ended}
use Rattle.bflan.specs.Limits.{limit}
use Rattle.bflan.specs.inner.Pen.{Pen, Ready}
use Rattle.bflan.proofs.judge.Laws.{TextAt, text_at}
use Rattle.bflan.proofs.reader.Rows.{offset_by, offset_is}
use Rattle.bflan.proofs.writer.Pens.{Leaves, Wrote, wrote_number, wrote_bytes, wrote_then, whole-laid, whole-behind}

-- ---- a row of numbers, stored one after another: the first of them o behind at

pub data Puts (at : ℕ) : List ℕ → List ℕ → ℕ → List ℕ → List ℕ → Type 0 where
  puts_none : {o : ℕ} {l : List ℕ} → Puts at [] [] o l l
  puts_more : {k u v o : ℕ} {ks vs l m n : List ℕ} → m ≡ put k l (offset_by at o) u → u ≡ v → Puts at ks vs (o + k) m n → Puts at (k ∷ ks) (v ∷ vs) o l n

puts_from : {at o : ℕ} {ks vs l n : List ℕ} → Puts at ks vs o l n → Wrote l (at + o) (rowLay ks vs) n
unfolding rowLay written size
puts_from puts_none = record { same = refl }
puts_from {at} (puts_more {o = o} e d r) = wrote_then (wrote_number (rw (offset_is at o, d) at e)) (puts_from r) (omega arith)

pub row_stored : {at : ℕ} {ks vs l n : List ℕ} → Puts at ks vs 0 l n → n ≡ sets l at (written (rowLay ks vs))
row_stored {at} r = let e : at + 0 ≡ at = omega arith in rw e at (puts_from r).same

-- ---- a text, and what is behind it

module _ (lay : List ℕ → Layout) (tail : ℕ → Layout) (shape : (t : List ℕ) → lay t ≡ bytes t ⨾ tail (length t)) (test : ℕ → Bool)
    (w x : List ℕ) (q : Pen) {most : ℕ} (h : Ready lay (next_text test w x q.word q.byte) q.at most) (n : ℕ) (e : n ≡ get_or w q.word 0) where
  t : TextAt test w x q.word q.byte h.value h.word h.byte
  t = text_at test w x q.word q.byte h.judged

  text-size : size (lay h.value) ≡ n + size (tail n)
  unfolding size
  text-size = ap size (shape h.value) ∙ rw (t.size, e)

  -- what its needs ask
  pub text-fits : (q.word < length w) × (test n ≡ true) × (q.byte + n ≤ length x) × (q.at + n + size (tail n) ≤ limit)
  text-fits = (t.there, rw e t.good, rw e t.inside, omega (arith, text-size, h.short))

  pub text_done : (out : List ℕ) {m o : List ℕ} {u : Pen} → m ≡ sets out q.at (take n (drop q.byte x)) → Wrote m (q.at + n) (tail n) o
      → u ≡ record { word = q.word + 1; byte = q.byte + n; at = q.at + n + size (tail n) }
      → Leaves lay (next_text test w x q.word q.byte) q.at out u o
  unfolding size
  text_done out a b c =
      let v : take n (drop q.byte x) ≡ h.value = rw e (sym t.bytes) in
      let z : n ≡ length h.value = e ∙ sym t.size in (
        whole-behind lay h (ap (λ (z : Pen). z.word) c ∙ sym t.word) (ap (λ (z : Pen). z.byte) c ∙ rw e (sym t.byte))
            (ap (λ (z : Pen). z.at) c ∙ omega (arith, text-size)),
        whole-laid lay h (wrote_then (wrote_bytes (rw v at a)) (rw z at b) refl) (ap written (sym (shape h.value))),
      )

module _ (w x : List ℕ) (q : Pen) {most : ℕ} (h : Ready ended (next_text (wide 4) w x q.word q.byte) q.at most) (n : ℕ) (e : n ≡ get_or w q.word 0) where
  ended_shape : (t : List ℕ) → ended t ≡ bytes t ⨾ number 1 0
  unfolding ended
  ended_shape t = refl

  pub ended-fits : (q.word < length w) × (q.byte + n ≤ length x) × (q.at + n + 1 ≤ limit)
  unfolding size
  ended-fits = let f = text-fits ended (λ k. number 1 0) ended_shape (wide 4) w x q h n e in (f.0, f.2, f.3)

  pub ended_done : (out : List ℕ) {m o : List ℕ} {u : Pen} → m ≡ sets out q.at (take n (drop q.byte x)) → o ≡ put 1 m (q.at + n) 0
      → u ≡ record { word = q.word + 1; byte = q.byte + n; at = q.at + n + 1 }
      → Leaves ended (next_text (wide 4) w x q.word q.byte) q.at out u o
  unfolding size
  ended_done out a b c = text_done ended (λ k. number 1 0) ended_shape (wide 4) w x q h n e out a (wrote_number b) c
