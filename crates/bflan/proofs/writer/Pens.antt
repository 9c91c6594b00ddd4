-- Storing a part that was judged fine: in pieces, one after another, and behind a table of offsets.
-- Assumes nothing.
use Prim.Native.Nat.{ℕ, zero, suc, ◌+◌, ◌*◌, ◌-◌, ◌≤◌, ◌<◌}
use mathlib.Core.Path.{◌≡◌, refl, sym, ap, ◌∙◌}
use mathlib.Core.List.{List, ◌∷◌, ◌++◌}
use mathlib.Core.Logic.{inl, inr}
use native.Mathlib.Nat.{add-zero}
use native.Mathlib.Omega.{arith}
use lib.ListN.{length, replicate, length-append, length-replicate}
use lib.Seq.{sets, length-sets}
use Rattle.base.specs.Number.{le, put}
use Rattle.base.specs.Placeholder.{entry_at}
use Rattle.base.proofs.Apart.{sets_past}
use Rattle.base.proofs.Numbers.{length-le, length-put, patch_late}
use Rattle.base.proofs.Placeholders.{entry_there}
use Rattle.base.proofs.Stores.{sets-append, sets_over}
use Rattle.bflan.specs.declared.writer.Writer.{Writer}
use Rattle.bflan.specs.Judge.{Judged, fine, bad_word, bad_text, J, times}
use Rattle.bflan.specs.Layout.{Layout, number, bytes, ◌⨾◌, size, written, parts, table}
use Rattle.bflan.specs.Limits.{limit}
use Rattle.bflan.specs.inner.Pen.{Pen, moved, next, Ready, laid, pen_behind, HasNext, behind, listed}
use Rattle.bflan.proofs.judge.Inversion.{times_more, times-length}
use Rattle.bflan.proofs.judge.Laws.{fine_to}
use Rattle.bflan.proofs.Layouts.{size-written, size-table}

-- ---- layouts stored one after another

-- m is l with the layout's bytes from `at` on
pub record Wrote (l : List ℕ) (at : ℕ) (a : Layout) (m : List ℕ) : Type 0 where
  pub same : m ≡ sets l at (written a)

module _ {l m : List ℕ} {at : ℕ} where
  pub wrote_number : {k n : ℕ} → m ≡ put k l at n → Wrote l at (number k n) m
  unfolding put written
  wrote_number e = record { same = e }

  pub wrote_bytes : {v : List ℕ} → m ≡ sets l at v → Wrote l at (bytes v) m
  unfolding written
  wrote_bytes e = record { same = e }

  -- letters
  pub wrote_code : (k n : ℕ) → m ≡ put k l at n → Wrote l at (bytes (le k n)) m
  unfolding put written
  wrote_code k n e = record { same = e }

  pub wrote_then : {a b : Layout} {p : ℕ} {r : List ℕ} → Wrote l at a m → Wrote m p b r → p ≡ at + size a → Wrote l at (a ⨾ b) r
  unfolding written
  wrote_then {a} {b} {p} {r} h k e =
      record { same = rw (sets-append l at (written a) (written b), size-written a, ← h.same, ← e) k.same }

  pub wrote_like : {a b : Layout} → Wrote l at a m → written a ≡ written b → Wrote l at b m
  wrote_like {a} {b} h e = record { same = h.same ∙ ap (sets l at) e }

-- a number with something behind it, patched late
pub wrote_patched : {l o : List ℕ} {at k m : ℕ} {a b : Layout} → Wrote l at (a ⨾ number k m ⨾ b) o → (p n : ℕ) {r : List ℕ} → p ≡ at + size a → r ≡ put k o p n
    → Wrote l at (a ⨾ number k n ⨾ b) r
unfolding put written
wrote_patched {l} {o} {at} {k} {m} {a} {b} h p n {r} e f =
    record { same = f ∙ ap (λ (z : List ℕ). put k z p n) (h.same ∙ apart m) ∙ patch_late k (sets l at (written a)) p m n (p + k) (written b) (inl (omega arith)) ∙ sym (apart n) }
  where
    apart : (v : ℕ) → sets l at (written a ++ (le k v ++ written b)) ≡ sets (put k (sets l at (written a)) p v) (p + k) (written b)
    apart v = rw (sets-append l at (written a) (le k v ++ written b), size-written a, ← e, sets-append (sets l at (written a)) p (le k v) (written b), length-le)

-- what a stored part leaves: the place behind it, and the bytes
abbrev pub Leaves : {A : Type 0} → (A → Layout) → Judged A → ℕ → List ℕ → Pen → List ℕ → Type 0
Leaves lay r at out u o = (u ≡ pen_behind lay r at) × (o ≡ laid lay r at out)

-- the writer behind a part, by what storing the part leaves
pub wrote_behind : {A : Type 0} (lay : A → Layout) (r : Judged A) (w : Writer) {u : Pen} {o : List ℕ} → Leaves lay r w.at w.out.now u o
    → moved w u o ≡ moved w (pen_behind lay r w.at) (laid lay r w.at w.out.now)
wrote_behind lay r w (a, b) = rw (a, b)

-- a writer that moved to the same place, with the same bytes
pub moved_alike : (w : Writer) {u v : Pen} {o m : List ℕ} → u ≡ v → o ≡ m → moved w u o ≡ moved w v m
moved_alike w a b = rw (a, b)

-- a writer that moved, and moves on
pub moved_on : (w : Writer) {v : Writer} {q : Pen} {o : List ℕ} → v ≡ moved w q o → (u : Pen) (m : List ℕ) → moved v u m ≡ moved w u m
moved_on w e u m = rw e

-- a pen, by its two places that change
pub pen_alike : {i j b at a : ℕ} → i ≡ j → at ≡ a → ◌≡◌ {A = Pen} (record { word = i; byte = b; at = at }) (record { word = j; byte = b; at = a })
pen_alike e f = rw (e, f)

pub length-laid : {A : Type 0} (lay : A → Layout) (r : Judged A) (at : ℕ) (out : List ℕ) → length (laid lay r at out) ≡ length out
unfolding laid
length-laid lay (fine a i j) at out = length-sets out at (written (lay a))
length-laid lay (bad_word i) at out = refl
length-laid lay (bad_text j) at out = refl

-- where a writer stands, its record, and its section
abbrev pub pen_of : Writer → Pen
pen_of w = record { word = w.word; byte = w.byte; at = w.at }

abbrev pub words_of : Writer → List ℕ
words_of w = w.words.now

abbrev pub texts_of : Writer → List ℕ
texts_of w = w.texts.now

abbrev pub stored_of : Writer → List ℕ
stored_of w = w.out.now

-- ---- what was judged fine

module _ {A : Type 0} (lay : A → Layout) {r : Judged A} {a : A} {i j : ℕ} (e : r ≡ fine a i j) where
  pub laid-fine : (at : ℕ) (out : List ℕ) → laid lay r at out ≡ sets out at (written (lay a))
  unfolding laid
  laid-fine at out = rw e

  pub behind-fine : (at : ℕ) → pen_behind lay r at ≡ record { word = i; byte = j; at = at + size (lay a) }
  unfolding pen_behind
  behind-fine at = rw e

  -- there is the room that the value needs
  pub room_for : {at most : ℕ} → Ready lay r at most → (at + size (lay a) ≤ most) × (at + size (lay a) ≤ limit)
  room_for {at} {most} h =
      fine_to (λ (a : A) (i j : ℕ). (at + size (lay a) ≤ most) × (at + size (lay a) ≤ limit)) (sym h.judged ∙ e) (h.room, h.short)

-- ---- a part of two: the first and the rest

pub record Splits {A B C : Type 0} (lay : A → Layout) (r : Judged A) (one : B → Layout) (s : Judged B) (two : C → Layout) (t : Judged C) : Type 0 where
  pub whole : A
  pub first : B
  pub rest : C
  pub word : ℕ
  pub byte : ℕ
  pub next_word : ℕ
  pub next_byte : ℕ
  pub all : r ≡ fine whole word byte
  pub starts : s ≡ fine first next_word next_byte
  pub goes_on : t ≡ fine rest word byte
  pub same : written (lay whole) ≡ written (one first) ++ written (two rest)

module _ {A B C : Type 0} {lay : A → Layout} {r : Judged A} {one : B → Layout} {s : Judged B} {two : C → Layout} {t : Judged C}
    (h : Splits lay r one s two t) where
  sizes : size (lay h.whole) ≡ size (one h.first) + size (two h.rest)
  sizes =
      sym (size-written (lay h.whole)) ∙ ap length h.same
      ∙ rw (length-append, size-written (one h.first), size-written (two h.rest))

  module _ (at : ℕ) where
    pub first_ready : {most : ℕ} → Ready lay r at most → Ready one s at most
    first_ready k =
        let f = room_for lay h.all k in
        let n = sizes in
        record { value = h.first; word = h.next_word; byte = h.next_byte; judged = h.starts; room = omega (arith, f.0, n); short = omega (arith, f.1, n) }

    -- the rest, from where the first ends
    pub rest_ready : {most : ℕ} → Ready lay r at most → (q : Pen) → q ≡ pen_behind one s at → Ready two t q.at most
    rest_ready {most} k q e =
        let f = room_for lay h.all k in
        let n = sizes in
        let p : q.at ≡ at + size (one h.first) = ap (λ (z : Pen). z.at) (e ∙ behind-fine one h.starts at) in
        record { value = h.rest; word = h.word; byte = h.byte; judged = h.goes_on; room = omega (arith, f.0, n, p); short = omega (arith, f.1, n, p) }

    pub split_behind : (q : Pen) → q ≡ pen_behind one s at → pen_behind two t q.at ≡ pen_behind lay r at
    split_behind q e =
        let n = sizes in
        let p : q.at ≡ at + size (one h.first) = ap (λ (z : Pen). z.at) (e ∙ behind-fine one h.starts at) in
        let z : q.at + size (two h.rest) ≡ at + size (lay h.whole) = omega (arith, n, p) in
        behind-fine two h.goes_on q.at
        ∙ ap (λ (g : ℕ). record { word = h.word; byte = h.byte; at = g }) z
        ∙ sym (behind-fine lay h.all at)

    pub split_laid : (q : Pen) → q ≡ pen_behind one s at → (out : List ℕ) → laid two t q.at (laid one s at out) ≡ laid lay r at out
    split_laid q e out =
        let p : q.at ≡ at + size (one h.first) = ap (λ (z : Pen). z.at) (e ∙ behind-fine one h.starts at) in
        rw (
          laid-fine two h.goes_on q.at (laid one s at out),
          laid-fine one h.starts at out,
          laid-fine lay h.all at out,
          h.same,
          sets-append out at (written (one h.first)) (written (two h.rest)),
          size-written (one h.first),
          p,
        )

-- the same, the first being plain fields
pub head_splits : {A C : Type 0} {lay : A → Layout} {r : Judged A} {at most : ℕ} (h : Ready lay r at most) {head : Layout} {i j : ℕ} {two : C → Layout} {t : Judged C} (rest : C)
    → t ≡ fine rest h.word h.byte → written (lay h.value) ≡ written head ++ written (two rest) → Splits lay r (λ (l : Layout). l) (fine head i j) two t
head_splits h {head} {i} {j} rest e d =
    record { whole = h.value; first = head; rest = rest; word = h.word; byte = h.byte; next_word = i; next_byte = j; all = h.judged; starts = refl; goes_on = e; same = d }

module _ {A C : Type 0} {lay : A → Layout} {r : Judged A} {head : Layout} {i j : ℕ} {two : C → Layout} {t : Judged C}
    (h : Splits lay r (λ (l : Layout). l) (fine head i j) two t) (at n : ℕ) (e : n ≡ size head) where
  here : record { word = i; byte = j; at = at + n } ≡ pen_behind (λ (l : Layout). l) (fine head i j) at
  unfolding pen_behind
  here = rw e

  pub head_ready : {most : ℕ} → Ready lay r at most → Ready two t (at + n) most
  head_ready k = rest_ready h at k (record { word = i; byte = j; at = at + n }) here

  pub head_done : (out : List ℕ) {m o : List ℕ} {u : Pen} → m ≡ sets out at (written head) → u ≡ pen_behind two t (at + n) → o ≡ laid two t (at + n) m
      → Leaves lay r at out u o
  unfolding laid
  head_done out f g d = (g ∙ split_behind h at (record { word = i; byte = j; at = at + n }) here, d ∙ rw f (split_laid h at (record { word = i; byte = j; at = at + n }) here out))

-- a part that was stored in pieces
module _ {A : Type 0} (lay : A → Layout) {r : Judged A} {at most : ℕ} (h : Ready lay r at most) where
  pub whole-laid : {l : Layout} {out m : List ℕ} → Wrote out at l m → written l ≡ written (lay h.value) → m ≡ laid lay r at out
  whole-laid {l} {out} k e = k.same ∙ ap (sets out at) e ∙ sym (laid-fine lay h.judged at out)

  pub whole-behind : {u : Pen} → u.word ≡ h.word → u.byte ≡ h.byte → u.at ≡ at + size (lay h.value) → u ≡ pen_behind lay r at
  whole-behind a b c = pen_is a b c ∙ sym (behind-fine lay h.judged at)
    where
      pen_is : {u : Pen} {i j k : ℕ} → u.word ≡ i → u.byte ≡ j → u.at ≡ k → u ≡ record { word = i; byte = j; at = k }
      pen_is a b c = rw (← a, ← b, ← c)

-- a part by another layout with the same bytes
module _ {A : Type 0} (lay like : A → Layout) {r : Judged A} {at most : ℕ} (h : Ready lay r at most) (e : written (lay h.value) ≡ written (like h.value)) where
  like_size : size (lay h.value) ≡ size (like h.value)
  like_size = sym (size-written (lay h.value)) ∙ ap length e ∙ size-written (like h.value)

  pub like_ready : Ready like r at most
  like_ready =
      record { value = h.value; word = h.word; byte = h.byte; judged = h.judged; room = rw (← like_size) h.room; short = rw (← like_size) h.short }

  pub like_behind : pen_behind like r at ≡ pen_behind lay r at
  like_behind = behind-fine like h.judged at ∙ ap (λ (n : ℕ). record { word = h.word; byte = h.byte; at = at + n }) (sym like_size) ∙ sym (behind-fine lay h.judged at)

  pub like_laid : (out : List ℕ) → laid like r at out ≡ laid lay r at out
  like_laid out = laid-fine like h.judged at out ∙ ap (sets out at) (sym e) ∙ sym (laid-fine lay h.judged at out)

-- the place behind a part
pub behind-within : {A : Type 0} (lay : A → Layout) {r : Judged A} {at most : ℕ} → Ready lay r at most → {u : Pen} → u ≡ pen_behind lay r at → (at ≤ u.at) × (u.at ≤ limit)
behind-within lay {r} {at} h {u} e =
    let p : u.at ≡ at + size (lay h.value) = ap (λ (z : Pen). z.at) (e ∙ behind-fine lay h.judged at) in
    (omega (arith, p), omega (arith, p, h.short))

-- a part within another one
pub ready_within : {A B : Type 0} {lay : A → Layout} {r : Judged A} {at most : ℕ} (h : Ready lay r at most) {two : B → Layout} {t : Judged B} {v : B} {i j p : ℕ} → t ≡ fine v i j
    → p + size (two v) ≤ at + size (lay h.value) → Ready two t p most
ready_within h {v = v} {i} {j} e l = record { value = v; word = i; byte = j; judged = e; room = omega (arith, l, h.room); short = omega (arith, l, h.short) }

pub ready_in : {A : Type 0} {lay : A → Layout} {r : Judged A} {at m n : ℕ} → n ≡ m → Ready lay r at m → Ready lay r at n
ready_in e h = rw e h

-- ---- the first of a run, and the rest of it

module _ {X : Type 0} (p : J X) (lay : X → Layout) (w x : List ℕ) where
  pub times_splits : (n i j at : ℕ) {most : ℕ} → 0 < n → Ready (parts lay) (times n p w x i j) at most → (q : Pen) → q ≡ pen_behind lay (p w x i j) at
      → Splits (parts lay) (times n p w x i j) lay (p w x i j) (parts lay) (times (n - 1) p w x q.word q.byte)
  unfolding parts written
  times_splits zero i j at l h q e = absurd (omega arith)
  times_splits (suc n) i j at {most} l h q e =
      times_more p w x n i j h.judged λ y zs m o a b c.
      let f : q ≡ record { word = m; byte = o; at = at + size (lay y) } = e ∙ behind-fine lay a at in
      let g : suc n - 1 ≡ n = omega arith in
      record {
        whole = h.value;
        first = y;
        rest = zs;
        word = h.word;
        byte = h.byte;
        next_word = m;
        next_byte = o;
        all = h.judged;
        starts = a;
        goes_on = rw (g, ap (λ (z : Pen). z.word) f, ap (λ (z : Pen). z.byte) f) b;
        same = rw c;
      }

  pub first_of : (n i j at : ℕ) {most : ℕ} → 0 < n → Ready (parts lay) (times n p w x i j) at most → Ready lay (p w x i j) at most
  first_of n i j at l h = first_ready (times_splits n i j at l h (pen_behind lay (p w x i j) at) refl) at h

  -- where nothing is left
  pub none-behind : (n i j at : ℕ) → n ≤ 0 → pen_behind (parts lay) (times n p w x i j) at ≡ record { word = i; byte = j; at = at }
  unfolding times pen_behind parts size
  none-behind zero i j at l = ap (λ (g : ℕ). record { word = i; byte = j; at = g }) (add-zero at)
  none-behind (suc n) i j at l = absurd (omega arith)

  pub none-laid : (n i j at : ℕ) (out : List ℕ) → n ≤ 0 → laid (parts lay) (times n p w x i j) at out ≡ out
  unfolding times laid parts written
  none-laid zero i j at out l = refl
  none-laid (suc n) i j at out l = absurd (omega arith)

-- a loop over a run of n, from w₀ on: what is left, from here, is what all of it is, from the start
pub record Running {X : Type 0} (p : J X) (lay : X → Layout) (n : ℕ) (w₀ : Writer) (left : ℕ) (w : Writer) : Type 0 where
  pub ready : HasNext (parts lay) (times left p) w
  pub ends : behind (parts lay) (times left p) w ≡ behind (parts lay) (times n p) w₀

module _ {X : Type 0} {p : J X} {lay : X → Layout} {n : ℕ} {w₀ : Writer} {left : ℕ} {w : Writer} (h : Running p lay n w₀ left w) where
  pub running_first : 0 < left → HasNext lay p w
  running_first l = first_of p lay w.words.now w.texts.now left w.word w.byte w.at l h.ready

  pub running_turn : 0 < left → {u : Writer} → u ≡ behind lay p w → Running p lay n w₀ (left - 1) u
  running_turn l e =
      let q : Pen = pen_behind lay (next p w) w.at in
      let s = times_splits p lay w.words.now w.texts.now left w.word w.byte w.at l h.ready q refl in
      record {
        ready = rw e (ready_in (length-laid lay (next p w) w.at w.out.now) (rest_ready s w.at h.ready q refl));
        ends = rw e (moved_alike w (split_behind s w.at q refl) (split_laid s w.at q refl w.out.now)) ∙ h.ends;
      }

  pub running_end : left ≤ 0 → w ≡ behind (parts lay) (times n p) w₀
  running_end l =
      sym (moved_alike w (none-behind p lay w.words.now w.texts.now left w.word w.byte w.at l) (none-laid p lay w.words.now w.texts.now left w.word w.byte w.at w.out.now l)) ∙ h.ends

-- ---- behind a table of offsets

module _ {X : Type 0} (lay : X → Layout) (from : ℕ) (xs : List X) where
  pub listed-size : size (listed lay from xs) ≡ 4 * length xs + size (parts lay xs)
  unfolding listed size
  listed-size = ap (λ (k : ℕ). k + size (parts lay xs)) (size-table lay from xs)

  listed_stored : (out : List ℕ) (at u : ℕ) → u ≡ at + 4 * length xs
      → sets (sets out at (written (table lay from xs))) u (written (parts lay xs)) ≡ sets out at (written (listed lay from xs))
  unfolding listed written
  listed_stored out at u e =
      let n : u ≡ at + length (written (table lay from xs)) = rw (size-written (table lay from xs), size-table lay from xs) e in
      rw n (sym (sets-append out at (written (table lay from xs)) (written (parts lay xs))))

-- two runs and the parts behind them, stored by turns
stores_between : (out : List ℕ) (tab t at u : ℕ) (E T Y Z : List ℕ) → t ≡ tab + length E → u ≡ at + length Y → t + length T ≤ at
    → sets (sets (sets (sets out tab E) at Y) t T) u Z ≡ sets (sets out tab (E ++ T)) at (Y ++ Z)
stores_between out tab t at u E T Y Z e f h =
    rw (
      sets_past (sets out tab E) t T at Y (inr h),
      f,
      ← sets-append (sets (sets out tab E) t T) at Y Z,
      e,
      ← sets-append out tab E T,
    )

-- the table at `tab` and the parts at `at`, with whatever between; the offsets count from `base`
module _ {X : Type 0} (lay : X → Layout) (base : ℕ) where
  unfoldable pub tabled : Judged (List X) → ℕ → ℕ → List ℕ → List ℕ
  tabled (fine xs i j) tab at out = sets (sets out tab (written (table lay (at - base) xs))) at (written (parts lay xs))
  tabled (bad_word i) tab at out = out
  tabled (bad_text j) tab at out = out

  tabled_fine : {r : Judged (List X)} {xs : List X} {i j : ℕ} → r ≡ fine xs i j → (tab at : ℕ) (out : List ℕ)
      → tabled r tab at out ≡ sets (sets out tab (written (table lay (at - base) xs))) at (written (parts lay xs))
  unfolding tabled
  tabled_fine e tab at out = rw e

  -- the offset and the part of the first, stored before the others'
  tabled_more : (y : X) (zs : List X) (tab at u : ℕ) (out : List ℕ) → base ≤ at → tab + 4 * suc (length zs) ≤ at → u ≡ at + size (lay y)
      → sets (sets (sets (put 4 out tab (at - base)) at (written (lay y))) (tab + 4) (written (table lay (u - base) zs))) u (written (parts lay zs))
      ≡ sets (sets out tab (written (table lay (at - base) (y ∷ zs)))) at (written (parts lay (y ∷ zs)))
  unfolding put table parts written
  tabled_more y zs tab at u out h g e =
      let f : u - base ≡ at - base + size (lay y) = omega (arith, h, e) in
      let n : length (written (table lay (u - base) zs)) ≡ 4 * length zs = size-written (table lay (u - base) zs) ∙ size-table lay (u - base) zs in
      let a : tab + 4 ≡ tab + length (le 4 (at - base)) = rw length-le in
      let b : u ≡ at + length (written (lay y)) = e ∙ rw size-written in
      stores_between out tab (tab + 4) at u (le 4 (at - base)) (written (table lay (u - base) zs)) (written (lay y)) (written (parts lay zs)) a b (omega (arith, n, g))
      ∙ ap (λ (k : ℕ). sets (sets out tab (le 4 (at - base) ++ written (table lay k zs))) at (written (lay y) ++ written (parts lay zs))) f

-- a loop over a run of n with its table at `tab`, i of them stored: what is left, from here, is what all of it is, from the start
pub record Going {X : Type 0} (p : J X) (lay : X → Layout) (base n tab : ℕ) (w₀ : Writer) (i : ℕ) (w : Writer) : Type 0 where
  pub ready : HasNext (parts lay) (times (n - i) p) w
  pub apart : tab + 4 * n ≤ w.at
  pub above : base ≤ w.at
  pub ends : moved w (pen_behind (parts lay) (next (times (n - i) p) w) w.at) (tabled lay base (next (times (n - i) p) w) (tab + 4 * i) w.at w.out.now)
      ≡ moved w₀ (pen_behind (listed lay (tab + 4 * n - base)) (next (times n p) w₀) tab) (laid (listed lay (tab + 4 * n - base)) (next (times n p) w₀) tab w₀.out.now)

module _ {X : Type 0} (p : J X) (lay : X → Layout) (w x : List ℕ) (base : ℕ) where
  turned : (left tab : ℕ) (q u : Pen) {most : ℕ} (out v m : List ℕ) → 0 < left → base ≤ q.at → tab + 4 * left ≤ q.at
      → Ready (parts lay) (times left p w x q.word q.byte) q.at most
      → v ≡ put 4 out tab (q.at - base) → u ≡ pen_behind lay (p w x q.word q.byte) q.at → m ≡ laid lay (p w x q.word q.byte) q.at v
      → tabled lay base (times (left - 1) p w x u.word u.byte) (tab + 4) u.at m ≡ tabled lay base (times left p w x q.word q.byte) tab q.at out
  turned zero tab q u out v m l b g h c e f = absurd (omega arith)
  turned (suc n) tab q u out v m l b g h c e f =
      times_more p w x n q.word q.byte h.judged λ y zs i j first rest k.
      let d : u ≡ record { word = i; byte = j; at = q.at + size (lay y) } = e ∙ behind-fine lay first q.at in
      let s : suc n - 1 ≡ n = omega arith in
      let r : times (suc n - 1) p w x u.word u.byte ≡ fine zs h.word h.byte = rw (s, ap (λ (z : Pen). z.word) d, ap (λ (z : Pen). z.byte) d) rest in
      let z : length zs ≡ n = times-length p w x n i j rest in
      rw (
        tabled_fine lay base r (tab + 4) u.at m,
        tabled_fine lay base h.judged tab q.at out,
        k,
        f ∙ laid-fine lay first q.at v,
        c,
      )
      (tabled_more lay base y zs tab q.at u.at out b (omega (arith, z, g)) (ap (λ (z : Pen). z.at) d))

  stopped : (n i j tab at : ℕ) (out : List ℕ) → n ≤ 0 → tabled lay base (times n p w x i j) tab at out ≡ out
  unfolding times tabled table parts written
  stopped zero i j tab at out l = refl
  stopped (suc n) i j tab at out l = absurd (omega arith)

-- from where the writing stands, behind the table, to where it is after a turn
module _ {X : Type 0} {p : J X} {lay : X → Layout} {base n tab i : ℕ} {w₀ w : Writer} (h : Going p lay base n tab w₀ i w) (l : i < n) where
  pub going_first : {most : ℕ} → most ≡ length w.out.now → Ready lay (next p w) w.at most
  going_first e = ready_in e (first_of p lay w.words.now w.texts.now (n - i) w.word w.byte w.at (omega arith) h.ready)

  pub going_turn : {c : ℕ} → c ≡ n → {v : List ℕ} {u : Writer} → v ≡ put 4 w.out.now (entry_at tab c i) (w.at - base)
      → u ≡ moved w (pen_behind lay (next p w) w.at) (laid lay (next p w) w.at v)
      → Going p lay base n tab w₀ (i + 1) u
  going_turn {c} ec {v} d e =
      let k : 0 < n - i = omega (arith, l) in
      let q : Pen = pen_behind lay (next p w) w.at in
      let s = times_splits p lay w.words.now w.texts.now (n - i) w.word w.byte w.at k h.ready q refl in
      let a : q.at ≡ w.at + size (lay s.first) = ap (λ (z : Pen). z.at) (behind-fine lay s.starts w.at) in
      let there : entry_at tab c i ≡ tab + 4 * i = rw ec (entry_there tab n i l (omega (arith, h.apart, h.ready.short, l))) in
      let one : n - (i + 1) ≡ n - i - 1 = omega arith in
      let after : tab + 4 * (i + 1) ≡ tab + 4 * i + 4 = omega arith in
      let long : length (laid lay (next p w) w.at v) ≡ length w.out.now = length-laid lay (next p w) w.at v ∙ rw d (length-put 4 w.out.now (entry_at tab c i) (w.at - base)) in
      record {
        ready = rw (e, one) (ready_in long (rest_ready s w.at h.ready q refl));
        apart = rw e (omega (arith, h.apart, a));
        above = rw e (omega (arith, h.above, a));
        ends = rw (e, one, after)
            (moved_alike w (split_behind s w.at q refl)
            (turned p lay w.words.now w.texts.now base (n - i) (tab + 4 * i) (pen_of w) q w.out.now v (laid lay (next p w) w.at v) k h.above (omega (arith, h.apart, l)) h.ready (rw there at d) refl refl))
            ∙ h.ends;
      }

-- behind a table of n entries, which are stored in m
abbrev pub behind_table : Writer → ℕ → List ℕ → Writer
behind_table w n m = record w { at = w.at + 4 * n; out = record w.out { now = m } }

-- from where the writing stands before the table, whose places are held by zeros
module _ {X : Type 0} {p : J X} {lay : X → Layout} {base n tab : ℕ} {m : List ℕ} (w : Writer)
    (h : HasNext (listed lay (w.at + 4 * n - base)) (times n p) w) (e : tab ≡ w.at) where
  pub going_start : base ≤ w.at → length m ≡ length w.out.now → Going p lay base n tab (behind_table w n m) 0 (behind_table w n m)
  going_start b g =
      let k = listed-size lay (w.at + 4 * n - base) h.value in
      let c = times-length p w.words.now w.texts.now n w.word w.byte h.judged in
      let a : w.at + 4 * n + size (parts lay h.value) ≡ w.at + size (listed lay (w.at + 4 * n - base) h.value) = omega (arith, k, c) in
      let z : n - 0 ≡ n = omega arith in
      let t : tab + 4 * 0 ≡ w.at = omega (arith, e) in
      record {
        ready = rw z (record { value = h.value; word = h.word; byte = h.byte; judged = h.judged; room = rw (a, g) h.room; short = rw a h.short });
        apart = omega (arith, e);
        above = omega (arith, b);
        ends = rw (z, t, e)
            (moved_alike w
            (behind-fine (parts lay) h.judged (w.at + 4 * n)
            ∙ ap (λ (g : ℕ). record { word = h.word; byte = h.byte; at = g }) a
            ∙ sym (behind-fine (listed lay (w.at + 4 * n - base)) h.judged w.at))
            (tabled_fine lay base h.judged w.at (w.at + 4 * n) m
            ∙ listed_stored lay (w.at + 4 * n - base) h.value m w.at (w.at + 4 * n) (rw c refl)
            ∙ sym (laid-fine (listed lay (w.at + 4 * n - base)) h.judged w.at m)));
      }

  -- at the end the zeros are all stored over
  pub going_end : m ≡ sets w.out.now w.at (replicate (4 * n) 0) → {i : ℕ} {u : Writer} → Going p lay base n tab (behind_table w n m) i u → n ≤ i
      → u ≡ behind (listed lay (w.at + 4 * n - base)) (times n p) w
  going_end f {i} {u} k l =
      let z : n - i ≤ 0 = omega (arith, l) in
      let g = length-replicate {A = ℕ} (4 * n) 0 in
      let y = listed-size lay (w.at + 4 * n - base) h.value in
      let b = size-written (listed lay (w.at + 4 * n - base) h.value) in
      let c = times-length p w.words.now w.texts.now n w.word w.byte h.judged in
      let over : laid (listed lay (w.at + 4 * n - base)) (next (times n p) w) w.at m
      ≡ laid (listed lay (w.at + 4 * n - base)) (next (times n p) w) w.at w.out.now =
      rw (
        laid-fine (listed lay (w.at + 4 * n - base)) h.judged w.at m,
        laid-fine (listed lay (w.at + 4 * n - base)) h.judged w.at w.out.now,
        f,
      )
      (sets_over w.out.now w.at (replicate (4 * n) 0) (written (listed lay (w.at + 4 * n - base) h.value)) (omega (arith, g, y, b, c))) in
      sym (moved_alike u (none-behind p lay u.words.now u.texts.now (n - i) u.word u.byte u.at z) (stopped p lay u.words.now u.texts.now base (n - i) u.word u.byte (tab + 4 * i) u.at u.out.now z))
      ∙ k.ends
      ∙ rw e (moved_alike w refl over)

-- where its parts start
pub listed-fits : {X : Type 0} (p : J X) (lay : X → Layout) (w x : List ℕ) (from n i j : ℕ) {at most : ℕ} → Ready (listed lay from) (times n p w x i j) at most → at + 4 * n ≤ limit
listed-fits p lay w x from n i j h = omega (arith, listed-size lay from h.value, times-length p w x n i j h.judged, h.short)
