-- The words and the texts of a record determine it, whatever its values and texts are, where its keys have as many words as their curve
-- says, its data three times as many values as their base count, and none of its standard infos the letters FLEU. (Within the limits it is
-- `Verdicts.flat_once`; a record that was read can have longer names.)
-- Assumes nothing.
use Prim.Native.Nat.{ℕ, suc, ◌*◌}
use mathlib.Core.Path.{◌≡◌, refl, ap, ap₂, sym, ◌∙◌}
use mathlib.Core.List.{List, [], ◌∷◌, ◌++◌, map, append_assoc, append-nil}
use native.Mathlib.Omega.{arith}
use lib.ListN.{length, get_or}
use Rattle.bflan.specs.pai1.Letters.{fleu}
use Rattle.bflan.specs.Limits.{All, Fits}
use Rattle.bflan.specs.pai1.Limits.{FineTarget, FineDatum, FineInfo, FineNamed, FineBut}
use Rattle.bflan.specs.pai1.Record.{AnimTarget, ExtendedUserDataAnim, AnimInfo, Standard, ExtendedUserData, AnimContent, PaneAnimInfo, key_widths, target_cells, datum_cells, info_cells, content_cells, cells, words, texts}
use Rattle.bflan.specs.Cells.{Cell, word, chars, words_in, bytes_in, each, text_cells}
use Rattle.bflan.proofs.judge.Laws.{all_map}

-- ---- lists

cons_head : {a b : ℕ} {xs ys : List ℕ} → ◌≡◌ {A = List ℕ} (a ∷ xs) (b ∷ ys) → a ≡ b
cons_head e = cc

cons_tail : {a b : ℕ} {xs ys : List ℕ} → ◌≡◌ {A = List ℕ} (a ∷ xs) (b ∷ ys) → xs ≡ ys
cons_tail e = cc

-- fronts of the same length
fronts : (a b xs ys : List ℕ) → length a ≡ length b → a ++ xs ≡ b ++ ys → (a ≡ b) × (xs ≡ ys)
fronts [] [] xs ys l e = (refl, e)
fronts [] (v ∷ b) xs ys l e = absurd (omega arith)
fronts (u ∷ a) [] xs ys l e = absurd (omega arith)
fronts (u ∷ a) (v ∷ b) xs ys l e =
    let h = fronts a b xs ys (omega arith) (cons_tail e) in
    (ap₂ (λ (n : ℕ) (z : List ℕ). n ∷ z) (cons_head e) h.0, h.1)

-- ---- cells with the same words and the same text bytes

record Same (a b : List Cell) : Type 0 where
  same_words : words_in a ≡ words_in b
  same_bytes : bytes_in a ≡ bytes_in b

same_first_word : (u v : ℕ) (a b : List Cell) → Same (word u ∷ a) (word v ∷ b) → (u ≡ v) × Same a b
unfolding words_in bytes_in
same_first_word u v a b h = (cons_head h.same_words, record { same_words = cons_tail h.same_words; same_bytes = h.same_bytes })

same_first_text : (t u : List ℕ) (a b : List Cell) → Same (chars t ∷ a) (chars u ∷ b) → (t ≡ u) × Same a b
unfolding words_in bytes_in
same_first_text t u a b h =
    let f = fronts t u (bytes_in a) (bytes_in b) (cons_head h.same_words) h.same_bytes in
    (f.0, record { same_words = cons_tail h.same_words; same_bytes = f.1 })

same_first_words : (us vs : List ℕ) → length us ≡ length vs → (a b : List Cell) → Same (map word us ++ a) (map word vs ++ b) → (us ≡ vs) × Same a b
same_first_words [] [] l a b h = (refl, h)
same_first_words [] (v ∷ vs) l a b h = absurd (omega arith)
same_first_words (u ∷ us) [] l a b h = absurd (omega arith)
same_first_words (u ∷ us) (v ∷ vs) l a b h =
    let f = same_first_word u v (map word us ++ a) (map word vs ++ b) h in
    let g = same_first_words us vs (omega arith) a b f.1 in
    (ap₂ (λ (n : ℕ) (z : List ℕ). n ∷ z) f.0 g.0, g.1)

-- a part is determined by what begins with its cells, and so is what follows
abbrev Once : {X : Type 0} → (X → List Cell) → (X → Type 0) → Type 0
Once {X} cells_of Q = (x y : X) → Q x → Q y → (a b : List Cell) → Same (cells_of x ++ a) (cells_of y ++ b) → (x ≡ y) × Same a b

module _ {X : Type 0} (cells_of : X → List Cell) (Q : X → Type 0) (once : Once cells_of Q) where
  each_once : (xs ys : List X) → length xs ≡ length ys → All Q xs → All Q ys → (a b : List Cell) → Same (each cells_of xs ++ a) (each cells_of ys ++ b) → (xs ≡ ys) × Same a b
  unfolding each
  each_once [] [] l p q a b h = (refl, h)
  each_once [] (y ∷ ys) l p q a b h = absurd (omega arith)
  each_once (x ∷ xs) [] l p q a b h = absurd (omega arith)
  each_once (x ∷ xs) (y ∷ ys) l p q a b h =
      let z : Same (cells_of x ++ (each cells_of xs ++ a)) (cells_of y ++ (each cells_of ys ++ b)) =
      rw (← append_assoc (cells_of x) (each cells_of xs) a, ← append_assoc (cells_of y) (each cells_of ys) b) h in
      let f = once x y p.0 q.0 (each cells_of xs ++ a) (each cells_of ys ++ b) z in
      let g = each_once xs ys (omega arith) p.1 q.1 a b f.1 in
      (ap₂ (λ (n : X) (z : List X). n ∷ z) f.0 g.0, g.1)

-- ---- the parts

text_once : Once text_cells (λ t. Unit)
unfolding text_cells
text_once t u p q a b h = same_first_text t u a b h

-- as many words as the curve says
abbrev pub KeyShape : ℕ → List ℕ → Type 0
KeyShape curve k = length k ≡ length (key_widths curve)

abbrev pub TargetShape : AnimTarget → Type 0
TargetShape t = All (KeyShape t.curve) t.keys

abbrev pub DatumShape : ExtendedUserDataAnim → Type 0
DatumShape d = length d.values ≡ 3 * d.base_count

abbrev pub InfoShape : AnimInfo → Type 0
InfoShape (Standard letters ts) = (letters ≡ fleu → ⊥) × All TargetShape ts
InfoShape (ExtendedUserData ds) = All DatumShape ds

abbrev pub ContentShape : AnimContent → Type 0
ContentShape c = All InfoShape c.infos

abbrev pub Shape : PaneAnimInfo → Type 0
Shape r = All ContentShape r.contents

key_once : (curve : ℕ) → Once (map word) (KeyShape curve)
key_once curve x y p q a b h = same_first_words x y (p ∙ sym q) a b h

same_target : {x y : AnimTarget} → x.layer ≡ y.layer → x.target ≡ y.target → x.curve ≡ y.curve → x.keys ≡ y.keys → x ≡ y
same_target {x} {y} e1 e2 e3 e4 =
    ap₂ (λ (l n : ℕ). record { layer = l; target = n; curve = x.curve; keys = x.keys }) e1 e2
    ∙ ap₂ (λ (c : ℕ) (ks : List (List ℕ)). record { layer = y.layer; target = y.target; curve = c; keys = ks }) e3 e4

target_once : Once target_cells TargetShape
unfolding target_cells
target_once x y p q a b h =
    let f = same_first_words (x.layer ∷ x.target ∷ x.curve ∷ length x.keys ∷ []) (y.layer ∷ y.target ∷ y.curve ∷ length y.keys ∷ []) refl _ _ h in
    let at : (k : ℕ) → _ = λ k. ap (λ (vs : List ℕ). get_or vs k 0) f.0 in
    let q' : All (KeyShape x.curve) y.keys = rw (at 2) q in
    let g = each_once (map word) (KeyShape x.curve) (key_once x.curve) x.keys y.keys (at 3) p q' a b f.1 in
    (same_target (at 0) (at 1) (at 2) g.0, g.1)

same-datum : {x y : ExtendedUserDataAnim} → x.header_size ≡ y.header_size → x.unk1 ≡ y.unk1 → x.unk2 ≡ y.unk2 → x.base_count ≡ y.base_count → x.unk3 ≡ y.unk3
    → x.values ≡ y.values → x.key ≡ y.key → x ≡ y
same-datum {x} {y} e1 e2 e3 e4 e5 e6 e7 =
    ap₂ (λ (m n : ℕ). record { header_size = m; unk1 = n; unk2 = x.unk2; base_count = x.base_count; unk3 = x.unk3; values = x.values; key = x.key }) e1 e2
    ∙ ap₂ (λ (m n : ℕ). record { header_size = y.header_size; unk1 = y.unk1; unk2 = m; base_count = n; unk3 = x.unk3; values = x.values; key = x.key }) e3 e4
    ∙ ap₂ (λ (m : ℕ) (vs : List ℕ). record { header_size = y.header_size; unk1 = y.unk1; unk2 = y.unk2; base_count = y.base_count; unk3 = m; values = vs; key = x.key }) e5 e6
    ∙ ap (λ (k : List ℕ). record { header_size = y.header_size; unk1 = y.unk1; unk2 = y.unk2; base_count = y.base_count; unk3 = y.unk3; values = y.values; key = k }) e7

datum_once : Once datum_cells DatumShape
unfolding datum_cells
datum_once x y p q a b h =
    let f = same_first_words (x.header_size ∷ x.unk1 ∷ x.unk2 ∷ x.base_count ∷ x.unk3 ∷ []) (y.header_size ∷ y.unk1 ∷ y.unk2 ∷ y.base_count ∷ y.unk3 ∷ []) refl _ _ h in
    let at : (k : ℕ) → _ = λ k. ap (λ (vs : List ℕ). get_or vs k 0) f.0 in
    let z : Same (map word x.values ++ (chars x.key ∷ a)) (map word y.values ++ (chars y.key ∷ b)) =
    rw (← append_assoc (map word x.values) (chars x.key ∷ []) a, ← append_assoc (map word y.values) (chars y.key ∷ []) b) f.1 in
    let g = same_first_words x.values y.values (p ∙ ap (λ (n : ℕ). 3 * n) (at 3) ∙ sym q) _ _ z in
    let k = same_first_text x.key y.key a b g.1 in
    (same-datum (at 0) (at 1) (at 2) (at 3) (at 4) g.0 k.0, k.1)

info_once : Once info_cells InfoShape
unfolding info_cells
info_once (Standard l ts) (Standard m us) p q a b h =
    let h1 = same_first_word l m _ _ h in
    let h2 = same_first_word (length ts) (length us) _ _ h1.1 in
    let h3 = each_once target_cells TargetShape target_once ts us h2.0 p.1 q.1 a b h2.1 in
    (ap₂ (λ (n : ℕ) (z : List AnimTarget). Standard n z) h1.0 h3.0, h3.1)
info_once (Standard l ts) (ExtendedUserData ds) p q a b h = absurd (p.0 (same_first_word l fleu _ _ h).0)
info_once (ExtendedUserData ds) (Standard l ts) p q a b h = absurd (q.0 (sym (same_first_word fleu l _ _ h).0))
info_once (ExtendedUserData cs) (ExtendedUserData ds) p q a b h =
    let h1 = same_first_word fleu fleu _ _ h in
    let h2 = same_first_word (length cs) (length ds) _ _ h1.1 in
    let h3 = each_once datum_cells DatumShape datum_once cs ds h2.0 p q a b h2.1 in
    (ap (λ (z : List ExtendedUserDataAnim). ExtendedUserData z) h3.0, h3.1)

content_once : Once content_cells ContentShape
unfolding content_cells
content_once x y p q a b h =
    let h1 = same_first_text x.name y.name _ _ h in
    let h2 = same_first_word x.type y.type _ _ h1.1 in
    let h3 = same_first_word (length x.infos) (length y.infos) _ _ h2.1 in
    let h4 = each_once info_cells InfoShape info_once x.infos y.infos h3.0 p q a b h3.1 in (
      ap₂ (λ (n : List ℕ) (t : ℕ). record { name = n; type = t; infos = x.infos }) h1.0 h2.0
          ∙ ap (λ (is : List AnimInfo). record { name = y.name; type = y.type; infos = is }) h4.0,
      h4.1,
    )

all_any : (ts : List (List ℕ)) → All (λ t. Unit) ts
all_any [] = tt
all_any (t ∷ ts) = (tt, all_any ts)

-- ---- the record

same_record : {r q : PaneAnimInfo} → r.frames ≡ q.frames → r.looping ≡ q.looping → r.textures ≡ q.textures → r.contents ≡ q.contents → r ≡ q
same_record {r} {q} e1 e2 e3 e4 =
    ap₂ (λ (m n : ℕ). record { frames = m; looping = n; textures = r.textures; contents = r.contents }) e1 e2
    ∙ ap₂ (λ (ts : List (List ℕ)) (cs : List AnimContent). record { frames = q.frames; looping = q.looping; textures = ts; contents = cs }) e3 e4

pub shape_once : (r q : PaneAnimInfo) → Shape r → Shape q → words r ≡ words q → texts r ≡ texts q → r ≡ q
unfolding cells
shape_once r q f g ew et =
    let h : Same (cells r) (cells q) = record { same_words = ew; same_bytes = et } in
    let c = same_first_words (r.frames ∷ r.looping ∷ length r.textures ∷ length r.contents ∷ []) (q.frames ∷ q.looping ∷ length q.textures ∷ length q.contents ∷ []) refl _ _ h in
    let at : (k : ℕ) → _ = λ k. ap (λ (vs : List ℕ). get_or vs k 0) c.0 in
    let d = each_once text_cells (λ t. Unit) text_once r.textures q.textures (at 2) (all_any r.textures) (all_any q.textures) _ _ c.1 in
    let z : Same (each content_cells r.contents ++ []) (each content_cells q.contents ++ []) = rw (append-nil (each content_cells r.contents), append-nil (each content_cells q.contents)) d.1 in
    let e = each_once content_cells ContentShape content_once r.contents q.contents (at 3) f g [] [] z in
    same_record (at 0) (at 1) d.0 e.0

-- ---- a record within the limits, whatever the length of its names, is of this shape

fits-length : (ks vs : List ℕ) → Fits ks vs → length vs ≡ length ks
fits-length [] [] h = refl
fits-length [] (v ∷ vs) h = absurd h
fits-length (k ∷ ks) [] h = absurd h
fits-length (k ∷ ks) (v ∷ vs) h = ap suc (fits-length ks vs h.1)

fine-info_shape : (i : AnimInfo) → FineInfo i → InfoShape i
fine-info_shape (Standard letters ts) f = (f.standard, all_map (FineTarget letters) TargetShape target ts f.targets)
  where
    target : (t : AnimTarget) → FineTarget letters t → TargetShape t
    target t h = all_map (Fits (key_widths t.curve)) (KeyShape t.curve) (fits-length (key_widths t.curve)) t.keys h.keys
fine-info_shape (ExtendedUserData ds) f = all_map FineDatum DatumShape (λ d h. h.count) ds f.1

pub fine_shape : (most : ℕ) (r : PaneAnimInfo) → FineBut most r → Shape r
fine_shape most r f = all_map (FineNamed most) ContentShape (λ c h. all_map FineInfo InfoShape fine-info_shape c.infos h.infos) r.contents f.contents
