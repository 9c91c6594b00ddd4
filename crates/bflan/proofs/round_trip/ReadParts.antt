-- The record that a section's bytes are, part by part: what holds of each part holds of the lists of them, and reading gives the record where it
-- is not stopped.
-- Assumes nothing.
use Prim.Native.Nat.{ℕ, zero, suc, ◌+◌, ◌*◌, ◌≤◌}
use mathlib.Core.Path.{◌≡◌, refl, ap, ap₂, sym, ◌∙◌}
use mathlib.Core.Bool.{Bool, true, false}
use mathlib.Core.List.{List, [], ◌∷◌, ◌++◌, map}
use native.Mathlib.Omega.{arith}
use borrow.Author.Tests.{eqb-false}
use lib.Dec.{eqb}
use lib.ListN.{length}
use Rattle.base.specs.Choice.{pick}
use Rattle.base.specs.Number.{get}
use Rattle.base.specs.Run.{numbers_at}
use Rattle.bflan.specs.pai1.FieldValues.{numbers_in}
use Rattle.bflan.specs.pai1.Letters.{fleu, letters_of, target_of}
use Rattle.bflan.specs.Limits.{All}
use Rattle.bflan.specs.pai1.Places.{total, stride, info_table_in}
use Rattle.bflan.specs.Reader.{Res, ok, stop, P, ◌>>=◌, ret, given, Item, word, text, one_ended, numbers, many, visit}
use Rattle.bflan.specs.pai1.Reading.{key_of, curve_of, count_of, keys, target, datum, info, type_of, info_table, content, texture, flag_of, contents, body, section}
use Rattle.bflan.specs.pai1.RecordAt.{name_size, reached, parts_at, ended_at, keys_at, target_at, datum_at, data_at, info_at, content_at, record_at}
use Rattle.bflan.specs.pai1.Record.{ExtendedUserDataAnim, AnimInfo, Standard, ExtendedUserData, key_widths, target_cells, datum_cells, info_cells, content_cells, cells}
use Rattle.bflan.specs.Cells.{Cell, word as wordCell, chars, each, text_cells}
use Rattle.bflan.specs.Items.{shown_at}
use Rattle.bflan.proofs.place.Locating.{key_at, table_at, section_by}
use Rattle.bflan.specs.inner.SectionParts.{after_head}
use Rattle.bflan.proofs.reader.ContentParts.{name, content_after, content_widths}
use Rattle.bflan.proofs.reader.DatumParts.{fields_in, datum_after, datum_widths}
use Rattle.bflan.proofs.reader.InfoParts.{info_after, info_widths}
use Rattle.bflan.proofs.reader.Rows.{row_then, fields_at}
use Rattle.bflan.proofs.reader.SectionParts.{head_of, head_widths}
use Rattle.bflan.proofs.reader.TargetParts.{target_after, target_widths}
use Rattle.bflan.proofs.reader.Unstopped.{pick_by, If, if_ok, yes, next, after, number, head, sought, table, listed, ended}
use Rattle.bflan.proofs.round_trip.ReadBack.{shown_in, shown-append, shown-words}

module _ (s : List ℕ) where
  pub length-parts : {X : Type 0} (part : ℕ → X) (base n at : ℕ) → length (parts_at s part base n at) ≡ n
  unfolding parts_at
  length-parts part base zero at = refl
  length-parts part base (suc n) at = ap suc (length-parts part base n (at + 4))

  pub length-keys : (curve n p : ℕ) → length (keys_at s curve n p) ≡ n
  unfolding keys_at
  length-keys curve zero p = refl
  length-keys curve (suc n) p = ap suc (length-keys curve n (p + stride curve))

-- ---- what holds of each part holds of the lists of them

module _ (s : List ℕ) where
  pub parts_all : {X : Type 0} (Q : X → Type 0) (part : ℕ → X) (base n at : ℕ) → ((b : ℕ) → Q (part b)) → All Q (parts_at s part base n at)
  unfolding parts_at
  parts_all Q part base zero at h = tt
  parts_all Q part base (suc n) at h = (h (base + get 4 s at), parts_all Q part base n (at + 4) h)

  pub keys_all : (Q : List ℕ → Type 0) (c n p : ℕ) → ((q : ℕ) → Q (numbers_in (key_widths c) s q)) → All Q (keys_at s c n p)
  unfolding keys_at
  keys_all Q c zero p h = tt
  keys_all Q c (suc n) p h = (h p, keys_all Q c n (p + stride c) h)

  -- the data that are reached, which are not all of them where reading is stopped
  reached_by : {A : Type 0} (Q : A → Type 0) (r : Res (List Item)) {none : A} {f : ℕ → A} → Q none → ((q : ℕ) → Q (f q)) → Q (reached r none f)
  reached_by Q (ok is q) h g = g q
  reached_by Q (stop w) h g = h

  pub data_all : (Q : ExtendedUserDataAnim → Type 0) (n p : ℕ) → ((q : ℕ) → Q (datum_at s q)) → All Q (data_at s n p)
  unfolding data_at
  data_all Q zero p h = tt
  data_all Q (suc n) p h = (h p, reached_by (All Q) (datum s p) tt (λ q. data_all Q n q h))

  pub data_most : (n p : ℕ) → length (data_at s n p) ≤ n
  unfolding data_at
  data_most zero p = omega arith
  data_most (suc n) p = let h = reached_by (λ ds. length ds ≤ n) (datum s p) {none = []} {f = λ q. data_at s n q} (omega arith) (data_most n) in omega (arith, h)

  -- an info of either kind
  pub info_by : (Q : AnimInfo → Type 0) (b : ℕ) → Q (ExtendedUserData (data_at s (get 1 s (b + 4)) (b + 8)))
      → ((get 4 s b ≡ fleu → ⊥) → Q (Standard (letters_of (get 4 s b)) (parts_at s (target_at s (get 4 s b)) b (get 1 s (b + 4)) (b + 8)))) → Q (info_at s b)
  unfolding info_at
  info_by Q b h g = pick_by Q (eqb (get 4 s b) fleu) (λ e. h) (λ e. g (eqb-false (get 4 s b) fleu e))

-- ---- reading gives them: what it shows are their cells

module _ (s : List ℕ) where
  abbrev Shows : {X : Type 0} → (X → List Cell) → X → List Item → ℕ → Type 0
  Shows cells_of x is j = shown_in s is ≡ cells_of x

  -- one part more
  shows_more : {X : Type 0} (cells_of : X → List Cell) (x : X) (xs : List X) (is js : List Item)
      → shown_in s is ≡ cells_of x → shown_in s js ≡ each cells_of xs → shown_in s (is ++ js) ≡ each cells_of (x ∷ xs)
  unfolding each
  shows_more cells_of x xs is js h k = shown-append s is js ∙ ap₂ (λ (a b : List Cell). a ++ b) h k

  shows_none : {X : Type 0} (cells_of : X → List Cell) → shown_in s [] ≡ each cells_of []
  unfolding each shown_in
  shows_none cells_of = refl

  -- parts at offsets
  parts-shown : {X : Type 0} (cells_of : X → List Cell) (part : ℕ → X) (base : ℕ) (p : ℕ → P (List Item))
      → ((b i : ℕ) → If (Shows cells_of (part b)) (p b s i))
      → (n at i : ℕ) → If (Shows (each cells_of) (parts_at s part base n at)) (visit base p (numbers_at n s at) s i)
  unfolding visit numbers_at parts_at
  parts-shown cells_of part base p h zero at i = yes (shows_none cells_of)
  parts-shown cells_of part base p h (suc n) at i =
      after s (p (base + get 4 s at) s i) _ (h (base + get 4 s at) i) (λ x j hx.
      after s (visit base p (numbers_at n s (at + 4)) s j) _ (parts-shown cells_of part base p h n (at + 4) j) (λ xs j' hs.
      yes (shows_more cells_of (part (base + get 4 s at)) (parts_at s part base n (at + 4)) x xs hx hs)))

  -- a text that ends at a zero, and a texture
  ended-shown : (i : ℕ) → If (Shows text_cells (ended_at s i)) (one_ended s i)
  unfolding text_cells shown_in ended_at
  ended-shown i = ended s i (λ h j. refl)

  texture-shown : (b i : ℕ) → If (Shows text_cells (ended_at s b)) (texture b s i)
  unfolding texture
  texture-shown b i = sought s b i _ (λ l. ended-shown b)

  -- keys
  keys-shown : (c n p : ℕ) → If (Shows (each (map wordCell)) (keys_at s c n p)) (many n (key_of c) s p)
  unfolding many keys_at
  keys-shown c zero p = yes (shows_none (map wordCell))
  keys-shown c (suc n) p =
      after s (key_of c s p) _ (key_at s c p) (λ x j h. after s (many n (key_of c) s j) _ (keys-shown c n j) (λ xs j' hs.
      yes (shows_more (map wordCell) (numbers_in (key_widths c) s p) (keys_at s c n (p + stride c)) x xs (ap (shown_in s) h.0 ∙ shown-words s (numbers_in (key_widths c) s p)) (hs ∙ rw h.1))))

  -- a target
  target_cells_lem : (letters b : ℕ) (ks : List Item) → shown_in s ks ≡ each (map wordCell) (target_at s letters b).keys
      → shown_in s (word (get 1 s b) ∷ word (target_of letters (get 1 s (b + 1))) ∷ word (curve_of (get 1 s (b + 2))) ∷ word (count_of (get 1 s (b + 2)) (get 2 s (b + 4))) ∷ ks)
      ≡ target_cells (target_at s letters b)
  unfolding target_cells target_at shown_in
  target_cells_lem letters b ks h =
      ap₂ (λ (m : ℕ) (cs : List Cell). wordCell (get 1 s b) ∷ wordCell (target_of letters (get 1 s (b + 1))) ∷ wordCell (curve_of (get 1 s (b + 2))) ∷ wordCell m ∷ cs)
      (sym (length-keys s (curve_of (get 1 s (b + 2))) (count_of (get 1 s (b + 2)) (get 2 s (b + 4))) (b + get 4 s (b + 8)))) h

  target-shown : (letters b i : ℕ) → If (Shows target_cells (target_at s letters b)) (target letters b s i)
  unfolding target keys row_then total fields_at
  target-shown letters b i =
      sought s b i _ (λ l. head s target_widths (target_after letters b) b 0 (omega arith) (λ l12.
      sought s (b + get 4 s (b + 8)) (b + 12) _ (λ m.
      after s (many (count_of (get 1 s (b + 2)) (get 2 s (b + 4))) (key_of (curve_of (get 1 s (b + 2)))) s (b + get 4 s (b + 8))) _
      (keys-shown (curve_of (get 1 s (b + 2))) (count_of (get 1 s (b + 2)) (get 2 s (b + 4))) (b + get 4 s (b + 8)))
      (λ ks j h. yes (target_cells_lem letters b ks (unfold target_at in h))))))

  -- data
  datum_cells_lem : (p : ℕ) (key : List Item) → shown_in s key ≡ text_cells (datum_at s p).key
      → shown_in s (word (get 4 s p) ∷ word (get 2 s (p + 4)) ∷ word (get 2 s (p + 6)) ∷ word (get 4 s (p + 8)) ∷ word (get 4 s (p + 12)) ∷ (map word (numbers_at (3 * get 4 s (p + 8)) s (p + 16)) ++ key))
      ≡ datum_cells (datum_at s p)
  unfolding datum_cells text_cells datum_at shown_in
  datum_cells_lem p key h =
      ap (λ (cs : List Cell). wordCell (get 4 s p) ∷ wordCell (get 2 s (p + 4)) ∷ wordCell (get 2 s (p + 6)) ∷ wordCell (get 4 s (p + 8)) ∷ wordCell (get 4 s (p + 12)) ∷ cs)
      (shown-append s (map word (numbers_at (3 * get 4 s (p + 8)) s (p + 16))) key ∙ ap₂ (λ (a b : List Cell). a ++ b) (shown-words s (numbers_at (3 * get 4 s (p + 8)) s (p + 16))) h)

  datum-shown : (p : ℕ) → If (Shows datum_cells (datum_at s p)) (datum s p)
  unfolding datum row_then total fields_at
  datum-shown p =
      head s datum_widths (λ vs. datum_after (fields_in vs)) p 0 (omega arith) (λ l16.
      table s (3 * get 4 s (p + 8)) (p + 16) _ l16 (λ l.
      number s 4 (p + 16 + 4 * (3 * get 4 s (p + 8))) _ (λ m.
      sought s (p + 16 + 4 * (3 * get 4 s (p + 8)) + get 4 s (p + 16 + 4 * (3 * get 4 s (p + 8)))) (p + 16 + 4 * (3 * get 4 s (p + 8)) + 4) _ (λ k.
      after s (one_ended s (p + 16 + 4 * (3 * get 4 s (p + 8)) + get 4 s (p + 16 + 4 * (3 * get 4 s (p + 8))))) _
      (ended-shown (p + 16 + 4 * (3 * get 4 s (p + 8)) + get 4 s (p + 16 + 4 * (3 * get 4 s (p + 8)))))
      (λ key j h. yes (datum_cells_lem p key (unfold datum_at in h)))))))

  -- where all are read, they are all reached
  data_shown : (n p : ℕ) → If (λ is j. (length (data_at s n p) ≡ n) × (shown_in s is ≡ each datum_cells (data_at s n p))) (many n datum s p)
  unfolding many data_at
  data_shown zero p = yes (refl, shows_none datum_cells)
  data_shown (suc n) p =
      next s (datum s p) _ (λ x j e. after s (many n datum s j) _ (data_shown n j) (λ xs j' hs.
      yes (rw e (ap suc hs.0), shows_more datum_cells (datum_at s p) (reached (datum s p) [] (λ q. data_at s n q)) x xs (if_ok (Shows datum_cells (datum_at s p)) (datum s p) (datum-shown p) e) (rw e hs.1))))

  -- infos
  info-shown : (b i : ℕ) → If (Shows info_cells (info_at s b)) (info b s i)
  unfolding info info_at info_cells shown_in row_then total fields_at
  info-shown b i = sought s b i _ (λ l. head s info_widths (info_after b) b 0 (omega arith) (λ l8. kind l8 (eqb (get 4 s b) fleu)))
    where
      n : ℕ
      n = get 1 s (b + 4)

      kind : b + 8 ≤ length s → (t : Bool)
          → If (Shows info_cells (pick t (ExtendedUserData (data_at s n (b + 8))) (Standard (letters_of (get 4 s b)) (parts_at s (target_at s (get 4 s b)) b n (b + 8)))))
          (given t (◌>>=◌ (many n datum) (λ ds. ret (word fleu ∷ word n ∷ ds)))
          (◌>>=◌ (numbers n) (λ offsets. ◌>>=◌ (visit b (target (get 4 s b)) offsets) (λ ts. ret (word (letters_of (get 4 s b)) ∷ word n ∷ ts)))) s (b + 8))
      kind h true =
          after s (many n datum s (b + 8)) _ (data_shown n (b + 8)) (λ ds j h. yes (ap₂ (λ (m : ℕ) (cs : List Cell). wordCell fleu ∷ wordCell m ∷ cs) (sym h.0) h.1))
      kind h false =
          listed s b (target (get 4 s b)) n (b + 8) _ h (parts-shown target_cells (target_at s (get 4 s b)) b (target (get 4 s b)) (target-shown (get 4 s b)) n (b + 8)) (λ l ts j hs.
          yes (ap₂ (λ (m : ℕ) (cs : List Cell). wordCell (letters_of (get 4 s b)) ∷ wordCell m ∷ cs) (sym (length-parts s (target_at s (get 4 s b)) b n (b + 8))) hs))

  -- contents
  content_cells_lem : (b : ℕ) (is : List Item) → shown_in s is ≡ each info_cells (content_at s b).infos
      → shown_in s (text b (name_size s b) ∷ word (type_of (get 1 s (b + 29))) ∷ word (get 1 s (b + 28)) ∷ is) ≡ content_cells (content_at s b)
  unfolding content_cells content_at shown_in
  content_cells_lem b is h =
      ap₂ (λ (m : ℕ) (cs : List Cell). chars (shown_at s b (name_size s b)) ∷ wordCell (type_of (get 1 s (b + 29))) ∷ wordCell m ∷ cs)
      (sym (length-parts s (info_at s) b (get 1 s (b + 28)) (info_table_in s b))) h

  content-shown : (b i : ℕ) → If (Shows content_cells (content_at s b)) (content b s i)
  unfolding content row_then total fields_at
  content-shown b i =
      sought s b i _ (λ l. name s content_widths (content_after b) b (omega arith) (λ l32.
      after s (info_table b (get 1 s (b + 29)) s (b + 32)) _ (table_at s b l32) (λ at j h. infos j h.0 h.1)))
    where
      infos : (j : ℕ) → j ≡ info_table_in s b → info_table_in s b ≤ length s
          → If (Shows content_cells (content_at s b))
          (◌>>=◌ (numbers (get 1 s (b + 28))) (λ offsets. ◌>>=◌ (visit b info offsets) (λ is. ret (text b (name_size s b) ∷ word (type_of (get 1 s (b + 29))) ∷ word (get 1 s (b + 28)) ∷ is))) s j)
      infos j e h =
          rw e
          (listed s b info (get 1 s (b + 28)) (info_table_in s b) _ h (parts-shown info_cells (info_at s) b info info-shown (get 1 s (b + 28)) (info_table_in s b)) (λ l is k hs.
          yes (content_cells_lem b is (unfold content_at in hs))))

  contents-shown : (to n i : ℕ) → If (Shows (each content_cells) (parts_at s (content_at s) 0 n to)) (contents to n s i)
  unfolding contents
  contents-shown to n i = sought s to i _ (λ l. table s n to _ l (λ m. parts-shown content_cells (content_at s) 0 content content-shown n to (to + 4 * n)))

  -- the section
  section-cells : (ts cs : List Item) → shown_in s ts ≡ each text_cells (record_at s).textures → shown_in s cs ≡ each content_cells (record_at s).contents
      → shown_in s (word (get 2 s 8) ∷ word (flag_of (get 1 s 10)) ∷ word (get 2 s 12) ∷ word (get 2 s 14) ∷ (ts ++ cs)) ≡ cells (record_at s)
  unfolding cells record_at shown_in
  section-cells ts cs h k =
      ap₂ (λ (m n : ℕ). wordCell (get 2 s 8) ∷ wordCell (flag_of (get 1 s 10)) ∷ wordCell m ∷ wordCell n ∷ shown_in s (ts ++ cs))
      (sym (length-parts s (ended_at s) 20 (get 2 s 12) 20)) (sym (length-parts s (content_at s) 0 (get 2 s 14) (get 4 s 16)))
      ∙ ap (λ (z : List Cell). wordCell (get 2 s 8) ∷ wordCell (flag_of (get 1 s 10)) ∷ wordCell (length (record_at s).textures) ∷ wordCell (length (record_at s).contents) ∷ z)
      (shown-append s ts cs ∙ ap₂ (λ (a b : List Cell). a ++ b) h k)

  body-shown : (size : ℕ) → If (Shows cells (record_at s)) (body size s 8)
  unfolding body after_head row_then total fields_at
  body-shown size =
      head s head_widths (λ vs. after_head size (head_of vs)) 8 0 (omega arith) (λ l20.
      listed s 20 texture (get 2 s 12) 20 _ l20 (parts-shown text_cells (ended_at s) 20 texture texture-shown (get 2 s 12) 20) (λ l ts k ht.
      after s (contents (get 4 s 16) (get 2 s 14) s k) _ (contents-shown (get 4 s 16) (get 2 s 14) k) (λ cs m hc.
      sought s size m _ (λ z. yes (section-cells ts cs (unfold record_at in ht) (unfold record_at in hc))))))

  -- what reads is the record that the bytes are
  pub section-shown : (is : List Item) (end : ℕ) → section s 0 ≡ ok is end → shown_in s is ≡ cells (record_at s)
  section-shown is end e = if_ok (Shows cells (record_at s)) (section s 0) (section_by s body-shown) e
