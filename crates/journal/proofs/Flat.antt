-- What each change makes of a journal whose rows stand one after the other.
use Rattle.std.proofs.Common.{◌≡◌, ℕ, zero, suc, ◌-◌, ◌/◌, ◌<◌, ◌≤◌, min, max, Bool, true, false, cond, ◌&&◌, eqb, ltb, leb, ◌⊎◌, List, [], ◌∷◌, ◌++◌, length, take, None, sym, refl, ap, ◌∙◌, subst, inl, inr, ⊎_elim, arith}
use mathlib.Core.Path.{fun_ext}
use Rattle.std.proofs.lemmas.Bool.{eq-eqb, ne_eqb, eqb-true, eqb-false, lt-ltb, le-ltb, ltb-true, ltb-false, and_parts, and_cases, cond-true, cond-false, cond_both, cases_eq, cases_order}
use Rattle.std.proofs.lemmas.List.{append-nil}
use Rattle.journal.specs.Rows.{Row, append, sync, restore, clear, appended, kept, none_there, trimmed, apply, later_than, stored_of}
use Rattle.journal.specs.Flat.{rows_of, sections_from, flat_means, Ordered, cut}

-- ---- what a restore keeps

module _ {A : Type 0} (section : A → ℕ) where
  -- the three ways of a cut at its first row
  cut_both : (s n : ℕ) (x : A) (xs : List A) (P : List A → Type 0) → (section x < s → P (x ∷ cut section s n xs)) →
      (section x ≡ s → 0 < n → P (x ∷ cut section s (n - 1) xs)) → (s ≤ section x → (section x ≡ s → n ≡ 0) → P []) → P (cut section s n (x ∷ xs))
  cut_both s n x xs P f g h =
      cond_both (ltb (section x) s) _ _ P (λ e. f (ltb-true (section x) s e))
      (λ e. cond_both (eqb (section x) s && ltb 0 n) _ _ P
      (λ a. let p = and_parts (eqb (section x) s) (ltb 0 n) a in g (eqb-true (section x) s p.0) (ltb-true 0 n p.1))
      (λ a. h (ltb-false (section x) s e) (λ q. ⊎_elim (λ (z : eqb (section x) s ≡ false). absurd (eqb-false (section x) s z q)) (λ (z : ltb 0 n ≡ false). let l = ltb-false 0 n z in omega arith) (and_cases (eqb (section x) s) (ltb 0 n) a))))

  -- it keeps the rows in front
  pub cut_front : (s n : ℕ) (xs : List A) → (rest : List A) × (xs ≡ cut section s n xs ++ rest)
  cut_front s n [] = ([], refl)
  cut_front s n (x ∷ xs) =
      cut_both s n x xs (λ ys. (rest : List A) × (x ∷ xs ≡ ys ++ rest))
      (λ l. let r = cut_front s n xs in (r.0, ap (λ (w : List A). x ∷ w) r.1))
      (λ e l. let r = cut_front s (n - 1) xs in (r.0, ap (λ (w : List A). x ∷ w) r.1))
      (λ l z. (x ∷ xs, refl))

  pub cut_ordered : (low s n : ℕ) (xs : List A) → Ordered section low xs → Ordered section low (cut section s n xs)
  cut_ordered low s n [] o = tt
  cut_ordered low s n (x ∷ xs) o =
      cut_both s n x xs (Ordered section low)
      (λ l. (o.0, cut_ordered (section x) s n xs o.1))
      (λ e l. (o.0, cut_ordered (section x) s (n - 1) xs o.1))
      (λ l z. tt)

-- ---- one more than the highest section

trimmed_is : {K : Type 0} (t m : ℕ) (rows : ℕ → List (Row K)) → t ≤ m → ((i : ℕ) → t ≤ i → rows i ≡ []) → (t ≡ 0) ⊎ (none_there (rows (t - 1)) ≡ false) → trimmed m rows ≡ t
trimmed_is t zero rows h none there = omega arith
trimmed_is t (suc m) rows h none there =
    ⊎_elim
    (λ (e : t ≡ suc m). ⊎_elim (λ (z : t ≡ 0). absurd (omega arith)) (λ (f : none_there (rows (t - 1)) ≡ false). let p : t - 1 ≡ m = omega arith in cond-false (none_there (rows m)) _ _ (ap (λ (w : ℕ). none_there (rows w)) (sym p) ∙ f) ∙ sym e) there)
    (λ (n : t ≡ suc m → ⊥). cond-true (none_there (rows m)) _ _ (ap none_there (none m (omega arith))) ∙ trimmed_is t m rows (omega arith) none there)
    (cases_eq t (suc m))

-- ---- lists and their lengths, by a test

module _ {B : Type 0} where
  length_by : (b : Bool) (u w : List B) → length (cond b u w) ≡ cond b (length (cond b u w)) (length w)
  length_by true u w = refl
  length_by false u w = refl

  length_same : (b : Bool) (w : List B) → length w ≡ cond b (length w) (length w)
  length_same true w = refl
  length_same false w = refl

  take_none : (n : ℕ) → take {A = B} n [] ≡ []
  take_none zero = refl
  take_none (suc n) = refl

  take_first : (n : ℕ) (y : B) (ys : List B) → 0 < n → y ∷ take (n - 1) ys ≡ take n (y ∷ ys)
  take_first zero y ys h = absurd (omega arith)
  take_first (suc n) y ys h = ap (λ (m : ℕ). y ∷ take m ys) (omega arith)

-- ---- the rows of a section

module _ {A K : Type 0} (section : A → ℕ) (row : A → Row K) where
  pub rows_append : (s : ℕ) (xs ys : List A) → rows_of section row s (xs ++ ys) ≡ rows_of section row s xs ++ rows_of section row s ys
  rows_append s [] ys = refl
  rows_append s (x ∷ xs) ys = by (eqb (section x) s) _ (rows_append s xs ys)
    where
      by : (b : Bool) (w : List (Row K)) → w ≡ rows_of section row s xs ++ rows_of section row s ys → cond b (row x ∷ w) w ≡ cond b (row x ∷ rows_of section row s xs) (rows_of section row s xs) ++ rows_of section row s ys
      by true w e = ap (λ (w : List (Row K)). row x ∷ w) e
      by false w e = e

  -- a row of its section, and one of another
  rows_here : (s : ℕ) (x : A) (xs : List A) → section x ≡ s → rows_of section row s (x ∷ xs) ≡ row x ∷ rows_of section row s xs
  rows_here s x xs e = cond-true (eqb (section x) s) _ _ (eq-eqb (section x) s e)

  rows_there : (s : ℕ) (x : A) (xs : List A) → (section x ≡ s → ⊥) → rows_of section row s (x ∷ xs) ≡ rows_of section row s xs
  rows_there s x xs n = cond-false (eqb (section x) s) _ _ (ne_eqb (section x) s n)

  -- no row stands below the lowest section
  rows_low : (low s : ℕ) (xs : List A) → Ordered section low xs → s < low → rows_of section row s xs ≡ []
  rows_low low s [] o h = refl
  rows_low low s (x ∷ xs) o h = let l = o.0 in rows_there s x xs (λ e. omega arith) ∙ rows_low (section x) s xs o.1 (omega arith)

  sections_least : (low n : ℕ) (xs : List A) → Ordered section low xs → n ≤ suc low → n ≤ sections_from section row n xs
  sections_least low n [] o h = omega arith
  sections_least low n (x ∷ xs) o h = let l = o.0 in let i = sections_least (section x) (suc (section x)) xs o.1 (omega arith) in omega arith

  -- nor from one more than the highest on
  rows_high : (low n s : ℕ) (xs : List A) → Ordered section low xs → n ≤ suc low → sections_from section row n xs ≤ s → rows_of section row s xs ≡ []
  rows_high low n s [] o h l = refl
  rows_high low n s (x ∷ xs) o h l =
      let i = sections_least (section x) (suc (section x)) xs o.1 (omega arith) in
      rows_there s x xs (λ e. omega arith) ∙ rows_high (section x) (suc (section x)) s xs o.1 (omega arith) l

  -- and the highest section has rows
  rows_last : (x : A) (xs : List A) → none_there (rows_of section row (sections_from section row (suc (section x)) xs - 1) (x ∷ xs)) ≡ false
  rows_last x [] = ap none_there (rows_here (suc (section x) - 1) x [] (omega arith))
  rows_last x (y ∷ ys) = by (eqb (section x) (sections_from section row (suc (section y)) ys - 1)) _ (rows_last y ys)
    where
      by : (b : Bool) (w : List (Row K)) → none_there w ≡ false → none_there (cond b (row x ∷ w) w) ≡ false
      by true w e = refl
      by false w e = e

  some_last : (xs : List A) → (sections_from section row 0 xs ≡ 0) ⊎ (none_there (rows_of section row (sections_from section row 0 xs - 1) xs) ≡ false)
  some_last [] = inl refl
  some_last (x ∷ xs) = inr (rows_last x xs)

  sections_last : (n : ℕ) (xs : List A) (x : A) → sections_from section row n (xs ++ (x ∷ [])) ≡ suc (section x)
  sections_last n [] x = refl
  sections_last n (y ∷ ys) x = sections_last (suc (section y)) ys x

  -- ---- a row more

  pub ordered_append : (low n : ℕ) (xs : List A) (x : A) → Ordered section low xs → low ≤ section x → sections_from section row n xs ≤ suc (section x) → Ordered section low (xs ++ (x ∷ []))
  ordered_append low n [] x o l h = (l, tt)
  ordered_append low n (y ∷ ys) x o l h =
      let i = sections_least (section y) (suc (section y)) ys o.1 (omega arith) in
      (o.0, ordered_append (section y) (suc (section y)) ys x o.1 (omega arith) h)

  pub ordered_more : (xs : List A) (x : A) → Ordered section 0 xs → later_than (section x) (flat_means section row xs) ≡ false → Ordered section 0 (xs ++ (x ∷ []))
  ordered_more xs x o l = ordered_append 0 0 xs x o (omega arith) (ltb-false (suc (section x)) (sections_from section row 0 xs) l)

  one_more : (s : ℕ) (r : Row K) (xs : List A) (x : A) → section x ≡ s → row x ≡ r → (i : ℕ) → rows_of section row i (xs ++ (x ∷ [])) ≡ appended s r (λ j. rows_of section row j xs) i
  one_more s r xs x e q i =
      rows_append i xs (x ∷ [])
      ∙ ⊎_elim
      (λ (h : i ≡ s). ap (λ (w : List (Row K)). rows_of section row i xs ++ w) (rows_here i x [] (e ∙ sym h) ∙ ap (λ (w : Row K). w ∷ []) q) ∙ sym (cond-true (eqb i s) _ _ (eq-eqb i s h)))
      (λ (n : i ≡ s → ⊥). ap (λ (w : List (Row K)). rows_of section row i xs ++ w) (rows_there i x [] (λ h. n (sym h ∙ e))) ∙ append-nil (rows_of section row i xs) ∙ sym (cond-false (eqb i s) _ _ (ne_eqb i s n)))
      (cases_eq i s)

  pub flat_append : (size s : ℕ) (k : K) (ns np : ℕ) (enc : List ℕ) (xs : List A) (x : A) → later_than s (flat_means section row xs) ≡ false → section x ≡ s →
      row x ≡ record { key = k; next_section = ns; next_position = np; stored = stored_of enc } →
      flat_means section row (xs ++ (x ∷ [])) ≡ apply size (flat_means section row xs) (append s k ns np enc)
  flat_append size s k ns np enc xs x l e q =
      let low = ltb-false (suc s) (sections_from section row 0 xs) l in
      let last = sections_last 0 xs x in
      let top : sections_from section row 0 (xs ++ (x ∷ [])) ≡ max (sections_from section row 0 xs) (suc s) = omega arith in
      let all = one_more s _ xs x e q in
      λ p. record {
        rows = λ i. all i p;
        durable = λ i. (ap length (all i) ∙ length_by (eqb i s) _ (rows_of section row i xs)) p;
        sections = top p;
        eager = true;
        asked = None;
      }

  pub flat_sync : (size a b : ℕ) (xs : List A) → flat_means section row xs ≡ apply size (flat_means section row xs) (sync a b)
  flat_sync size a b xs = λ p. record {
    rows = λ i. rows_of section row i xs;
    durable = λ i. length_same (leb a i && leb i b) (rows_of section row i xs) p;
    sections = sections_from section row 0 xs;
    eager = true;
    asked = None;
  }

  pub flat_clear : (size : ℕ) (xs : List A) → flat_means section row [] ≡ apply size (flat_means section row xs) clear
  flat_clear size xs = refl

  -- ---- a cut

  cut_before : (s n i : ℕ) (low : ℕ) (xs : List A) → Ordered section low xs → i < s → rows_of section row i (cut section s n xs) ≡ rows_of section row i xs
  cut_before s n i low [] o h = refl
  cut_before s n i low (x ∷ xs) o h =
      cut_both section s n x xs (λ ys. rows_of section row i ys ≡ rows_of section row i (x ∷ xs))
      (λ l. ap (λ (w : List (Row K)). cond (eqb (section x) i) (row x ∷ w) w) (cut_before s n i (section x) xs o.1 h))
      (λ e l. ap (λ (w : List (Row K)). cond (eqb (section x) i) (row x ∷ w) w) (cut_before s (n - 1) i (section x) xs o.1 h))
      (λ l z. sym (rows_there i x xs (λ e. omega arith) ∙ rows_low (section x) i xs o.1 (omega arith)))

  cut_at : (s n : ℕ) (low : ℕ) (xs : List A) → Ordered section low xs → rows_of section row s (cut section s n xs) ≡ take n (rows_of section row s xs)
  cut_at s n low [] o = sym (take_none n)
  cut_at s n low (x ∷ xs) o =
      cut_both section s n x xs (λ ys. rows_of section row s ys ≡ take n (rows_of section row s (x ∷ xs)))
      (λ l. rows_there s x (cut section s n xs) (λ e. omega arith) ∙ cut_at s n (section x) xs o.1 ∙ ap (take n) (sym (rows_there s x xs (λ e. omega arith))))
      (λ e l. rows_here s x (cut section s (n - 1) xs) e ∙ ap (λ (w : List (Row K)). row x ∷ w) (cut_at s (n - 1) (section x) xs o.1) ∙ take_first n (row x) (rows_of section row s xs) l ∙ ap (take n) (sym (rows_here s x xs e)))
      (λ l z. ⊎_elim (λ (e : section x ≡ s). ap (λ (m : ℕ). take m (rows_of section row s (x ∷ xs))) (sym (z e)))
      (λ (d : section x ≡ s → ⊥). sym (take_none n) ∙ ap (take n) (sym (rows_there s x xs d ∙ rows_low (section x) s xs o.1 (omega arith)))) (cases_eq (section x) s))

  cut_after : (s n i : ℕ) (xs : List A) → s < i → rows_of section row i (cut section s n xs) ≡ []
  cut_after s n i [] h = refl
  cut_after s n i (x ∷ xs) h =
      cut_both section s n x xs (λ ys. rows_of section row i ys ≡ [])
      (λ l. rows_there i x (cut section s n xs) (λ e. omega arith) ∙ cut_after s n i xs h)
      (λ e l. rows_there i x (cut section s (n - 1) xs) (λ q. omega arith) ∙ cut_after s (n - 1) i xs h)
      (λ l z. refl)

  pub cut_kept : (s n i : ℕ) (xs : List A) → Ordered section 0 xs → rows_of section row i (cut section s n xs) ≡ kept s n (λ j. rows_of section row j xs) i
  cut_kept s n i xs o =
      ⊎_elim (λ (e : i ≡ s). subst (λ (w : ℕ). rows_of section row w (cut section s n xs) ≡ kept s n (λ j. rows_of section row j xs) w) (sym e) (cut_at s n 0 xs o ∙ sym (cond-false (ltb s s) _ _ (le-ltb s s (omega arith)) ∙ cond-true (eqb s s) _ _ (eq-eqb s s refl))))
      (⊎_elim (λ (l : i < s). cut_before s n i 0 xs o l ∙ sym (cond-true (ltb i s) _ _ (lt-ltb i s l)))
      (λ (l : s < i). cut_after s n i xs l ∙ sym (cond-false (ltb i s) _ _ (le-ltb i s (omega arith)) ∙ cond-false (eqb i s) _ _ (ne_eqb i s (λ e. omega arith)))))
      (cases_order i s)

  -- a cut has no higher sections, and none above its own
  cut_lower : (s n low m : ℕ) (xs : List A) → Ordered section low xs → m ≤ suc low → sections_from section row m (cut section s n xs) ≤ sections_from section row m xs
  cut_lower s n low m [] o h = omega arith
  cut_lower s n low m (x ∷ xs) o h =
      cut_both section s n x xs (λ ys. sections_from section row m ys ≤ sections_from section row (suc (section x)) xs)
      (λ l. cut_lower s n (section x) (suc (section x)) xs o.1 (omega arith))
      (λ e l. cut_lower s (n - 1) (section x) (suc (section x)) xs o.1 (omega arith))
      (λ l z. sections_least low m (x ∷ xs) o h)

  cut_under : (s n m : ℕ) (xs : List A) → m ≤ suc s → sections_from section row m (cut section s n xs) ≤ suc s
  cut_under s n m [] h = h
  cut_under s n m (x ∷ xs) h =
      cut_both section s n x xs (λ ys. sections_from section row m ys ≤ suc s)
      (λ l. cut_under s n (suc (section x)) xs (omega arith))
      (λ e l. cut_under s (n - 1) (suc (section x)) xs (omega arith))
      (λ l z. h)

  pub flat_restore : (size s bytes : ℕ) (xs : List A) → Ordered section 0 xs → flat_means section row (cut section s (bytes / size) xs) ≡ apply size (flat_means section row xs) (restore s bytes)
  flat_restore size s bytes xs o =
      let ys = cut section s (bytes / size) xs in
      let all : (i : ℕ) → rows_of section row i ys ≡ kept s (bytes / size) (λ j. rows_of section row j xs) i = λ i. cut_kept s (bytes / size) i xs o in
      let a = cut_lower s (bytes / size) 0 0 xs o (omega arith) in
      let b = cut_under s (bytes / size) 0 xs (omega arith) in
      let oy = cut_ordered section 0 s (bytes / size) xs o in
      let top : trimmed (min (sections_from section row 0 xs) (suc s)) (λ i. rows_of section row i ys) ≡ sections_from section row 0 ys =
      trimmed_is (sections_from section row 0 ys) (min (sections_from section row 0 xs) (suc s)) (λ i. rows_of section row i ys) (omega arith) (λ i h. rows_high 0 0 i ys oy (omega arith) h) (some_last ys) in
      λ p. record {
        rows = λ i. all i p;
        durable = λ i. length (all i p);
        sections = (sym top ∙ ap (trimmed (min (sections_from section row 0 xs) (suc s))) (fun_ext all)) p;
        eager = true;
        asked = None;
      }
