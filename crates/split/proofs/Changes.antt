-- What an append and a restore make of the sections, and that the memory then holds those.
use Rattle.std.proofs.Common.{◌≡◌, ℕ, zero, suc, ◌+◌, ◌-◌, ◌*◌, ◌^◌, ◌<◌, ◌≤◌, cond, eqb, List, [], ◌∷◌, ◌++◌, length, take, drop, set, sym, refl, ap, ◌∙◌, subst, ⊎_elim, append_assoc, append-nil, zero-add, arith, length-append, length-set, take-append-drop, length-take}
use borrow.Rule.Slice.PartMut.{put_mid}
use Rattle.std.proofs.lemmas.List.{map-append, drop_at, length-map, length-take-le, take_more_set, take-take}
use Rattle.std.proofs.lemmas.Bool.{eq-eqb, ne_eqb, cond-true, cond-false, cases_eq}
use Rattle.std.proofs.lemmas.Bool.Decides.{nat_tests}
use Rattle.std.proofs.lemmas.Grind.{common_steps, flat_map-append}
use Rattle.codec.proofs.Pieces.{piece}
use Rattle.journal.specs.Answers.{record_of}
use Rattle.journal.specs.Flat.{Ordered, cut}
use Rattle.journal.specs.Layouts.{record_encoding}
use Rattle.journal.specs.Rows.{Row, stored_bytes}
use Rattle.journal.proofs.ReadRecord.{length_record}
use Rattle.split.specs.declared.section.Section.{Section}
use Rattle.split.specs.Directory.{before, numbers}
use Rattle.split.specs.Plans.{at_entry, entry_with}
use Rattle.split.specs.Parts.{Part, Proper, RowFits, RowsFit, Laid, part, part_of, labelled, flat, label, rows_at, under, over, row_total, byte_total, directory_of, records_from, records_of, stored_of_rows, values_of}
use Rattle.split.proofs.Kind.{Kind}
use Rattle.split.proofs.Halving.{before_within}
use Rattle.split.proofs.Lengths.{length_records, length_values, records_from_append, stored_bytes_append, flat_part, directory_append}
use Rattle.split.proofs.Around.{apart, under_directory, under_proper}
use Rattle.split.proofs.Standing.{Fit, fit_at, records_around, records_part, values_around, values_part}

front_kept : (n : ℕ) (front xs x : List ℕ) → length front ≡ n → xs ≡ front ++ x → xs ≡ front ++ drop n xs
front_kept n front xs x l e = e ∙ ap (λ k. front ++ k) (sym (ap (drop n) e ∙ drop_at front x n l))

-- ---- rows in order

module _ {K : Type 0} where
  ordered_weaken : (a b : ℕ) (xs : List (ℕ × Row K)) → a ≤ b → Ordered label b xs → Ordered label a xs
  ordered_weaken a b [] l o = tt
  ordered_weaken a b (x ∷ xs) l o = (omega (arith, o.0), o.1)

  ordered_labelled : (low s : ℕ) (rows : List (Row K)) (xs : List (ℕ × Row K)) → low ≤ s → Ordered label s xs → Ordered label low (labelled s rows ++ xs)
  ordered_labelled low s [] xs l o = ordered_weaken low s xs l o
  ordered_labelled low s (r ∷ rs) xs l o = (l, ordered_labelled s s rs xs (omega arith) o)

  pub ordered_flat : (low : ℕ) (ps : List (Part K)) → Proper low ps → Ordered label low (flat ps)
  ordered_flat low [] h = tt
  ordered_flat low (p ∷ ps) h =
      ordered_labelled low p.number p.rows (flat ps) h.0 (ordered_weaken p.number (suc p.number) (flat ps) (omega arith) (ordered_flat (suc p.number) ps h.2))

  flat_apart : (s low : ℕ) (ps : List (Part K)) → Proper low ps → flat ps ≡ flat (under s ps) ++ (labelled s (rows_at s ps) ++ flat (over s ps))
  flat_apart s low ps h =
      ap flat (apart s low ps h) ∙ flat_map-append (λ (p : Part K). labelled p.number p.rows) (under s ps) (part_of s (rows_at s ps) ++ over s ps)
      ∙ ap (λ l. flat (under s ps) ++ l) (flat_map-append (λ (p : Part K). labelled p.number p.rows) (part_of s (rows_at s ps)) (over s ps) ∙ ap (λ l. l ++ flat (over s ps)) (flat_part s (rows_at s ps)))

  -- one row more in the highest section
  pub flat_added : (s low : ℕ) (ps : List (Part K)) (r : Row K) → Proper low ps → over s ps ≡ [] → flat (under s ps ++ part_of s (rows_at s ps ++ (r ∷ []))) ≡ flat ps ++ ((s, r) ∷ [])
  flat_added s low ps r h o =
      let rows = rows_at s ps in
      flat_map-append (λ (p : Part K). labelled p.number p.rows) (under s ps) (part_of s (rows ++ (r ∷ []))) ∙ ap (λ l. flat (under s ps) ++ l) (flat_part s (rows ++ (r ∷ [])) ∙ map-append (λ (r : Row K). (s, r)) rows (r ∷ []))
      ∙ sym (append_assoc (flat (under s ps)) (labelled s rows) ((s, r) ∷ []))
      ∙ sym (ap (λ l. l ++ ((s, r) ∷ [])) (flat_apart s low ps h ∙ ap (λ l. flat (under s ps) ++ l) (ap (λ qs. labelled s rows ++ flat qs) o ∙ append-nil (labelled s rows))))

  cut_lower : (s n m : ℕ) (rows : List (Row K)) (xs : List (ℕ × Row K)) → m < s → cut label s n (labelled m rows ++ xs) ≡ labelled m rows ++ cut label s n xs
  cut_lower s n m [] xs l = refl
  cut_lower s n m (r ∷ rs) xs l = grind (arith, nat_tests, cut_lower s n m rs xs l)

  cut_under : (s n : ℕ) (ps : List (Part K)) (xs : List (ℕ × Row K)) → cut label s n (flat (under s ps) ++ xs) ≡ flat (under s ps) ++ cut label s n xs
  cut_under s n [] xs = refl
  cut_under s n (p ∷ ps) xs = grind (arith, nat_tests, common_steps, cut_lower s n p.number p.rows (flat (under s ps) ++ xs), cut_under s n ps xs)

  cut_own : (s n : ℕ) (rows : List (Row K)) (xs : List (ℕ × Row K)) → n ≤ length rows → cut label s 0 xs ≡ [] → cut label s n (labelled s rows ++ xs) ≡ labelled s (take n rows)
  cut_own s zero [] xs l e = e
  cut_own s (suc n) [] xs l e = absurd (omega arith)
  cut_own s zero (r ∷ rs) xs l e = grind (arith, nat_tests)
  cut_own s (suc n) (r ∷ rs) xs l e = let one : suc n - 1 ≡ n = omega arith in grind (arith, nat_tests, cut_own s n rs xs (omega arith) e)

  cut_none : (s low : ℕ) (xs : List (ℕ × Row K)) → Ordered label low xs → s ≤ low → cut label s 0 xs ≡ []
  cut_none s low [] o l = refl
  cut_none s low (x ∷ xs) o l = grind (arith, nat_tests, o.0)

  over_proper : (s low : ℕ) (ps : List (Part K)) → Proper low ps → Proper s (over s ps)
  over_proper s low [] h = tt
  over_proper s low (p ∷ ps) h = grind (arith, nat_tests, over_proper s (suc p.number) ps h.2, h.1, h.2)

  -- cut back to the first n rows of a section
  pub flat_cut : (s low n : ℕ) (ps : List (Part K)) → Proper low ps → n ≤ length (rows_at s ps) → flat (under s ps ++ part_of s (take n (rows_at s ps))) ≡ cut label s n (flat ps)
  flat_cut s low n ps h l =
      flat_map-append (λ (p : Part K). labelled p.number p.rows) (under s ps) (part_of s (take n (rows_at s ps))) ∙ ap (λ k. flat (under s ps) ++ k) (flat_part s (take n (rows_at s ps)))
      ∙ sym (ap (cut label s n) (flat_apart s low ps h) ∙ cut_under s n ps (labelled s (rows_at s ps) ++ flat (over s ps))
      ∙ ap (λ k. flat (under s ps) ++ k) (cut_own s n (rows_at s ps) (flat (over s ps)) l (cut_none s s (flat (over s ps)) (ordered_flat s (over s ps) (over_proper s low ps h)) (omega arith))))

  part_one : (s : ℕ) (rows : List (Row K)) → 0 < length rows → part_of s rows ≡ part s rows ∷ []
  part_one s [] l = absurd (omega arith)
  part_one s (r ∷ rs) l = refl

-- the sections before s, and s with other rows
abbrev pub with_rows : {K : Type 0} → ℕ → List (Part K) → List (Row K) → List (Part K)
with_rows s ps rows = under s ps ++ part_of s rows

-- a section with rows has its entry
before_entry : {K : Type 0} (s row byte : ℕ) (ps : List (Part K)) → 0 < length (rows_at s ps) → before s (numbers (directory_of row byte ps)) < length (directory_of row byte ps)
before_entry s row byte [] l = absurd (omega arith)
before_entry s row byte (p ∷ ps) l = grind (arith, nat_tests, before_entry s (row + length p.rows) (byte + stored_bytes p.rows) ps)

module _ {K : Type 0} {bytes : K → List ℕ} {w used : ℕ} {directory : List Section} {records values : List ℕ} {ps : List (Part K)} {decoding : List ℕ → K} (key : Kind bytes w decoding) (h : Laid bytes w used directory records values ps) where
  -- ---- what is written behind the sections leaves them

  pub recorded : {k : ℕ} (out : List ℕ) → length out ≡ k → Laid bytes w used directory (put_mid (row_total ps * (w + 28)) k records out) values ps
  recorded {k} out long = record {
    within = h.within;
    entries = h.entries;
    recorded =
        front_kept (row_total ps * (w + 28)) (records_of bytes ps) _ _ (length_records key ps)
        (piece (row_total ps * (w + 28)) k _ (records_of bytes ps) records records out out (length_records key ps) long refl h.recorded refl
        ∙ append_assoc (records_of bytes ps) out (drop (row_total ps * (w + 28) + k) records));
    kept = h.kept;
    proper = h.proper;
  }

  pub kept : {k : ℕ} (out : List ℕ) → length out ≡ k → Laid bytes w used directory records (put_mid (byte_total ps) k values out) ps
  kept {k} out long = record {
    within = h.within;
    entries = h.entries;
    recorded = h.recorded;
    kept =
        front_kept (byte_total ps) (values_of ps) _ _ (length_values ps)
        (piece (byte_total ps) k _ (values_of ps) values values out out (length_values ps) long refl h.kept refl
        ∙ append_assoc (values_of ps) out (drop (byte_total ps + k) values));
    proper = h.proper;
  }

  -- ---- other rows in a section, and none behind it

  module _ (s : ℕ) where
    entries : List (Row K) → List Section
    entries rows = directory_of 0 0 (under s ps) ++ directory_of (row_total (under s ps)) (byte_total (under s ps)) (part_of s rows)

    relaid : (rows : List (Row K)) → RowsFit rows → stored_bytes rows ≤ 2 ^ 63 → {m : ℕ} {after : List Section} {recs vals : List ℕ} (x y : List ℕ) → m ≤ length after → take m after ≡ entries rows →
        recs ≡ (records_of bytes (under s ps) ++ records_from bytes 0 rows) ++ x → vals ≡ (values_of (under s ps) ++ stored_of_rows rows) ++ y → Laid bytes w m after recs vals (with_rows s ps rows)
    unfolding entries
    relaid rows fit bound x y within is recs vals =
        let r : records_of bytes (with_rows s ps rows) ≡ records_of bytes (under s ps) ++ records_from bytes 0 rows =
        flat_map-append (λ (p : Part K). records_from bytes 0 p.rows) (under s ps) (part_of s rows) ∙ ap (λ l. records_of bytes (under s ps) ++ l) (records_part key s rows) in
        let v : values_of (with_rows s ps rows) ≡ values_of (under s ps) ++ stored_of_rows rows = flat_map-append (λ (p : Part K). stored_of_rows p.rows) (under s ps) (part_of s rows) ∙ ap (λ l. values_of (under s ps) ++ l) (values_part s rows) in
        record {
          within = within;
          entries = is ∙ sym (directory_append 0 0 (under s ps) (part_of s rows) ∙ (λ i. directory_of 0 0 (under s ps) ++ directory_of (zero-add (row_total (under s ps)) i) (zero-add (byte_total (under s ps)) i) (part_of s rows)));
          recorded = front_kept (row_total (with_rows s ps rows) * (w + 28)) (records_of bytes (with_rows s ps rows)) _ x (length_records key (with_rows s ps rows)) (recs ∙ ap (λ l. l ++ x) (sym r));
          kept = front_kept (byte_total (with_rows s ps rows)) (values_of (with_rows s ps rows)) _ y (length_values (with_rows s ps rows)) (vals ∙ ap (λ l. l ++ y) (sym v));
          proper = under_proper s 0 ps rows (omega arith) h.proper fit bound;
        }

    -- where its entry stands
    long : length (directory_of 0 0 ps) ≡ used
    long = ap length (sym h.entries) ∙ length-take-le used directory h.within

    pub standing : at_entry s ps ≤ used
    standing = omega (arith, before_within s (numbers (directory_of 0 0 ps)), length-map (directory_of 0 0 ps) (λ (d : Section). d.number), long)

    pub inside : 0 < length (rows_at s ps) → at_entry s ps < used
    inside some = omega (arith, before_entry s 0 0 ps some, long)

    front : take (at_entry s ps) directory ≡ directory_of 0 0 (under s ps)
    front = sym (take-take (at_entry s ps) used directory standing) ∙ ap (take (at_entry s ps)) h.entries ∙ sym (under_directory s 0 0 ps)

    -- the directory with an entry for it
    entered : (rows : List (Row K)) (d : Section) → d ≡ entry_with s ps (length rows) (stored_bytes rows) → at_entry s ps < length directory → 0 < length rows → take (at_entry s ps + 1) (set directory (at_entry s ps) d) ≡ entries rows
    unfolding entries
    entered rows d is m some =
        take_more_set directory (at_entry s ps) d m ∙ (λ i. front i ++ (is i ∷ []))
        ∙ ap (λ qs. directory_of 0 0 (under s ps) ++ directory_of (row_total (under s ps)) (byte_total (under s ps)) qs) (sym (part_one s rows some))

    fit : Fit (rows_at s ps)
    fit = fit_at s 0 ps h.proper

    -- ---- an append to the highest section

    module _ (r : Row K) (fits : RowFits r) (none : over s ps ≡ []) (bound : stored_bytes (rows_at s ps) + length r.stored ≤ 2 ^ 63) where
      more_fit : (rows : List (Row K)) → RowsFit rows → RowsFit (rows ++ (r ∷ []))
      more_fit [] f = (fits, tt)
      more_fit (q ∷ qs) f = (f.0, more_fit qs f.1)

      records_then : {recs : List ℕ} {k : ℕ} → recs ≡ record_encoding bytes (record_of (stored_bytes (rows_at s ps)) r) → k ≡ w + 28 →
          put_mid (row_total ps * (w + 28)) k records recs ≡ (records_of bytes (under s ps) ++ records_from bytes 0 (rows_at s ps ++ (r ∷ []))) ++ drop (row_total ps * (w + 28) + (w + 28)) records
      records_then {recs} {k} is wide =
          let a = row_total ps * (w + 28) in
          let enc : List ℕ = record_encoding bytes (record_of (stored_bytes (rows_at s ps)) r) in
          let le : length enc ≡ w + 28 = length_record bytes w key.sized (record_of (stored_bytes (rows_at s ps)) r) in
          let u : List ℕ = records_of bytes (under s ps) in
          let own : List ℕ = records_from bytes 0 (rows_at s ps) in
          let all : records_of bytes ps ≡ u ++ own = records_around key s 0 ps h.proper ∙ ap (λ l. u ++ l) (ap (λ qs. own ++ records_of bytes qs) none ∙ append-nil own) in
          let last : records_from bytes (0 + stored_bytes (rows_at s ps)) (r ∷ []) ≡ enc = append-nil (record_encoding bytes (record_of (0 + stored_bytes (rows_at s ps)) r)) ∙ ap (λ n. record_encoding bytes (record_of n r)) (zero-add (stored_bytes (rows_at s ps))) in
          let grown : records_from bytes 0 (rows_at s ps ++ (r ∷ [])) ≡ own ++ enc = records_from_append key 0 (rows_at s ps) (r ∷ []) ∙ ap (λ l. own ++ l) last in
          piece a k (a + (w + 28)) (records_of bytes ps) records records recs enc (length_records key ps) (omega arith) (omega arith) h.recorded is
          ∙ ap (λ l. l ++ drop (a + (w + 28)) records) (ap (λ l. l ++ enc) all ∙ append_assoc u own enc ∙ ap (λ l. u ++ l) (sym grown))

      values_then : {vals : List ℕ} {k : ℕ} → vals ≡ r.stored → k ≡ length r.stored →
          put_mid (byte_total ps) k values vals ≡ (values_of (under s ps) ++ stored_of_rows (rows_at s ps ++ (r ∷ []))) ++ drop (byte_total ps + length r.stored) values
      values_then {vals} {k} is long =
          let u : List ℕ = values_of (under s ps) in
          let own : List ℕ = stored_of_rows (rows_at s ps) in
          let all : values_of ps ≡ u ++ own = values_around s 0 ps h.proper ∙ ap (λ l. u ++ l) (ap (λ qs. own ++ values_of qs) none ∙ append-nil own) in
          let grown : stored_of_rows (rows_at s ps ++ (r ∷ [])) ≡ own ++ r.stored = flat_map-append (λ (r : Row K). r.stored) (rows_at s ps) (r ∷ []) ∙ ap (λ l. own ++ l) (append-nil r.stored) in
          piece (byte_total ps) k (byte_total ps + length r.stored) (values_of ps) values values vals r.stored (length_values ps) (omega arith) (omega arith) h.kept is
          ∙ ap (λ l. l ++ drop (byte_total ps + length r.stored) values) (ap (λ l. l ++ r.stored) all ∙ append_assoc u own r.stored ∙ ap (λ l. u ++ l) (sym grown))

      pub appended : {k m : ℕ} {recs vals : List ℕ} → at_entry s ps < length directory → recs ≡ record_encoding bytes (record_of (stored_bytes (rows_at s ps)) r) → k ≡ w + 28 → vals ≡ r.stored → m ≡ length r.stored →
          {d : Section} → d ≡ entry_with s ps (length (rows_at s ps) + 1) (stored_bytes (rows_at s ps) + length r.stored) →
          Laid bytes w (at_entry s ps + 1) (set directory (at_entry s ps) d) (put_mid (row_total ps * (w + 28)) k records recs) (put_mid (byte_total ps) m values vals) (with_rows s ps (rows_at s ps ++ (r ∷ [])))
      appended within recs wide vals long {d} is =
          let more : List (Row K) = rows_at s ps ++ (r ∷ []) in
          let count : length more ≡ length (rows_at s ps) + 1 = length-append (rows_at s ps) (r ∷ []) in
          let sum : stored_bytes more ≡ stored_bytes (rows_at s ps) + length r.stored = stored_bytes_append (rows_at s ps) (r ∷ []) ∙ omega arith in
          relaid more (more_fit (rows_at s ps) fit.each) (omega (arith, sum)) _ _ (omega (arith, length-set directory (at_entry s ps) d))
          (entered more d (is ∙ (λ i. entry_with s ps (sym count i) (sym sum i))) within (omega (arith, count))) (records_then recs wide) (values_then vals long)

    -- ---- a restore to the first n rows

    module _ (n : ℕ) (few : n ≤ length (rows_at s ps)) where
      front_fit : (k : ℕ) (rows : List (Row K)) → RowsFit rows → RowsFit (take k rows)
      front_fit zero rows f = tt
      front_fit (suc k) [] f = tt
      front_fit (suc k) (q ∷ qs) f = (f.0, front_fit k qs f.1)

      apart_at : rows_at s ps ≡ take n (rows_at s ps) ++ drop n (rows_at s ps)
      apart_at = sym (take-append-drop n (rows_at s ps))

      front_less : stored_bytes (take n (rows_at s ps)) ≤ stored_bytes (rows_at s ps)
      front_less = omega (arith, ap stored_bytes apart_at, stored_bytes_append (take n (rows_at s ps)) (drop n (rows_at s ps)))

      regroup : (u a b o x : List ℕ) → (u ++ ((a ++ b) ++ o)) ++ x ≡ (u ++ a) ++ (b ++ (o ++ x))
      regroup u a b o x = simp append_assoc

      kept_back : {m : ℕ} {after : List Section} → m ≤ length after → take m after ≡ entries (take n (rows_at s ps)) → Laid bytes w m after records values (with_rows s ps (take n (rows_at s ps)))
      kept_back within is =
          let a : List (Row K) = take n (rows_at s ps) in
          let b : List (Row K) = drop n (rows_at s ps) in
          let x : List ℕ = drop (row_total ps * (w + 28)) records in
          let y : List ℕ = drop (byte_total ps) values in
          let u : List ℕ = records_of bytes (under s ps) in
          let v : List ℕ = values_of (under s ps) in
          let recs = h.recorded ∙ ap (λ l. l ++ x) (records_around key s 0 ps h.proper ∙ ap (λ l. u ++ (l ++ records_of bytes (over s ps))) (ap (records_from bytes 0) apart_at ∙ records_from_append key 0 a b))
          ∙ regroup u (records_from bytes 0 a) (records_from bytes (0 + stored_bytes a) b) (records_of bytes (over s ps)) x in
          let vals = h.kept ∙ ap (λ l. l ++ y) (values_around s 0 ps h.proper ∙ ap (λ l. v ++ (l ++ values_of (over s ps))) (ap stored_of_rows apart_at ∙ flat_map-append (λ (r : Row K). r.stored) a b))
          ∙ regroup v (stored_of_rows a) (stored_of_rows b) (values_of (over s ps)) y in
          relaid a (front_fit n (rows_at s ps) fit.each) (omega (arith, front_less, fit.bounded)) _ _ within is recs vals

      -- without rows it has no entry
      pub restored : {m : ℕ} {after : List Section} → m ≡ cond (eqb n 0) (at_entry s ps) (at_entry s ps + 1) → after ≡ cond (eqb n 0) directory (set directory (at_entry s ps) (entry_with s ps n (stored_bytes (take n (rows_at s ps))))) →
          Laid bytes w m after records values (with_rows s ps (take n (rows_at s ps)))
      unfolding entries
      restored {m} {after} e f =
          let d = entry_with s ps n (stored_bytes (take n (rows_at s ps))) in
          let count : length (take n (rows_at s ps)) ≡ n = length-take n (rows_at s ps) ∙ omega arith in
          ⊎_elim
          (λ z.
          let t = eq-eqb n 0 z in
          let none = ap (λ k. directory_of 0 0 (under s ps) ++ directory_of (row_total (under s ps)) (byte_total (under s ps)) (part_of s (take k (rows_at s ps)))) (sym z) in
          subst (λ k. Laid bytes w k after records values (with_rows s ps (take n (rows_at s ps)))) (sym (e ∙ cond-true _ _ _ t))
          (subst (λ ds. Laid bytes w (at_entry s ps) ds records values (with_rows s ps (take n (rows_at s ps)))) (sym (f ∙ cond-true _ _ _ t))
          (kept_back (omega (arith, h.within, standing)) (front ∙ sym (append-nil (directory_of 0 0 (under s ps))) ∙ none))))
          (λ ne.
          let t = ne_eqb n 0 ne in
          subst (λ k. Laid bytes w k after records values (with_rows s ps (take n (rows_at s ps)))) (sym (e ∙ cond-false _ _ _ t))
          (subst (λ ds. Laid bytes w (at_entry s ps + 1) ds records values (with_rows s ps (take n (rows_at s ps)))) (sym (f ∙ cond-false _ _ _ t))
          (kept_back (omega (arith, length-set directory (at_entry s ps) d, inside (positive n few ne), h.within)) (entered (take n (rows_at s ps)) d (λ i. entry_with s ps (sym count i) (stored_bytes (take n (rows_at s ps)))) (omega (arith, inside (positive n few ne), h.within)) (omega (arith, count, positive n few ne))))))
          (cases_eq n 0)
        where
          positive : (n : ℕ) {m : ℕ} → n ≤ m → (n ≡ 0 → ⊥) → 0 < m
          positive n l ne = omega arith
