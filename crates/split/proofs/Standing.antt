-- What stands in the memory of a split journal at the places that a directory names.
use Rattle.std.proofs.Common.{◌≡◌, ℕ, zero, suc, ◌+◌, ◌*◌, ◌^◌, ◌<◌, ◌≤◌, true, false, cond, eqb, List, [], ◌∷◌, ◌++◌, length, get_or, take, drop, Some, None, sym, refl, ap, ◌∙◌, append_assoc, append-nil, add-zero, add_assoc, suc-mul, zero-mul, arith}
use Rattle.std.proofs.lemmas.List.{drop-drop, drop_at, take_at}
use Rattle.std.proofs.lemmas.Grind.{common_steps}
use Rattle.journal.specs.Answers.{record_of}
use Rattle.journal.specs.Layouts.{record_encoding}
use Rattle.journal.specs.Rows.{Row, row_at, stored_bytes}
use Rattle.journal.proofs.ReadRecord.{length_record}
use Rattle.split.specs.Parts.{Part, Proper, RowsFit, part_of, rows_at, under, over, row_total, byte_total, records_from, records_of, stored_of_rows, values_of}
use Rattle.split.proofs.Kind.{Kind}
use Rattle.split.proofs.Lengths.{length_records, length_values, row_total_append, byte_total_append, row_total_part, byte_total_part}
use Rattle.split.proofs.Around.{apart}
use Rattle.split.proofs.Rows.{starts}

module _ {K : Type 0} where
  -- ---- rows by position

  pub row_there : (rows : List (Row K)) (p : ℕ) → p < length rows → (r : Row K) × (row_at rows p ≡ Some r)
  row_there [] p l = absurd (omega arith)
  row_there (r ∷ rs) zero l = (r, refl)
  row_there (r ∷ rs) (suc p) l = row_there rs p (omega arith)

  pub row_past : (rows : List (Row K)) (p : ℕ) → length rows ≤ p → row_at rows p ≡ None
  row_past [] p l = refl
  row_past (r ∷ rs) zero l = absurd (omega arith)
  row_past (r ∷ rs) (suc p) l = row_past rs p (omega arith)

  -- ---- the rows of a section

  pub record Fit (rows : List (Row K)) : Type 0 where
    pub each : RowsFit rows
    pub bounded : stored_bytes rows ≤ 2 ^ 63

  pub fit_at : (s low : ℕ) (ps : List (Part K)) → Proper low ps → Fit (rows_at s ps)
  fit_at s low [] h = record { each = tt; bounded = omega arith }
  fit_at s low (p ∷ ps) h =
      let rest = fit_at s (suc p.number) ps h.2 in
      elim (eqb p.number s) as (λ b. Fit (cond b p.rows (rows_at s ps))) [ true ↦ record { each = h.1.each; bounded = h.1.bounded } | false ↦ rest ]

  -- where the value at a position begins
  pub starts_at : (from p d : ℕ) (rows : List (Row K)) → p < length rows → get_or (starts from rows) p d ≡ from + stored_bytes (take p rows)
  starts_at from p d [] l = absurd (omega arith)
  starts_at from zero d (r ∷ rs) l = omega arith
  starts_at from (suc p) d (r ∷ rs) l = omega (arith, starts_at (from + length r.stored) p d rs (omega arith))

  pub values_part : (s : ℕ) (rows : List (Row K)) → values_of (part_of s rows) ≡ stored_of_rows rows
  values_part s [] = refl
  values_part s (r ∷ rs) = append-nil (stored_of_rows (r ∷ rs))

module _ {K : Type 0} (s low : ℕ) (ps : List (Part K)) (h : Proper low ps) where
  pub rows_sum : row_total ps ≡ row_total (under s ps) + (length (rows_at s ps) + row_total (over s ps))
  rows_sum = omega (arith, ap row_total (apart s low ps h), row_total_append (under s ps) (part_of s (rows_at s ps) ++ over s ps), row_total_append (part_of s (rows_at s ps)) (over s ps), row_total_part s (rows_at s ps))

  pub bytes_sum : byte_total ps ≡ byte_total (under s ps) + (stored_bytes (rows_at s ps) + byte_total (over s ps))
  bytes_sum = omega (arith, ap byte_total (apart s low ps h), byte_total_append (under s ps) (part_of s (rows_at s ps) ++ over s ps), byte_total_append (part_of s (rows_at s ps)) (over s ps), byte_total_part s (rows_at s ps))

  pub values_around : values_of ps ≡ values_of (under s ps) ++ (stored_of_rows (rows_at s ps) ++ values_of (over s ps))
  values_around = ap values_of (apart s low ps h) ∙ grind (arith, common_steps, values_part s (rows_at s ps))

  -- the stored values from this section on
  pub values_from : (values y : List ℕ) → values ≡ values_of ps ++ y → drop (byte_total (under s ps)) values ≡ stored_of_rows (rows_at s ps) ++ (values_of (over s ps) ++ y)
  values_from values y e =
      ap (drop (byte_total (under s ps))) (e ∙ ap (λ l. l ++ y) values_around ∙ append_assoc (values_of (under s ps)) _ y)
      ∙ drop_at (values_of (under s ps)) _ (byte_total (under s ps)) (length_values (under s ps)) ∙ append_assoc (stored_of_rows (rows_at s ps)) (values_of (over s ps)) y

module _ {K : Type 0} {bytes : K → List ℕ} {w : ℕ} {decoding : List ℕ → K} (key : Kind bytes w decoding) where
  pub records_part : (s : ℕ) (rows : List (Row K)) → records_of bytes (part_of s rows) ≡ records_from bytes 0 rows
  records_part s [] = refl
  records_part s (r ∷ rs) = append-nil (records_from bytes 0 (r ∷ rs))

  pub records_around : (s low : ℕ) (ps : List (Part K)) → Proper low ps → records_of bytes ps ≡ records_of bytes (under s ps) ++ (records_from bytes 0 (rows_at s ps) ++ records_of bytes (over s ps))
  records_around s low ps h = ap (records_of bytes) (apart s low ps h) ∙ grind (arith, common_steps, records_part s (rows_at s ps))

  -- the records from this section on
  pub records_behind : (s low : ℕ) (ps : List (Part K)) → Proper low ps → (records x : List ℕ) → records ≡ records_of bytes ps ++ x →
      drop (row_total (under s ps) * (w + 28)) records ≡ records_from bytes 0 (rows_at s ps) ++ (records_of bytes (over s ps) ++ x)
  records_behind s low ps h records x e =
      ap (drop (row_total (under s ps) * (w + 28))) (e ∙ ap (λ l. l ++ x) (records_around s low ps h) ∙ append_assoc (records_of bytes (under s ps)) (records_from bytes 0 (rows_at s ps) ++ records_of bytes (over s ps)) x)
      ∙ drop_at (records_of bytes (under s ps)) _ (row_total (under s ps) * (w + 28)) (length_records key (under s ps)) ∙ append_assoc (records_from bytes 0 (rows_at s ps)) (records_of bytes (over s ps)) x

  -- the record at a position
  pub record_at : (from p : ℕ) (rows : List (Row K)) (r : Row K) (x : List ℕ) → row_at rows p ≡ Some r →
      take (w + 28) (drop (p * (w + 28)) (records_from bytes from rows ++ x)) ≡ record_encoding bytes (record_of (from + stored_bytes (take p rows)) r)
  record_at from p [] r x e = absurd (cc)
  record_at from zero (q ∷ rs) r x e =
      let enc : List ℕ = record_encoding bytes (record_of from q) in
      let more : List ℕ = records_from bytes (from + length q.stored) rs in
      let same : q ≡ r = cc in
      (λ i. take (w + 28) (drop (zero-mul (w + 28) i) (append_assoc enc more x i)))
      ∙ take_at enc (more ++ x) (w + 28) (length_record bytes w key.sized (record_of from q))
      ∙ (λ i. record_encoding bytes (record_of (sym (add-zero from) i) (same i)))
  record_at from (suc p) (q ∷ rs) r x e =
      let enc : List ℕ = record_encoding bytes (record_of from q) in
      let more : List ℕ = records_from bytes (from + length q.stored) rs in
      let k : suc p * (w + 28) ≡ w + 28 + p * (w + 28) = omega (arith, suc-mul p (w + 28)) in
      (λ i. take (w + 28) (drop (k i) (append_assoc enc more x i)))
      ∙ ap (take (w + 28)) (sym (drop-drop (p * (w + 28)) (w + 28) (enc ++ (more ++ x))) ∙ ap (drop (p * (w + 28))) (drop_at enc (more ++ x) (w + 28) (length_record bytes w key.sized (record_of from q))))
      ∙ record_at (from + length q.stored) p rs r x e
      ∙ ap (λ n. record_encoding bytes (record_of n r)) (add_assoc from (length q.stored) (stored_bytes (take p rs)))
