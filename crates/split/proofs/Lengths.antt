-- How long the parts of a split journal's memory are, and how they come together.
use Rattle.std.proofs.Common.{◌≡◌, ℕ, ◌+◌, ◌*◌, List, [], ◌∷◌, ◌++◌, length, refl, ap, append-nil, add-zero, add-mul, arith}
use Rattle.std.proofs.lemmas.Grind.{common_steps}
use Rattle.journal.specs.Answers.{record_of}
use Rattle.journal.specs.Rows.{Row, stored_bytes}
use Rattle.journal.proofs.ReadRecord.{length_record}
use Rattle.split.specs.Parts.{Part, part_of, labelled, flat, row_total, byte_total, directory_of, stored_of_rows, values_of, records_from, records_of}
use Rattle.split.proofs.Kind.{Kind}

module _ {K : Type 0} where
  pub length_stored_rows : (rows : List (Row K)) → length (stored_of_rows rows) ≡ stored_bytes rows
  length_stored_rows [] = refl
  length_stored_rows (r ∷ rs) = grind (arith, common_steps, length_stored_rows rs)

  pub length_values : (ps : List (Part K)) → length (values_of ps) ≡ byte_total ps
  length_values [] = refl
  length_values (p ∷ ps) = grind (arith, common_steps, length_stored_rows p.rows, length_values ps)

  -- ---- one behind the other

  pub stored_bytes_append : (xs ys : List (Row K)) → stored_bytes (xs ++ ys) ≡ stored_bytes xs + stored_bytes ys
  stored_bytes_append [] ys = omega arith
  stored_bytes_append (x ∷ xs) ys = omega (arith, stored_bytes_append xs ys)

  pub row_total_append : (ps qs : List (Part K)) → row_total (ps ++ qs) ≡ row_total ps + row_total qs
  row_total_append [] qs = omega arith
  row_total_append (p ∷ ps) qs = omega (arith, row_total_append ps qs)

  pub byte_total_append : (ps qs : List (Part K)) → byte_total (ps ++ qs) ≡ byte_total ps + byte_total qs
  byte_total_append [] qs = omega arith
  byte_total_append (p ∷ ps) qs = omega (arith, byte_total_append ps qs)

  pub directory_append : (row byte : ℕ) (ps qs : List (Part K)) → directory_of row byte (ps ++ qs) ≡ directory_of row byte ps ++ directory_of (row + row_total ps) (byte + byte_total ps) qs
  directory_append row byte [] qs = grind (arith, common_steps)
  directory_append row byte (p ∷ ps) qs = grind (arith, common_steps, directory_append (row + length p.rows) (byte + stored_bytes p.rows) ps qs)

  -- a section with or without rows
  pub flat_part : (s : ℕ) (rows : List (Row K)) → flat (part_of s rows) ≡ labelled s rows
  flat_part s [] = refl
  flat_part s (r ∷ rs) = ap (λ l. (s, r) ∷ l) (append-nil (labelled s rs))

  pub row_total_part : (s : ℕ) (rows : List (Row K)) → row_total (part_of s rows) ≡ length rows
  row_total_part s [] = refl
  row_total_part s (r ∷ rs) = add-zero (length (r ∷ rs))

  pub byte_total_part : (s : ℕ) (rows : List (Row K)) → byte_total (part_of s rows) ≡ stored_bytes rows
  byte_total_part s [] = refl
  byte_total_part s (r ∷ rs) = add-zero (stored_bytes (r ∷ rs))

module _ {K : Type 0} {bytes : K → List ℕ} {w : ℕ} {decoding : List ℕ → K} (key : Kind bytes w decoding) where
  pub length_records_from : (offset : ℕ) (rows : List (Row K)) → length (records_from bytes offset rows) ≡ length rows * (w + 28)
  length_records_from offset [] = omega arith
  length_records_from offset (r ∷ rs) = grind (arith, common_steps, length_record bytes w key.sized (record_of offset r), length_records_from (offset + length r.stored) rs, add-mul 1 (length rs) (w + 28))

  pub length_records : (ps : List (Part K)) → length (records_of bytes ps) ≡ row_total ps * (w + 28)
  length_records [] = omega arith
  length_records (p ∷ ps) = grind (arith, common_steps, length_records_from 0 p.rows, length_records ps, add-mul (length p.rows) (row_total ps) (w + 28))

  pub records_from_append : (offset : ℕ) (xs ys : List (Row K)) → records_from bytes offset (xs ++ ys) ≡ records_from bytes offset xs ++ records_from bytes (offset + stored_bytes xs) ys
  records_from_append offset [] ys = grind (arith, common_steps)
  records_from_append offset (x ∷ xs) ys = grind (arith, common_steps, records_from_append (offset + length x.stored) xs ys)
