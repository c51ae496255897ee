-- A section among the others: those before it, its own rows, those behind it.
use Rattle.std.proofs.Common.{◌≡◌, ℕ, suc, ◌+◌, ◌^◌, ◌<◌, ◌≤◌, true, false, cond, ltb, List, [], ◌∷◌, ◌++◌, length, take, refl, ap, ◌∙◌, arith}
use Rattle.std.proofs.lemmas.Bool.Decides.{nat_tests}
use Rattle.std.proofs.lemmas.Grind.{common_steps}
use Rattle.journal.specs.Flat.{rows_of, sections_from}
use Rattle.journal.specs.Rows.{Row, stored_bytes}
use Rattle.journal.proofs.Flat.{rows_append}
use Rattle.split.specs.declared.section.Section.{Section}
use Rattle.split.specs.Directory.{Rising, before, end_row, end_byte, entry, entry_of, numbers, top}
use Rattle.split.specs.Parts.{Part, Proper, RowsFit, part, part_of, labelled, flat, label, unlabelled, row_total, byte_total, rows_at, under, over, directory_of}

module _ {K : Type 0} (s : ℕ) where
  pub none_above : (low : ℕ) (ps : List (Part K)) → Proper low ps → s < low → rows_at s ps ≡ []
  none_above low [] h l = refl
  none_above low (p ∷ ps) h l = grind (arith, nat_tests, none_above (suc p.number) ps h.2, h.0)

  -- sections are those before s, s itself, and those behind it
  pub apart : (low : ℕ) (ps : List (Part K)) → Proper low ps → ps ≡ under s ps ++ (part_of s (rows_at s ps) ++ over s ps)
  apart low [] h = refl
  apart low (p ∷ ps) h = grind (arith, nat_tests, common_steps, apart (suc p.number) ps h.2, none_above (suc p.number) ps h.2, all_behind (suc p.number) ps h.2, own_part p.rows h.1.some, h.0)
    where
      own_part : (rows : List (Row K)) → 0 < length rows → part_of s rows ≡ part s rows ∷ []
      own_part [] l = absurd (omega arith)
      own_part (r ∷ rs) l = refl

      all_behind : (low : ℕ) (ps : List (Part K)) → Proper low ps → s < low → over s ps ≡ ps
      all_behind low [] h l = refl
      all_behind low (p ∷ ps) h l = grind (arith, nat_tests, h.0)

  -- the directory up to s
  pub under_directory : (row byte : ℕ) (ps : List (Part K)) → directory_of row byte (under s ps) ≡ take (before s (numbers (directory_of row byte ps))) (directory_of row byte ps)
  under_directory row byte [] = refl
  under_directory row byte (p ∷ ps) =
      let ds : List Section = directory_of (row + length p.rows) (byte + stored_bytes p.rows) ps in
      let own : Section = entry p.number row byte (length p.rows) (stored_bytes p.rows) in
      let e = under_directory (row + length p.rows) (byte + stored_bytes p.rows) ps in
      elim (ltb p.number s) as (λ b. directory_of row byte (cond b (p ∷ under s ps) []) ≡ take (cond b (suc (before s (numbers ds))) 0) (own ∷ ds)) [ true ↦ ap (λ l. own ∷ l) e | false ↦ refl ]

  -- the entry of s
  pub entry_is : (low row byte : ℕ) (ps : List (Part K)) → Proper low ps →
      entry_of s row byte (directory_of row byte ps) ≡ entry s (row + row_total (under s ps)) (byte + byte_total (under s ps)) (length (rows_at s ps)) (stored_bytes (rows_at s ps))
  entry_is low row byte [] h = grind arith
  entry_is low row byte (p ∷ ps) h = grind (arith, nat_tests, entry_is (suc p.number) (row + length p.rows) (byte + stored_bytes p.rows) ps h.2, none_above (suc p.number) ps h.2)

  labelled_own : (rows : List (Row K)) → rows_of label unlabelled s (labelled s rows) ≡ rows
  labelled_own [] = refl
  labelled_own (r ∷ rs) = grind (arith, nat_tests, labelled_own rs)

  labelled_other : (n : ℕ) (rows : List (Row K)) → (n ≡ s → ⊥) → rows_of label unlabelled s (labelled n rows) ≡ []
  labelled_other n [] h = refl
  labelled_other n (r ∷ rs) h = grind (arith, nat_tests, labelled_other n rs h)

  -- the rows of s among all
  pub rows_flat : (low : ℕ) (ps : List (Part K)) → Proper low ps → rows_of label unlabelled s (flat ps) ≡ rows_at s ps
  rows_flat low [] h = refl
  rows_flat low (p ∷ ps) h =
      grind (arith, nat_tests, common_steps, rows_append label unlabelled s (labelled p.number p.rows) (flat ps), rows_flat (suc p.number) ps h.2, none_above (suc p.number) ps h.2, labelled_own p.rows, labelled_other p.number p.rows)

  alone : (low : ℕ) (rows : List (Row K)) → low ≤ s → RowsFit rows → stored_bytes rows ≤ 2 ^ 63 → Proper low (part_of s rows)
  alone low [] l f b = tt
  alone low (r ∷ rs) l f b = (l, record { some = omega arith; each = f; bounded = b }, tt)

  -- s with other rows, behind those before it
  pub under_proper : (low : ℕ) (ps : List (Part K)) (rows : List (Row K)) → low ≤ s → Proper low ps → RowsFit rows → stored_bytes rows ≤ 2 ^ 63 → Proper low (under s ps ++ part_of s rows)
  under_proper low [] rows l h f b = alone low rows l f b
  under_proper low (p ∷ ps) rows l h f b = grind (arith, nat_tests, under_proper (suc p.number) ps rows, alone low rows l f b, h.0, h.1, h.2, f)

module _ {K : Type 0} where
  pub rising : (low row byte : ℕ) (ps : List (Part K)) → Proper low ps → Rising low (numbers (directory_of row byte ps))
  rising low row byte [] h = tt
  rising low row byte (p ∷ ps) h = (h.0, rising (suc p.number) (row + length p.rows) (byte + stored_bytes p.rows) ps h.2)

  pub end_row_is : (row byte : ℕ) (ps : List (Part K)) → end_row row (directory_of row byte ps) ≡ row + row_total ps
  end_row_is row byte [] = omega arith
  end_row_is row byte (p ∷ ps) = omega (arith, end_row_is (row + length p.rows) (byte + stored_bytes p.rows) ps)

  pub end_byte_is : (row byte : ℕ) (ps : List (Part K)) → end_byte byte (directory_of row byte ps) ≡ byte + byte_total ps
  end_byte_is row byte [] = omega arith
  end_byte_is row byte (p ∷ ps) = omega (arith, end_byte_is (row + length p.rows) (byte + stored_bytes p.rows) ps)

  sections_labelled : (n s : ℕ) (rows : List (Row K)) (xs : List (ℕ × Row K)) → 0 < length rows → sections_from label unlabelled n (labelled s rows ++ xs) ≡ sections_from label unlabelled (suc s) xs
  sections_labelled n s [] xs l = absurd (omega arith)
  sections_labelled n s (r ∷ []) xs l = refl
  sections_labelled n s (r ∷ (q ∷ rs)) xs l = sections_labelled (suc s) s (q ∷ rs) xs (omega arith)

  -- the highest section with rows is the last entry's
  pub sections_are : (low n row byte : ℕ) (ps : List (Part K)) → Proper low ps → sections_from label unlabelled n (flat ps) ≡ top n (directory_of row byte ps)
  sections_are low n row byte [] h = refl
  sections_are low n row byte (p ∷ ps) h =
      sections_labelled n p.number p.rows (flat ps) h.1.some ∙ sections_are (suc p.number) (suc p.number) (row + length p.rows) (byte + stored_bytes p.rows) ps h.2

  top_low : (low : ℕ) (ps : List (Part K)) (row byte : ℕ) → Proper low ps → low ≤ top low (directory_of row byte ps)
  top_low low [] row byte h = omega arith
  top_low low (p ∷ ps) row byte h = let m = top_low (suc p.number) ps (row + length p.rows) (byte + stored_bytes p.rows) h.2 in omega (arith, h.0)

  -- nothing stands behind the highest
  pub none_over : (s low n row byte : ℕ) (ps : List (Part K)) → Proper low ps → top n (directory_of row byte ps) ≤ suc s → over s ps ≡ []
  none_over s low n row byte [] h l = refl
  none_over s low n row byte (p ∷ ps) h l =
      grind (arith, nat_tests, top_low (suc p.number) ps (row + length p.rows) (byte + stored_bytes p.rows) h.2, none_over s (suc p.number) (suc p.number) (row + length p.rows) (byte + stored_bytes p.rows) ps h.2 l)
