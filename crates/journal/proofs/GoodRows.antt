-- The good rows at the front of bytes, one by one.
use Rattle.std.proofs.Common.{◌≡◌, ℕ, zero, suc, ◌≤◌, true, false, cond, List, [], ◌∷◌, length, drop, refl, ap, arith, length-drop}
use Rattle.std.proofs.Math.Seq.{drop-length}
use Rattle.std.proofs.lemmas.Bool.Decides.{nat_tests}
use Rattle.journal.specs.Log.{LogRow, Shown, row, blank, spoiled, is_blank, is_row, log_rows, look, row_of, row_len, rows_from, section_of, value_of}

-- fuel beyond the length of the bytes makes no difference
same_fuel : (f g w last : ℕ) (bs : List ℕ) → length bs ≤ f → length bs ≤ g → log_rows f w last bs ≡ log_rows g w last bs
unfolding log_rows
same_fuel zero zero w last bs h k = refl
same_fuel zero (suc g) w last [] h k = refl
same_fuel zero (suc g) w last (b ∷ bs) h k = absurd (omega arith)
same_fuel (suc f) zero w last [] h k = refl
same_fuel (suc f) zero w last (b ∷ bs) h k = absurd (omega arith)
same_fuel (suc f) (suc g) w last bs h k =
    let n = row_len w (length (value_of w bs)) in
    let l = length-drop n bs in
    ap (λ rs. cond (is_row w last bs) (row_of w bs ∷ rs) []) (same_fuel f g w (section_of bs) (drop n bs) (omega arith) (omega arith))

-- the first row, and those behind it
pub unfold_rows : (w last : ℕ) (bs : List ℕ) →
    rows_from w last bs ≡ cond (is_row w last bs) (row_of w bs ∷ rows_from w (section_of bs) (drop (row_len w (length (value_of w bs))) bs)) []
unfolding log_rows
unfold_rows w last [] = refl
unfold_rows w last (b ∷ bs) =
    let n = row_len w (length (value_of w (b ∷ bs))) in
    let l = length-drop n (b ∷ bs) in
    ap (λ rs. cond (is_row w last (b ∷ bs)) (row_of w (b ∷ bs) ∷ rs) []) (same_fuel (length bs) (length (drop n (b ∷ bs))) w (section_of (b ∷ bs)) (drop n (b ∷ bs)) (omega arith) (omega arith))

-- the rows that stand where a reader shows this
abbrev pub shown_rows : ℕ → List ℕ → Shown → List LogRow
shown_rows w bs (row at r) = r ∷ rows_from w r.section (drop (row_len w (length r.value)) bs)
shown_rows w bs (blank at) = []
shown_rows w bs (spoiled at) = []

blank_no_row : (w last : ℕ) (bs : List ℕ) → is_blank bs ≡ true → is_row w last bs ≡ false
blank_no_row w last bs h = grind (arith, nat_tests)

-- so a reader that steps over them shows each in turn
pub rows_shown : (w last at : ℕ) (bs : List ℕ) → rows_from w last bs ≡ shown_rows w bs (look w last at bs)
rows_shown w last at bs =
    let first = unfold_rows w last bs in
    let none = blank_no_row w last bs in
    grind arith

-- behind all bytes there are none
pub no_bytes : (w last : ℕ) (bs : List ℕ) → rows_from w last (drop (length bs) bs) ≡ []
unfolding log_rows
no_bytes w last bs = ap (rows_from w last) (drop-length bs)
