-- Rows with zeros behind them, and bytes in good order.
use Rattle.std.proofs.Common.{◌≡◌, ℕ, suc, ◌-◌, ◌≤◌, List, [], ◌∷◌, ◌++◌, length, take, drop, replicate, sym, refl, ap, ◌∙◌, append_assoc, arith, length-append}
use lib.ListN.{length-replicate}
use Rattle.std.proofs.lemmas.List.{drop_at, length-take-le, replicate-append-replicate}
use Rattle.journal.specs.Flat.{Ordered, sections_from}
use Rattle.journal.specs.Log.{LogRow, Rising, Writable, log_bytes, row_bytes, row_len}
use Rattle.log_journal.specs.Kept.{IsLogGood, log_end, kept_row, rows_from, rows_in, section_in}
use Rattle.journal.proofs.Fields.{look_written, length_row}
use Rattle.journal.proofs.ReadBack.{look_zeros}
use Rattle.journal.proofs.GoodRows.{rows_shown, shown_rows}

-- ---- lists of rows

pub log_bytes_append : (xs ys : List LogRow) → log_bytes (xs ++ ys) ≡ log_bytes xs ++ log_bytes ys
log_bytes_append [] ys = refl
log_bytes_append (x ∷ xs) ys = ap (λ bs. row_bytes x ++ bs) (log_bytes_append xs ys) ∙ sym (append_assoc (row_bytes x) (log_bytes xs) (log_bytes ys))

pub rising_front : (w last : ℕ) (xs ys : List LogRow) → Rising w last (xs ++ ys) → Rising w last xs
rising_front w last [] ys h = tt
rising_front w last (x ∷ xs) ys h = (h.0, h.1, rising_front w x.section xs ys h.2)

pub rising_ordered : (w last : ℕ) (xs : List LogRow) → Rising w last xs → Ordered section_in last xs
rising_ordered w last [] h = tt
rising_ordered w last (x ∷ xs) h = (h.1, rising_ordered w x.section xs h.2)

-- one row more, in no lower section than the last
module _ {K : Type 0} (decoding : List ℕ → K) (w : ℕ) (r : LogRow) (ok : Writable w r) where
  rising_behind : (last : ℕ) (xs : List LogRow) → Rising w last xs → sections_from section_in (kept_row decoding) (suc last) xs ≤ suc r.section → Rising w last (xs ++ (r ∷ []))
  rising_behind last [] h top = (ok, omega arith, tt)
  rising_behind last (x ∷ xs) h top = (h.0, h.1, rising_behind x.section xs h.2 top)

  pub rising_more : (xs : List LogRow) → Rising w 0 xs → sections_from section_in (kept_row decoding) 0 xs ≤ suc r.section → Rising w 0 (xs ++ (r ∷ []))
  rising_more [] h top = (ok, omega arith, tt)
  rising_more (x ∷ xs) h top = rising_behind 0 (x ∷ xs) h top

-- ---- rows and zeros

-- rows that were written are the good rows
pub rows_written : (w last n : ℕ) (rs : List LogRow) → Rising w last rs → rows_from w last (log_bytes rs ++ replicate n 0) ≡ rs
rows_written w last n [] h = rows_shown w last 0 (replicate n 0) ∙ ap (shown_rows w (replicate n 0)) (look_zeros w last 0 n)
rows_written w last n (r ∷ rs) h =
    let behind : List ℕ = log_bytes rs ++ replicate n 0 in
    ap (rows_from w last) (append_assoc (row_bytes r) (log_bytes rs) (replicate n 0))
    ∙ rows_shown w last 0 (row_bytes r ++ behind)
    ∙ ap (shown_rows w (row_bytes r ++ behind)) (look_written w r h.0 behind last 0 h.1)
    ∙ ap (λ xs. r ∷ rows_from w r.section xs) (drop_at (row_bytes r) behind (row_len w (length r.value)) (length_row w r h.0 []))
    ∙ ap (λ xs. r ∷ xs) (rows_written w r.section n rs h.2)

-- so bytes that are such rows, and zeros behind them, are in good order
module _ (w n : ℕ) (bs : List ℕ) (rs : List LogRow) (h : Rising w 0 rs) (is : bs ≡ log_bytes rs ++ replicate n 0) where
  pub rows_are : rows_in w bs ≡ rs
  rows_are = ap (rows_in w) is ∙ rows_written w 0 n rs h

  pub good_are : (used : ℕ) → used ≡ length (log_bytes rs) → IsLogGood w bs used
  good_are used end =
      let long : n ≡ length bs - length (log_bytes rs) = omega (arith, ap length is, length-append (log_bytes rs) (replicate n 0), length-replicate {A = ℕ} n 0) in
      record {
        ends = rw rows_are end;
        zeros = rw rows_are (is ∙ ap (λ k. log_bytes rs ++ replicate k 0) long);
        rising = rw rows_are h;
      }

-- and so are rows in front of bytes, once zeros are put behind them up to zeros
module _ (w : ℕ) (rs : List LogRow) (h : Rising w 0 rs) (e to : ℕ) (bs new : List ℕ) (front : take e bs ≡ log_bytes rs) (up : e ≤ to) (within : to ≤ length bs) (behind : drop to bs ≡ replicate (length bs - to) 0)
    (is : new ≡ take e bs ++ (replicate (to - e) 0 ++ drop to bs)) where
  pub zeroed : new ≡ log_bytes rs ++ replicate (length bs - e) 0
  zeroed = rw (is, front, behind, replicate-append-replicate) (ap (λ n. log_bytes rs ++ replicate n 0) (omega arith))

  pub zeroed_rows : rows_in w new ≡ rs
  zeroed_rows = rows_are w (length bs - e) new rs h zeroed

  pub zeroed_good : IsLogGood w new e
  zeroed_good = good_are w (length bs - e) new rs h zeroed e (omega (arith, length-take-le e bs, ap length front))

-- ---- good order, taken apart

module _ {w used : ℕ} {bs : List ℕ} (good : IsLogGood w bs used) where
  pub used_within : used ≤ length bs
  used_within = omega (arith, good.ends, ap length good.zeros, length-append (log_bytes (rows_in w bs)) (replicate (length bs - log_end w bs) 0))

  pub zeros_behind : drop used bs ≡ replicate (length bs - used) 0
  zeros_behind =
      ap (drop used) good.zeros
      ∙ drop_at (log_bytes (rows_in w bs)) (replicate (length bs - log_end w bs) 0) used (sym good.ends)
      ∙ ap (λ m. replicate (length bs - m) 0) (sym good.ends)

  pub split_used : bs ≡ log_bytes (rows_in w bs) ++ drop used bs
  split_used = good.zeros ∙ ap (λ xs. log_bytes (rows_in w bs) ++ xs) (ap (λ m. replicate (length bs - m) 0) (sym good.ends) ∙ sym zeros_behind)
