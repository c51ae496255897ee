-- What a reader of some bytes gives: the good rows at their front.
use Rattle.std.proofs.Common.{◌≡◌, ℕ, ◌+◌, ◌*◌, ◌≤◌, eqb, List, [], ◌∷◌, length, map, drop, Some, Option, Fits, w8, get_or, refl, ap, add-mul, arith, length-append}
use Rattle.std.specs.List.{last_or, sum_by}
use Rattle.std.specs.Option.{option_map}
use Rattle.std.specs.Int.Digits.{AllBelowBase}
use Rattle.std.proofs.lemmas.Bool.{cond_both}
use Rattle.std.proofs.lemmas.List.Recursion.{is_sum_by}
use Rattle.codec.specs.Rounds.{under_of}
use Rattle.journal.specs.declared.row.RowView.{RowView}
use Rattle.journal.specs.Flat.{cut, sections_from}
use Rattle.journal.specs.Log.{LogRow, Rising, log_bytes, row_len, row_shown}
use Rattle.journal.specs.Rows.{stored_bytes}
use Rattle.journal.proofs.Flat.{cut_front}
use Rattle.journal.proofs.Lengths.{length_first}
use Rattle.journal.proofs.StoredBack.{length_stored}
use Rattle.log_journal.specs.Kept.{kept_row, log_end, rows_in, section_in}
use Rattle.log_journal.proofs.Filled.{log_bytes_append}
use Rattle.log_journal.proofs.Sections.{above, of_section}
use Rattle.log_journal.proofs.Split.{rows_front, rows_rising}

-- how many bytes a row takes
abbrev pub size_in : LogRow → ℕ
size_in r = row_len (length r.key) (length r.value)

pub sizes : (rs : List LogRow) → length (log_bytes rs) ≡ sum_by size_in rs
sizes = is_sum_by (λ rs. length (log_bytes rs)) size_in refl (λ r rs. length_first (length r.key) r rs refl)

pub octets : (bs : List ℕ) → ((i : ℕ) → Fits w8 (get_or bs i 0)) → AllBelowBase 256 bs
octets bs u = under_of bs (λ i. (u i).fits)

-- the rows lie within the bytes
pub end_within : (w : ℕ) (bs : List ℕ) → ((i : ℕ) → Fits w8 (get_or bs i 0)) → log_end w bs ≤ length bs
end_within w bs u = let f = ap length (rows_front w bs (octets bs u) (log_end w bs) refl) in omega (arith, length-append (log_bytes (rows_in w bs)) (drop (log_end w bs) bs))

-- the section of the last row
abbrev seen : Option RowView → Option ℕ
seen o = option_map (λ v. v.section) o

pub last_seen : {K : Type 0} (decoding : List ℕ → K) (o : Option RowView) (xs : List RowView) → above (seen (last_or o xs)) ≡ sections_from section_in (kept_row decoding) (above (seen o)) (map row_shown xs)
last_seen decoding o [] = refl
last_seen decoding o (x ∷ xs) = last_seen decoding (Some x) xs

-- the rows of a section lie within the bytes too
module _ {K : Type 0} (decoding : List ℕ → K) (s w : ℕ) where
  rows_within : (last : ℕ) (rs : List LogRow) → Rising w last rs → length (of_section decoding s rs) * (w + 28) + stored_bytes (of_section decoding s rs) ≤ length (log_bytes rs)
  rows_within last [] h = omega arith
  rows_within last (r ∷ rs) h =
      let on = rows_within r.section rs h.2 in
      let first = length_first w r rs h.0.key_width in
      cond_both (eqb r.section s) _ _ (λ xs. length xs * (w + 28) + stored_bytes xs ≤ length (log_bytes (r ∷ rs)))
      (λ _. omega (arith, length_stored r.value, add-mul 1 (length (of_section decoding s rs)) (w + 28)))
      (λ _. omega arith)

  pub section_within : (bs : List ℕ) → ((i : ℕ) → Fits w8 (get_or bs i 0)) → length (of_section decoding s (rows_in w bs)) * (w + 28) + stored_bytes (of_section decoding s (rows_in w bs)) ≤ length bs
  section_within bs u = let e = end_within w bs u in let h = rows_within 0 (rows_in w bs) (rows_rising w bs (octets bs u)) in omega arith

-- and so do those that a cut keeps
pub cut_within : (w s n : ℕ) (bs : List ℕ) → ((i : ℕ) → Fits w8 (get_or bs i 0)) → length (log_bytes (cut section_in s n (rows_in w bs))) ≤ length bs
cut_within w s n bs u =
    let kept = cut section_in s n (rows_in w bs) in
    let front = cut_front section_in s n (rows_in w bs) in
    let long = ap (λ rs. length (log_bytes rs)) front.1 in
    let apart = ap length (log_bytes_append kept front.0) in
    let within = end_within w bs u in
    omega (arith, length-append (log_bytes kept) (log_bytes front.0))
