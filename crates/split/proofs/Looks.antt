-- What the records of a section say of its rows.
use Rattle.std.proofs.Common.{◌≡◌, ℕ, zero, suc, ◌+◌, ◌-◌, ◌*◌, ◌<◌, ◌≤◌, Bool, true, false, List, [], ◌∷◌, ◌++◌, length, get_or, take, drop, is_some, Some, None, Ok, Err, Option, Result, sym, refl, ap, ◌∙◌, subst, append-nil, zero-add, arith}
use Rattle.std.proofs.lemmas.List.{drop-drop}
use Rattle.journal.specs.declared.fault.JournalFault.{JournalFault}
use Rattle.journal.specs.declared.fault.JournalFault.TheVariants.{NoRow}
use Rattle.journal.specs.declared.record.Record.{Record}
use Rattle.journal.specs.Answers.{get_answer, or_no_row, record_of, record_there}
use Rattle.journal.specs.Layouts.{RecordFits, record_encoding}
use Rattle.journal.specs.Places.{place}
use Rattle.journal.specs.Rows.{Row, row_at, stored_at, stored_bytes}
use Rattle.split.specs.Directory.{Rising}
use Rattle.split.specs.declared.section.Section.{Section}
use Rattle.split.specs.Parts.{Part, Laid, RowFits, RowsFit, parts_mean, records_from, rows_at, stored_of_rows}
use Rattle.split.specs.Plans.{IsEntry}
use Rattle.split.specs.Places.{has_place, offsets, sizes}
use Rattle.split.proofs.Kind.{Kind}
use Rattle.split.proofs.Reread.{record_fits}
use Rattle.split.proofs.Rows.{held, lengths, lies, records_say, starts, starts_rise}
use Rattle.split.proofs.Ready.{behind, fit, known_own, rows_mean, values_own}
use Rattle.split.proofs.Standing.{Fit, record_at, row_past, row_there, starts_at}

some_there : {A : Type 0} (o : Option A) → is_some o ≡ true → (x : A) × (o ≡ Some x)
some_there (Some x) e = (x, refl)
some_there None e = absurd (cc)

none_there : {A : Type 0} (o : Option A) → is_some o ≡ false → o ≡ None
none_there (Some x) e = absurd (cc)
none_there None e = refl

module _ {K : Type 0} where
  fit_row : (rows : List (Row K)) (p : ℕ) (r : Row K) → RowsFit rows → row_at rows p ≡ Some r → RowFits r × (stored_bytes (take p rows) + length r.stored ≤ stored_bytes rows)
  fit_row [] p r f e = absurd (cc)
  fit_row (q ∷ rs) zero r f e = let same : q ≡ r = cc in (subst RowFits same f.0, omega (arith, ap (λ (x : Row K). length x.stored) same))
  fit_row (q ∷ rs) (suc p) r f e = let rest = fit_row rs p r f.1 e in (rest.0, omega (arith, rest.1))

  pub no_row : (rows : List (Row K)) (s p : ℕ) → length rows ≤ p → ◌≡◌ {A = Result (Record K) JournalFault} (Err (NoRow (place s p))) (or_no_row s p (record_there rows p (row_at rows p)))
  no_row rows s p l = sym (ap (λ (o : Option (Row K)). or_no_row s p (record_there rows p o)) (row_past rows p l))

module _ {K : Type 0} {bytes : K → List ℕ} {w : ℕ} {decoding : List ℕ → K} (key : Kind bytes w decoding) {rows : List (Row K)} (fit : Fit rows)
    (own : List ℕ) (width : ℕ) (are : own ≡ records_from bytes 0 rows) (wide : width ≡ w) where
  -- ---- a record by its position

  row_of : (s p : ℕ) (q : Record K) → p < length rows → ((r : Record K) → RecordFits r → record_encoding bytes r ≡ take (width + 28) (drop (p * (width + 28)) own) → q ≡ r) → Ok q ≡ or_no_row s p (record_there rows p (row_at rows p))
  row_of s p q l one =
      let found = row_there rows p l in
      let r = found.0 in
      let good = fit_row rows p r fit.each found.1 in
      let offset = stored_bytes (take p rows) in
      let is : q ≡ record_of offset r =
      one (record_of offset r) (record_fits offset r good.0 (omega (arith, good.1, fit.bounded)))
      (sym ((λ i. take (wide i + 28) (drop (p * (wide i + 28)) ((are ∙ sym (append-nil (records_from bytes 0 rows))) i))) ∙ record_at key 0 p rows r [] found.1 ∙ ap (λ n. record_encoding bytes (record_of n r)) (zero-add offset))) in
      ap Ok is ∙ sym (ap (λ (o : Option (Row K)). or_no_row s p (record_there rows p o)) found.1)

  -- ---- a row by the place of its value

  module _ (n : ℕ) (count : n ≡ length rows) where
    said : (offsets width n own ≡ starts 0 rows) × (sizes width n own ≡ lengths rows)
    said =
        let all : own ≡ records_from bytes 0 rows ++ [] = are ∙ sym (append-nil (records_from bytes 0 rows)) in
        let e = records_say key 0 rows [] fit.each (omega (arith, fit.bounded)) in
        ((λ i. offsets (wide i) (count i) (all i)) ∙ e.0, (λ i. sizes (wide i) (count i) (all i)) ∙ e.1)

    pub offsets_rise : Rising 0 (offsets width n own)
    offsets_rise = subst (Rising 0) (sym said.0) (starts_rise 0 0 rows fit.each (omega arith))

    pub offset_is : (p : ℕ) → p < length rows → get_or (offsets width n own) p 0 ≡ stored_bytes (take p rows)
    offset_is p l = ap (λ os. get_or os p 0) said.0 ∙ starts_at 0 p 0 rows l ∙ omega arith

    places : (offset size : ℕ) → has_place offset size (offsets width n own) (sizes width n own) ≡ is_some (stored_at 0 rows offset size)
    places offset size = (λ i. has_place offset size (said.0 i) (said.1 i)) ∙ held 0 offset size rows fit.each

-- ---- the records of an entry

module _ {K : Type 0} {bytes : K → List ℕ} {w used : ℕ} {directory : List Section} {records values : List ℕ} {ps : List (Part K)} {decoding : List ℕ → K} (key : Kind bytes w decoding) (h : Laid bytes w used directory records values ps)
    {s : ℕ} {d : Section} (entry : IsEntry ps d) (number : d.number ≡ s) {recs : List ℕ} {width n : ℕ} (are : recs ≡ records_from bytes 0 ((parts_mean ps).rows d.number)) (wide : width ≡ w) (count : n ≡ d.rows) where
  mean : recs ≡ records_from bytes 0 ((parts_mean ps).rows s)
  mean = are ∙ ap (λ n. records_from bytes 0 ((parts_mean ps).rows n)) number

  all : n ≡ length ((parts_mean ps).rows s)
  all = count ∙ (known_own key h d entry).rows ∙ ap (λ n. length ((parts_mean ps).rows n)) number

  pub got : {p : ℕ} {q : Record K} {part : List ℕ} → p < d.rows → part ≡ take (width + 28) (drop (p * (width + 28)) recs) → ((r : Record K) → RecordFits r → record_encoding bytes r ≡ part → q ≡ r) → Ok q ≡ get_answer (parts_mean ps) s p
  got {p} {q} l is one = row_of key (fit key h s) recs width mean wide s p q (omega (arith, all, count)) (λ r f e. one r f (e ∙ sym is))

  pub ends_at : {p q : ℕ} → p < d.rows → q ≡ get_or (offsets width n recs) p 0 → q ≡ stored_bytes (take p (rows_at s ps))
  ends_at {p} l is = is ∙ offset_is key (fit key h s) recs width mean wide n all p (omega (arith, all, count)) ∙ ap (λ (rows : List (Row K)). stored_bytes (take p rows)) (rows_mean key h s)

  module _ (offset size : ℕ) {answer : Bool} (is : answer ≡ has_place offset size (offsets width n recs) (sizes width n recs)) where
    there : answer ≡ is_some (stored_at 0 ((parts_mean ps).rows s) offset size)
    there = is ∙ places key (fit key h s) recs width mean wide n all offset size

    pub absent : answer ≡ false → None ≡ stored_at 0 ((parts_mean ps).rows s) offset size
    absent none = sym (none_there (stored_at 0 ((parts_mean ps).rows s) offset size) (sym there ∙ none))

    pub record Present : Type 0 where
      pub within : d.first_byte + offset + size ≤ length values
      pub stored : Some (take (d.first_byte + offset + size - (d.first_byte + offset)) (drop (d.first_byte + offset) values)) ≡ stored_at 0 ((parts_mean ps).rows s) offset size

    pub present : answer ≡ true → Present
    present has =
        let rows = (parts_mean ps).rows s in
        let rest = behind key h s in
        let found = some_there (stored_at 0 rows offset size) (sym there ∙ has) in
        let l = lies 0 offset size rows found.0 rest found.1 in
        let none : offset ≡ offset - 0 = omega arith in
        let long : d.first_byte + offset + size - (d.first_byte + offset) ≡ size = omega arith in
        let own : drop d.first_byte values ≡ stored_of_rows rows ++ rest = values_own key h d entry ∙ ap (λ n. stored_of_rows ((parts_mean ps).rows n) ++ behind key h n) number in
        let k = known_own key h d entry in
        record {
          within = omega (arith, l.within, k.values_within, k.bytes_in, ap (λ n. stored_bytes ((parts_mean ps).rows n)) number);
          stored =
              ap Some ((λ i. take (long i) (drop (d.first_byte + offset) values)) ∙ ap (take size) (sym (drop-drop offset d.first_byte values) ∙ (λ i. drop (none i) (own i))) ∙ l.slice)
              ∙ sym found.1;
        }
