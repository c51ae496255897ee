-- What a journal knows of its memory, where that holds some sections.
use Rattle.std.proofs.Common.{◌≡◌, ℕ, ◌+◌, ◌-◌, ◌*◌, ◌≤◌, List, ◌++◌, length, take, drop, sym, refl, ap, ◌∙◌, subst, add-mul, mul-le-mul_right, zero-add, le-mul_of_pos_right, arith, length-append}
use Rattle.std.proofs.lemmas.List.{take_at}
use Rattle.journal.specs.Flat.{rows_of}
use Rattle.journal.specs.Rows.{stored_bytes}
use Rattle.split.specs.declared.section.Section.{Section}
use Rattle.split.specs.Directory.{Rising, end_byte, end_row, entry, entry_of, numbers, top}
use Rattle.split.specs.Parts.{Part, Laid, flat, label, unlabelled, parts_mean, rows_at, under, over, row_total, byte_total, directory_of, records_from, records_of, stored_of_rows, values_of}
use Rattle.split.specs.Plans.{IsEntry, entry_at}
use Rattle.split.proofs.Kind.{Kind}
use Rattle.split.proofs.Lengths.{length_records, length_records_from, length_values}
use Rattle.split.proofs.Around.{entry_is, end_row_is, end_byte_is, rising, rows_flat, sections_are}
use Rattle.split.proofs.Standing.{Fit, bytes_sum, fit_at, records_behind, rows_sum, values_from}

module _ {K : Type 0} {bytes : K → List ℕ} {w used : ℕ} {directory : List Section} {records values : List ℕ} {ps : List (Part K)} {decoding : List ℕ → K} (key : Kind bytes w decoding) (h : Laid bytes w used directory records values ps) where
  rows_stand : row_total ps * (w + 28) ≤ length records
  rows_stand = omega (arith, ap length h.recorded, length-append (records_of bytes ps) (drop (row_total ps * (w + 28)) records), length_records key ps)

  bytes_stand : byte_total ps ≤ length values
  bytes_stand = omega (arith, ap length h.kept, length-append (values_of ps) (drop (byte_total ps) values), length_values ps)

  pub rows_mean : (s : ℕ) → rows_of label unlabelled s (flat ps) ≡ rows_at s ps
  rows_mean s = rows_flat s 0 ps h.proper

  -- ---- its entries

  pub record Ready (ds : List Section) : Type 0 where
    pub entries : ds ≡ directory_of 0 0 ps
    pub highest : top 0 ds ≡ (parts_mean ps).sections
    pub rising : Rising 0 (numbers ds)
    pub row : end_row 0 ds ≤ length records
    pub byte : end_byte 0 ds ≤ length values

  pub ready : Ready (take used directory)
  ready = subst Ready (sym h.entries) (record {
    entries = refl;
    highest = sym (sections_are 0 0 0 0 ps h.proper);
    rising = rising 0 0 0 ps h.proper;
    row = omega (arith, end_row_is 0 0 ps, rows_stand, le-mul_of_pos_right {m = w + 28} (row_total ps) (omega arith));
    byte = omega (arith, end_byte_is 0 0 ps, bytes_stand);
  })

  -- ---- where they end

  pub record Ends (rows size end : ℕ) : Type 0 where
    pub row : rows * size ≡ row_total ps * (w + 28)
    pub byte : end ≡ byte_total ps
    pub within : (rows * size ≤ length records) × (end ≤ length values)

  pub ends : {ds : List Section} {rows size end : ℕ} → ds ≡ directory_of 0 0 ps → rows ≡ end_row 0 ds → size ≡ w + 28 → end ≡ end_byte 0 ds → Ends rows size end
  ends {rows = rows} {size = size} e r long b =
      let count = r ∙ ap (end_row 0) e ∙ end_row_is 0 0 ps ∙ zero-add (row_total ps) in
      let sum = b ∙ ap (end_byte 0) e ∙ end_byte_is 0 0 ps ∙ zero-add (byte_total ps) in
      let all : rows * size ≡ row_total ps * (w + 28) = λ i. count i * long i in
      record { row = all; byte = sum; within = (omega (arith, all, rows_stand), omega (arith, sum, bytes_stand)) }

  -- ---- an entry

  pub record Known (s : ℕ) (d : Section) : Type 0 where
    pub number : d.number ≡ s
    pub own : IsEntry ps d
    pub rows : d.rows ≡ length ((parts_mean ps).rows s)
    pub bytes_in : d.bytes ≡ stored_bytes ((parts_mean ps).rows s)
    pub records_within : d.first_row * (w + 28) + d.rows * (w + 28) ≤ length records
    pub values_within : d.first_byte + d.bytes ≤ length values

  here : (s : ℕ) → Known s (entry_at s ps)
  here s =
      let sum = rows_sum s 0 ps h.proper in
      let own = mul-le-mul_right {m = row_total (under s ps) + length (rows_at s ps)} {n = row_total ps} (w + 28) (omega arith) in
      record {
        number = refl;
        own = refl;
        rows = ap length (sym (rows_mean s));
        bytes_in = ap stored_bytes (sym (rows_mean s));
        records_within = omega (arith, rows_stand, own, add-mul (row_total (under s ps)) (length (rows_at s ps)) (w + 28));
        values_within = omega (arith, bytes_sum s 0 ps h.proper, bytes_stand);
      }

  pub known_own : (d : Section) → IsEntry ps d → Known d.number d
  known_own d e = subst (Known d.number) (sym e) (here d.number)

  pub known : (s : ℕ) {d : Section} {ds : List Section} → ds ≡ directory_of 0 0 ps → d ≡ entry_of s 0 0 ds → Known s d
  known s es e =
      let is = e ∙ ap (entry_of s 0 0) es ∙ entry_is s 0 0 0 ps h.proper in
      subst (Known s) (sym (is ∙ (λ i. entry s (zero-add (row_total (under s ps)) i) (zero-add (byte_total (under s ps)) i) (length (rows_at s ps)) (stored_bytes (rows_at s ps))))) (here s)

  pub fit : (s : ℕ) → Fit ((parts_mean ps).rows s)
  fit s = subst Fit (sym (rows_mean s)) (fit_at s 0 ps h.proper)

  -- ---- what stands in the memory for it

  own_records : (s : ℕ) → take (length (rows_at s ps) * (w + 28)) (drop (row_total (under s ps) * (w + 28)) records) ≡ records_from bytes 0 ((parts_mean ps).rows s)
  own_records s =
      ap (take (length (rows_at s ps) * (w + 28))) (records_behind key s 0 ps h.proper records _ h.recorded)
      ∙ take_at (records_from bytes 0 (rows_at s ps)) _ _ (length_records_from key 0 (rows_at s ps)) ∙ ap (records_from bytes 0) (sym (rows_mean s))

  pub records_own : (d : Section) (width : ℕ) → IsEntry ps d → width ≡ w → take (d.first_row * (width + 28) + d.rows * (width + 28) - d.first_row * (width + 28)) (drop (d.first_row * (width + 28)) records) ≡ records_from bytes 0 ((parts_mean ps).rows d.number)
  records_own d width e wide =
      let s = d.number in
      let long : d.first_row * (width + 28) + d.rows * (width + 28) - d.first_row * (width + 28) ≡ d.rows * (width + 28) = omega arith in
      ap (λ n. take n (drop (d.first_row * (width + 28)) records)) long
      ∙ (λ i. take ((e i).rows * (wide i + 28)) (drop ((e i).first_row * (wide i + 28)) records)) ∙ own_records s

  pub records_there : (d : Section) (width : ℕ) → IsEntry ps d → width ≡ w → d.rows * (width + 28) ≤ length (take (d.first_row * (width + 28) + d.rows * (width + 28) - d.first_row * (width + 28)) (drop (d.first_row * (width + 28)) records))
  records_there d width e wide =
      let k = known_own d e in
      let rows : d.rows * (width + 28) ≡ length ((parts_mean ps).rows d.number) * (w + 28) = λ i. k.rows i * (wide i + 28) in
      omega (arith, ap length (records_own d width e wide), length_records_from key 0 ((parts_mean ps).rows d.number))

  -- the stored values from its own on
  unfoldable pub behind : ℕ → List ℕ
  behind s = values_of (over s ps) ++ drop (byte_total ps) values

  pub values_own : (d : Section) → IsEntry ps d → drop d.first_byte values ≡ stored_of_rows ((parts_mean ps).rows d.number) ++ behind d.number
  unfolding behind
  values_own d e =
      ap (λ (d : Section). drop d.first_byte values) e ∙ values_from d.number 0 ps h.proper values _ h.kept
      ∙ ap (λ rows. stored_of_rows rows ++ behind d.number) (sym (rows_mean d.number))
