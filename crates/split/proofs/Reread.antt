-- What the memory of some sections is read as: those sections.
use Rattle.std.proofs.Common.{◌≡◌, ℕ, suc, ◌+◌, ◌*◌, ◌^◌, ◌≤◌, List, [], ◌∷◌, ◌++◌, length, take, drop, sym, refl, ap, ◌∙◌, subst, append_assoc, arith}
use Rattle.std.proofs.lemmas.List.{take_at, drop_at}
use Rattle.journal.specs.Answers.{record_of}
use Rattle.journal.specs.Layouts.{RecordFits, record_encoding, record_read}
use Rattle.journal.specs.Rows.{Row, stored_bytes}
use Rattle.journal.proofs.ReadRecord.{length_record, read_encoded}
use Rattle.split.specs.declared.section.Section.{Section}
use Rattle.split.specs.Parts.{Part, part, RowFits, RowsFit, Proper, Laid, directory_of, row_with, rows_read, parts_read, stored_of_rows, values_of, records_from, records_of}
use Rattle.split.proofs.Kind.{Kind}
use Rattle.split.proofs.Lengths.{length_stored_rows, length_records_from}

pub record_fits : {K : Type 0} (offset : ℕ) (r : Row K) → RowFits r → offset + length r.stored ≤ 2 ^ 63 → RecordFits (record_of offset r)
record_fits offset r f h = (f.next_section_fits, f.next_position_fits, omega arith, f.size_fits)

module _ {K : Type 0} {bytes : K → List ℕ} {w : ℕ} {decoding : List ℕ → K} (key : Kind bytes w decoding) where
  rows_back : (offset : ℕ) (rows : List (Row K)) → RowsFit rows → offset + stored_bytes rows ≤ 2 ^ 63 → (x y : List ℕ) →
      rows_read decoding w (length rows) (records_from bytes offset rows ++ x) (stored_of_rows rows ++ y) ≡ rows
  rows_back offset [] f h x y = refl
  rows_back offset (r ∷ rs) f h x y =
      let enc : List ℕ = record_encoding bytes (record_of offset r) in
      let more : List ℕ = records_from bytes (offset + length r.stored) rs in
      let values : List ℕ = stored_of_rows rs ++ y in
      let e : (enc ++ more) ++ x ≡ enc ++ (more ++ x) = append_assoc enc more x in
      let v : (r.stored ++ stored_of_rows rs) ++ y ≡ r.stored ++ values = append_assoc r.stored (stored_of_rows rs) y in
      let read : record_read decoding w (enc ++ (more ++ x)) ≡ record_of offset r =
      read_encoded bytes w key.sized decoding key.back (record_of offset r) (record_fits offset r f.0 (omega arith)) (more ++ x) in
      let front : row_with (record_of offset r) (r.stored ++ values) ≡ r = λ i. record {
        key = r.key;
        next_section = r.next_section;
        next_position = r.next_position;
        stored = take_at r.stored values (length r.stored) refl i;
      } in
      let recs : drop (w + 28) (enc ++ (more ++ x)) ≡ more ++ x = drop_at enc (more ++ x) (w + 28) (length_record bytes w key.sized (record_of offset r)) in
      let vals : drop (length r.stored) (r.stored ++ values) ≡ values = drop_at r.stored values (length r.stored) refl in
      (λ i. rows_read decoding w (suc (length rs)) (e i) (v i))
      ∙ (λ i. row_with (read i) (r.stored ++ values) ∷ rows_read decoding w (length rs) (drop (w + 28) (enc ++ (more ++ x))) (drop (read i).value_size (r.stored ++ values)))
      ∙ (λ i. front i ∷ rows_read decoding w (length rs) (recs i) (vals i))
      ∙ ap (λ l. r ∷ l) (rows_back (offset + length r.stored) rs f.1 (omega arith) x y)

  parts_back : (low row byte : ℕ) (ps : List (Part K)) → Proper low ps → (x y : List ℕ) → parts_read decoding w (directory_of row byte ps) (records_of bytes ps ++ x) (values_of ps ++ y) ≡ ps
  parts_back low row byte [] h x y = refl
  parts_back low row byte (p ∷ ps) h x y =
      let recs : List ℕ = records_from bytes 0 p.rows in
      let vals : List ℕ = stored_of_rows p.rows in
      let e : (recs ++ records_of bytes ps) ++ x ≡ recs ++ (records_of bytes ps ++ x) = append_assoc recs (records_of bytes ps) x in
      let v : (vals ++ values_of ps) ++ y ≡ vals ++ (values_of ps ++ y) = append_assoc vals (values_of ps) y in
      let r : drop (length p.rows * (w + 28)) (recs ++ (records_of bytes ps ++ x)) ≡ records_of bytes ps ++ x = drop_at recs _ _ (length_records_from key 0 p.rows) in
      let b : drop (stored_bytes p.rows) (vals ++ (values_of ps ++ y)) ≡ values_of ps ++ y = drop_at vals _ _ (length_stored_rows p.rows) in
      let next : List Section = directory_of (row + length p.rows) (byte + stored_bytes p.rows) ps in
      (λ i. parts_read decoding w (directory_of row byte (p ∷ ps)) (e i) (v i))
      ∙ (λ i. part p.number (rows_back 0 p.rows h.1.each (omega (arith, h.1.bounded)) (records_of bytes ps ++ x) (values_of ps ++ y) i) ∷ parts_read decoding w next (r i) (b i))
      ∙ ap (λ l. p ∷ l) (parts_back (suc p.number) (row + length p.rows) (byte + stored_bytes p.rows) ps h.2 x y)

  pub reread : {used : ℕ} {directory : List Section} {records values : List ℕ} {ps : List (Part K)} → Laid bytes w used directory records values ps → parts_read decoding w (take used directory) records values ≡ ps
  reread {ps = ps} h =
      (λ i. parts_read decoding w (h.entries i) (h.recorded i) (h.kept i)) ∙ parts_back 0 0 0 ps h.proper _ _

  -- so a journal over such memory is in good order
  pub regood : {used : ℕ} {directory : List Section} {records values : List ℕ} {ps : List (Part K)} → Laid bytes w used directory records values ps →
      Laid bytes w used directory records values (parts_read decoding w (take used directory) records values)
  regood {used} {directory} {records} {values} h = subst (Laid bytes w used directory records values) (sym (reread h)) h
