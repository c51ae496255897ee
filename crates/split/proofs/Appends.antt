-- What append answers and leaves, where the memory holds some sections.
use Rattle.std.proofs.Common.{◌≡◌, ℕ, suc, ◌+◌, ◌-◌, ◌*◌, ◌^◌, ◌<◌, ◌≤◌, Bool, true, false, ◌&&◌, ◌||◌, ltb, leb, List, [], ◌∷◌, ◌++◌, length, set, None, Ok, sym, refl, ap, ◌∙◌, subst, ⊎_elim, suc-mul, le-mul_of_pos_right, arith}
use borrow.Rule.Slice.PartMut.{put_mid}
use Rattle.std.proofs.lemmas.Bool.{and_parts, leb-true, ltb-false, ltb-true, or_cases}
use Rattle.journal.specs.Answers.{answered, append_after, append_answer, unless}
use Rattle.journal.specs.Flat.{flat_means}
use Rattle.journal.specs.Layouts.{record_encoding, record_with}
use Rattle.journal.specs.Rows.{Row, append, append_fault, apply, in_bounds, later_than, stored_bytes, stored_of}
use Rattle.journal.proofs.Flat.{flat_append}
use Rattle.journal.proofs.StoredBack.{length_stored}
use Rattle.journal.proofs.Tells.{answered_ok, append_tells}
use Rattle.split.specs.declared.place.Spot.{Spot}
use Rattle.split.specs.declared.section.Section.{Section}
use Rattle.split.specs.Directory.{entry}
use Rattle.split.specs.Parts.{Part, Laid, IsSplitGood, byte_total, flat, has_space, label, over, parts_mean, row_total, rows_at, split_means, unlabelled}
use Rattle.split.specs.Plans.{at_entry, entry_with, place_of}
use Rattle.split.proofs.Kind.{Kind}
use Rattle.split.proofs.Around.{none_over, sections_are}
use Rattle.split.proofs.Changes.{appended, flat_added, inside, kept, recorded, standing, with_rows}
use Rattle.split.proofs.Ready.{rows_mean}
use Rattle.split.proofs.Reread.{regood, reread}
use Rattle.split.proofs.Standing.{rows_sum}

module _ {K : Type 0} {bytes : K → List ℕ} {w used : ℕ} {directory : List Section} {records values : List ℕ} {ps : List (Part K)} {decoding : List ℕ → K} (key : Kind bytes w decoding) (h : Laid bytes w used directory records values ps) (s : ℕ) where
  -- the journal's own rule, for a value of so many bytes
  abbrev space : ℕ → Bool
  space len = has_space (length records) (length values) (ltb 0 (length (rows_at s ps)) || ltb used (length directory)) (w + 28) (row_total ps) (byte_total ps) (len + 4)

  module _ (len : ℕ) {p : Spot} (planned : Ok p ≡ answered (append_fault (space len) (w + 28) (parts_mean ps) s (len + 4)) (place_of s ps w)) where
    told : (append_fault (space len) (w + 28) (parts_mean ps) s (len + 4) ≡ None) × (p ≡ place_of s ps w)
    told = answered_ok _ _ p planned

    tells : (later_than s (parts_mean ps) ≡ false) × ((space len && in_bounds (w + 28) (parts_mean ps) s (len + 4)) ≡ true)
    tells = append_tells (w + 28) (parts_mean ps) s (space len) (len + 4) told.0

    room : (space len ≡ true) × (in_bounds (w + 28) (parts_mean ps) s (len + 4) ≡ true)
    room = and_parts (space len) _ tells.1

    rows_room : length (rows_at s ps) + 1 ≤ length records
    rows_room =
        let all = leb-true (suc (row_total ps) * (w + 28)) (length records) (and_parts (leb (suc (row_total ps) * (w + 28)) (length records)) _ room.0).0 in
        omega (arith, all, suc-mul (row_total ps) (w + 28), rows_sum s 0 ps h.proper, le-mul_of_pos_right {m = w + 28} (row_total ps) (omega arith))

    bound : stored_bytes (rows_at s ps) + (len + 4) ≤ 2 ^ 63
    bound =
        let within = leb-true (stored_bytes ((parts_mean ps).rows s) + (len + 4)) (2 ^ 63) (and_parts (leb (suc (length ((parts_mean ps).rows s)) * (w + 28)) (2 ^ 63)) _ room.1).1 in
        omega (arith, ap stored_bytes (rows_mean key h s))

    within : at_entry s ps < length directory
    within =
        ⊎_elim
        (λ t. omega (arith, inside key h s (ltb-true _ _ t), h.within))
        (λ t. omega (arith, standing key h s, ltb-true _ _ t))
        (or_cases (ltb 0 (length (rows_at s ps))) (ltb used (length directory)) (and_parts _ _ (and_parts (leb (suc (row_total ps) * (w + 28)) (length records)) _ room.0).1).1)

    highest : over s ps ≡ []
    highest = none_over s 0 0 0 0 ps h.proper (omega (arith, ltb-false _ _ tells.0, sections_are 0 0 0 0 ps h.proper))

    -- where it goes
    pub record Placed : Type 0 where
      pub at : p.at < length directory
      pub rows : p.entry.rows + 1 ≤ length records
      pub stored : p.entry.bytes + (len + 4) ≤ 2 ^ 63

    pub placed : Placed
    placed = record {
      at = omega (arith, within, ap (λ (p : Spot). p.at) told.1);
      rows = omega (arith, rows_room, ap (λ (p : Spot). p.entry.rows) told.1);
      stored = omega (arith, bound, ap (λ (p : Spot). p.entry.bytes) told.1);
    }

    -- ---- the memory afterwards

    abbrev directory_then : Spot → List Section
    directory_then p = set directory p.at (entry p.entry.number p.entry.first_row p.entry.first_byte (p.entry.rows + 1) (p.entry.bytes + (len + 4)))

    abbrev records_then : Spot → ℕ → List ℕ → List ℕ
    records_then p size recs = put_mid p.row (p.row + size - p.row) records recs

    abbrev values_then : Spot → List ℕ → List ℕ
    values_then p vals = put_mid p.byte (p.byte + (len + 4) - p.byte) values vals

    -- the record alone, then the value too
    pub good_recorded : {size : ℕ} (recs : List ℕ) → size ≡ w + 28 → length recs ≡ size → IsSplitGood decoding w used directory (records_then p size recs) values bytes
    good_recorded {size} recs wide long =
        subst (λ (p : Spot). IsSplitGood decoding w used directory (records_then p size recs) values bytes) (sym told.1) (regood key (recorded key h recs (omega arith)))

    pub good_kept : {size : ℕ} (recs vals : List ℕ) → size ≡ w + 28 → length recs ≡ size → length vals ≡ len + 4 → IsSplitGood decoding w used directory (records_then p size recs) (values_then p vals) bytes
    good_kept {size} recs vals wide long stored =
        subst (λ (p : Spot). IsSplitGood decoding w used directory (records_then p size recs) (values_then p vals) bytes) (sym told.1) (regood key (kept key (recorded key h recs (omega arith)) vals (omega arith)))

    module _ (k : K) (ns np : ℕ) (enc : List ℕ) (ns_fits : ns < 2 ^ 64) (np_fits : np < 2 ^ 64) (short : len ≤ 4096) (long : len ≡ length enc) {size : ℕ} {recs vals : List ℕ} (wide : size ≡ w + 28)
        (recs_are : recs ≡ record_encoding bytes (record_with k ns np p.entry.bytes (len + 4))) (vals_are : vals ≡ stored_of enc) where
      row : Row K
      row = record { key = k; next_section = ns; next_position = np; stored = stored_of enc }

      count : len + 4 ≡ length (stored_of enc)
      count = ap (λ n. n + 4) long ∙ sym (length_stored enc)

      none : append_fault (space (length enc)) (w + 28) (parts_mean ps) s (length (stored_of enc)) ≡ None
      none = (λ i. append_fault (space (sym long i)) (w + 28) (parts_mean ps) s (sym count i)) ∙ told.0

      laid : Laid bytes w (p.at + 1) (directory_then p) (records_then p size recs) (values_then p vals) (with_rows s ps (rows_at s ps ++ (row ∷ [])))
      unfolding row
      laid =
          subst (λ (p : Spot). Laid bytes w (p.at + 1) (directory_then p) (records_then p size recs) (values_then p vals) (with_rows s ps (rows_at s ps ++ (row ∷ [])))) (sym told.1)
          (appended key h s row (record { next_section_fits = ns_fits; next_position_fits = np_fits; has_check = omega (arith, count); size_fits = omega (arith, count) }) highest (omega (arith, bound, count))
          within (recs_are ∙ (λ i. record_encoding bytes (record_with k ns np (told.1 i).entry.bytes (count i)))) (omega arith) vals_are (omega (arith, count)) (λ i. entry_with s ps (length (rows_at s ps) + 1) (stored_bytes (rows_at s ps) + count i)))

      pub record Left : Type 0 where
        pub good : IsSplitGood decoding w (p.at + 1) (directory_then p) (records_then p size recs) (values_then p vals) bytes
        pub answer : Ok (p.entry.rows, p.entry.bytes, len + 4) ≡ append_answer (w + 28) (parts_mean ps) (space (length enc)) s enc
        pub after : split_means decoding w (p.at + 1) (directory_then p) (records_then p size recs) (values_then p vals) ≡ append_after (w + 28) (parts_mean ps) (space (length enc)) s k ns np enc

      pub left : Left
      unfolding row
      left =
          let mean = rows_mean key h s in
          record {
            good = regood key laid;
            answer =
                (λ i. Ok ((told.1 i).entry.rows, (told.1 i).entry.bytes, count i)) ∙ (λ i. Ok (length (sym mean i), stored_bytes (sym mean i), length (stored_of enc)))
                ∙ ap (λ f. answered f (length ((parts_mean ps).rows s), stored_bytes ((parts_mean ps).rows s), length (stored_of enc))) (sym none);
            after =
                ap parts_mean (reread key laid) ∙ ap (flat_means label unlabelled) (flat_added s 0 ps row h.proper highest)
                ∙ flat_append label unlabelled (w + 28) s k ns np enc (flat ps) (s, row) tells.0 refl refl
                ∙ ap (λ f. unless f (parts_mean ps) (apply (w + 28) (parts_mean ps) (append s k ns np enc))) (sym none);
          }
