-- What each change of the bytes makes of the journal in them.
use Rattle.std.proofs.Common.{◌≡◌, ℕ, Bool, false, None, ◌+◌, ◌-◌, ◌/◌, ◌≤◌, List, [], ◌∷◌, ◌++◌, length, take, drop, replicate, leb, Ok, sym, refl, ap, ◌∙◌, append_assoc, append-nil, arith, length-append}
use borrow.Rule.Slice.PartMut.{put_mid}
use Rattle.std.proofs.lemmas.List.{take_at, drop-drop, drop-replicate}
use Rattle.std.proofs.Math.Seq.{drop-length}
use Rattle.std.proofs.lemmas.Bool.{and_parts, leb-true, ltb-false}
use Rattle.codec.proofs.Pieces.{piece}
use Rattle.journal.specs.Answers.{answered, append_after, append_answer, restore_after}
use Rattle.journal.specs.Flat.{cut, flat_means}
use Rattle.journal.specs.Rows.{JournalMeaning, append_fault, later_than, restore_fault, stored_of}
use Rattle.journal.specs.Log.{LogRow, Rising, Writable, log_bytes, row_bytes, row_len}
use Rattle.journal.proofs.Fields.{length_row}
use Rattle.journal.proofs.Flat.{cut_front, flat_append, flat_restore}
use Rattle.journal.proofs.Tells.{answered_ok, append_tells}
use Rattle.log_journal.specs.Kept.{IsLogGood, kept_row, log_end, log_means, opened, rows_in, section_in}
use Rattle.log_journal.proofs.Filled.{good_are, log_bytes_append, rising_front, rising_more, rising_ordered, rows_are, split_used, used_within, zeroed, zeroed_good, zeroed_rows, zeros_behind}

-- ---- opening

module _ (w e : ℕ) (bs : List ℕ) (end : e ≡ log_end w bs) (front : bs ≡ log_bytes (rows_in w bs) ++ drop e bs) (rising : Rising w 0 (rows_in w bs)) where
  pub end_within : e ≤ length bs
  end_within = omega (arith, ap length front, length-append (log_bytes (rows_in w bs)) (drop e bs))

  taken : take e bs ≡ log_bytes (rows_in w bs)
  taken = ap (take e) front ∙ take_at (log_bytes (rows_in w bs)) (drop e bs) e (sym end)

  none : drop (length bs) bs ≡ replicate (length bs - length bs) 0
  none = let same : 0 ≡ length bs - length bs = omega arith in drop-length bs ∙ ap (λ n. replicate n 0) same

  module _ (new : List ℕ) (is : new ≡ take e bs ++ (replicate (length bs - e) 0 ++ drop (length bs) bs)) where
    pub open_bytes : new ≡ opened w bs
    open_bytes = zeroed w (rows_in w bs) rising e (length bs) bs new taken end_within (omega arith) none is ∙ ap (λ n. log_bytes (rows_in w bs) ++ replicate (length bs - n) 0) end

    pub open_rows : rows_in w new ≡ rows_in w bs
    open_rows = zeroed_rows w (rows_in w bs) rising e (length bs) bs new taken end_within (omega arith) none is

    pub open_good : IsLogGood w new e
    open_good = zeroed_good w (rows_in w bs) rising e (length bs) bs new taken end_within (omega arith) none is

-- ---- a good journal that is changed

module _ {w used : ℕ} {bs : List ℕ} (good : IsLogGood w bs used) where
  abbrev rs : List LogRow
  rs = rows_in w bs

  abbrev room : ℕ → Bool
  room n = leb (used + row_len w n) (length bs)

  -- the rows at the front are kept
  module _ (keep rest : List LogRow) (front : rs ≡ keep ++ rest) {e : ℕ} (end : e ≡ length (log_bytes keep)) where
    bytes_front : log_bytes rs ≡ log_bytes keep ++ log_bytes rest
    bytes_front = ap log_bytes front ∙ log_bytes_append keep rest

    pub keep_within : e ≤ used
    keep_within = omega (arith, good.ends, ap length bytes_front, length-append (log_bytes keep) (log_bytes rest))

    keep_taken : take e bs ≡ log_bytes keep
    keep_taken =
        ap (take e) (split_used good ∙ ap (λ xs. xs ++ drop used bs) bytes_front ∙ append_assoc (log_bytes keep) (log_bytes rest) (drop used bs))
        ∙ take_at (log_bytes keep) (log_bytes rest ++ drop used bs) e (sym end)

    rises : Rising w 0 keep
    rises = rising_front w 0 keep rest (rw front at good.rising)

    module _ {new : List ℕ} (is : new ≡ take e bs ++ (replicate (used - e) 0 ++ drop used bs)) where
      pub keep_rows : rows_in w new ≡ keep
      keep_rows = zeroed_rows w keep rises e used bs new keep_taken keep_within (used_within good) (zeros_behind good) is

      pub keep_good : IsLogGood w new e
      keep_good = zeroed_good w keep rises e used bs new keep_taken keep_within (used_within good) (zeros_behind good) is

  module _ {K : Type 0} (decoding : List ℕ → K) where
    abbrev j : JournalMeaning K
    j = log_means decoding w bs

    -- a restore that is not refused
    module _ (s bytes : ℕ) {e : ℕ} (told : Ok e ≡ answered (restore_fault (w + 28) j s bytes) (length (log_bytes (cut section_in s (bytes / (w + 28)) rs)))) where
      front : (rest : List LogRow) × (rs ≡ cut section_in s (bytes / (w + 28)) rs ++ rest)
      front = cut_front section_in s (bytes / (w + 28)) rs

      answer : (restore_fault (w + 28) j s bytes ≡ None) × (e ≡ length (log_bytes (cut section_in s (bytes / (w + 28)) rs)))
      answer = answered_ok _ _ _ told

      pub restore_within : e ≤ used
      restore_within = keep_within _ front.0 front.1 answer.1

      module _ {new : List ℕ} (is : new ≡ take e bs ++ (replicate (used - e) 0 ++ drop used bs)) where
        pub restore_good : IsLogGood w new e
        restore_good = keep_good _ front.0 front.1 answer.1 is

        pub restore_means : log_means decoding w new ≡ restore_after (w + 28) j s bytes
        restore_means =
            rw answer.0
            (ap (flat_means section_in (kept_row decoding)) (keep_rows _ front.0 front.1 answer.1 is) ∙ flat_restore section_in (kept_row decoding) (w + 28) s bytes rs (rising_ordered w 0 rs good.rising))

    -- an append that is not refused: its row is written behind the rows
    module _ {r : LogRow} {answer : ℕ × ℕ × ℕ} {out : List ℕ} {n : ℕ} (ok : Writable w r) (told : Ok answer ≡ append_answer (w + 28) j (room (length r.value)) r.section r.value)
        (is : out ≡ row_bytes r) (size : n ≡ row_len w (length r.value)) where
      no_fault : append_fault (room (length r.value)) (w + 28) j r.section (length (stored_of r.value)) ≡ None
      no_fault = (answered_ok _ _ _ told).0

      low : later_than r.section j ≡ false
      low = (append_tells (w + 28) j r.section _ _ no_fault).0

      fit : used + row_len w (length r.value) ≤ length bs
      fit = leb-true _ _ (and_parts _ _ (append_tells (w + 28) j r.section _ _ no_fault).1).0

      rising : Rising w 0 (rs ++ (r ∷ []))
      rising = rising_more decoding w r ok rs good.rising (ltb-false _ _ low)

      bytes_are : log_bytes (rs ++ (r ∷ [])) ≡ log_bytes rs ++ row_bytes r
      bytes_are = log_bytes_append rs (r ∷ []) ∙ ap (λ xs. log_bytes rs ++ xs) (append-nil (row_bytes r))

      end : used + n ≡ length (log_bytes (rs ++ (r ∷ [])))
      end = omega (arith, good.ends, ap length bytes_are, length-append (log_bytes rs) (row_bytes r), length_row w r ok [])

      more : put_mid used (used + n - used) bs out ≡ log_bytes (rs ++ (r ∷ [])) ++ replicate (length bs - (used + n)) 0
      more =
          let long = length_row w r ok [] in
          let behind : drop (used + n) bs ≡ replicate (length bs - (used + n)) 0 =
          sym (drop-drop n used bs) ∙ ap (drop n) (zeros_behind good) ∙ drop-replicate n (length bs - used) 0 ∙ ap (λ m. replicate m 0) (omega arith) in
          piece used (used + n - used) (used + n) (log_bytes rs) bs bs out (row_bytes r) (sym good.ends) (omega arith) (omega arith) (split_used good) is
          ∙ (λ i. sym bytes_are i ++ behind i)

      pub append_good : IsLogGood w (put_mid used (used + n - used) bs out) (used + n)
      append_good = good_are w (length bs - (used + n)) _ (rs ++ (r ∷ [])) rising more (used + n) end

      pub append_means : (k : K) → decoding r.key ≡ k →
          log_means decoding w (put_mid used (used + n - used) bs out) ≡ append_after (w + 28) j (room (length r.value)) r.section k r.next_section r.next_position r.value
      append_means k back =
          rw no_fault
          (ap (flat_means section_in (kept_row decoding)) (rows_are w (length bs - (used + n)) _ (rs ++ (r ∷ [])) rising more)
          ∙ flat_append section_in (kept_row decoding) (w + 28) r.section k r.next_section r.next_position r.value rs r low refl
          (λ i. record { key = back i; next_section = r.next_section; next_position = r.next_position; stored = stored_of r.value }))
