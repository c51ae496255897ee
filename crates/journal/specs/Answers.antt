-- What a journal's calls answer, and what they leave.
use Rattle.std.specs.Prelude.{ℕ, ◌-◌, ◌*◌, Bool, cond, ◌&&◌, List, length, take, Some, None, Ok, Err, Option, Result, ◌==◌}
use Rattle.journal.specs.declared.fault.JournalFault.{JournalFault}
use Rattle.journal.specs.declared.fault.JournalFault.TheVariants.{NoRow}
use Rattle.journal.specs.declared.record.Record.{Record}
use Rattle.journal.specs.Places.{place}
use Rattle.journal.specs.Rows.{Row, JournalMeaning, append, restore, apply, append_fault, restore_fault, in_bounds, value_end, stored_of, stored_bytes, row_at}

-- what a call answers, by its fault
abbrev pub answered : {A : Type 0} → Option JournalFault → A → Result A JournalFault
answered (Some f) a = Err f
answered None a = Ok a

-- what is so where a call is refused, and where not
abbrev pub unless : {A : Type 0} → Option JournalFault → A → A → A
unless (Some f) refused done = refused
unless None refused done = done

module _ {K : Type 0} (size : ℕ) (j : JournalMeaning K) where
  -- does a row fit: `space` is the journal's own rule, and none fits past 2 ^ 63
  abbrev pub fits_answer : (space : Bool) → ℕ → List ℕ → Bool
  fits_answer space s encoding = space && in_bounds size j s (length (stored_of encoding))

  -- the rows before, the stored bytes before, the new stored size; or 13, 10
  abbrev pub append_answer : (space : Bool) → ℕ → List ℕ → Result (ℕ × ℕ × ℕ) JournalFault
  append_answer space s encoding =
      answered (append_fault space size j s (length (stored_of encoding))) (length (j.rows s), value_end j s, length (stored_of encoding))

  -- one row more, or all as it was
  abbrev pub append_after : (space : Bool) → ℕ → K → ℕ → ℕ → List ℕ → JournalMeaning K
  append_after space s k ns np encoding = unless (append_fault space size j s (length (stored_of encoding))) j (apply size j (append s k ns np encoding))

  -- nothing, or 7
  abbrev pub restore_answer : ℕ → ℕ → Result (Unit {0}) JournalFault
  restore_answer s bytes = answered (restore_fault size j s bytes) tt

  -- cut back to these rows, or all as it was
  abbrev pub restore_after : ℕ → ℕ → JournalMeaning K
  restore_after s bytes = unless (restore_fault size j s bytes) j (apply size j (restore s bytes))

  -- rows times record bytes
  abbrev pub size_answer : ℕ → ℕ
  size_answer s = length (j.rows s) * size

module _ {K : Type 0} where
  -- a row's record, where these stored bytes stand before it in its section
  abbrev pub record_of : ℕ → Row K → Record K
  record_of offset r = record {
    key = r.key;
    next = place r.next_section r.next_position;
    value_offset = offset;
    value_size = length r.stored;
  }

  -- the record at a position, where rows begin at an offset
  abbrev pub record_there : List (Row K) → ℕ → Option (Row K) → Option (Record K)
  record_there rows p None = None
  record_there rows p (Some r) = Some (record_of (stored_bytes (take p rows)) r)

  -- 14: no row there
  abbrev pub or_no_row : ℕ → ℕ → Option (Record K) → Result (Record K) JournalFault
  or_no_row s p None = Err (NoRow (place s p))
  or_no_row s p (Some r) = Ok r

  -- the record at a place
  abbrev pub get_answer : JournalMeaning K → ℕ → ℕ → Result (Record K) JournalFault
  get_answer j s p = or_no_row s p (record_there (j.rows s) p (row_at (j.rows s) p))

  -- the highest section with rows
  abbrev pub highest_answer : JournalMeaning K → Option ℕ
  highest_answer j = cond (j.sections == 0) None (Some (j.sections - 1))
