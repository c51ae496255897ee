-- What holds above every journal.
use Rattle.std.specs.Prelude.{ℕ, Bool, List, length, Result}
use Rattle.journal.specs.declared.fault.JournalFault.{JournalFault}
use Rattle.journal.specs.declared.record.Record.{Record}
use Rattle.journal.specs.Rows.{JournalMeaning, append_fault, stored_of, value_end}
use Rattle.journal.specs.Answers.{answered, record_of}

-- the fault of an append, or else the record with its key and next place, behind the stored bytes before it, and its value
abbrev pub append_and_read_lem : {K V : Type 0} → ℕ → JournalMeaning K → (space : Bool) → ℕ → K → ℕ → ℕ → List ℕ → V → Result (Record K × V) JournalFault
append_and_read_lem size j space s k ns np encoding v =
    answered (append_fault space size j s (length (stored_of encoding)))
    (record_of (value_end j s) (record { key = k; next_section = ns; next_position = np; stored = stored_of encoding }), v)
