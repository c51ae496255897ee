-- What a LogJournal holds.
use Rattle.std.specs.Prelude.{ℕ, ◌+◌, Bool, List, length, nat_le}
use Rattle.codec.specs.declared.key.Key.{Ghosts}
use Rattle.journal.specs.Log.{row_len}
use Rattle.journal.specs.Rows.{JournalMeaning}
use Rattle.log_journal.specs.Kept.{log_means}
use Rattle.log_journal.specs.declared.store.LogJournal.{LogJournal}

-- the journal in its bytes, whose keys are read by `decoding`
abbrev pub held : {K : Type 0} {k : Ghosts K} → (List ℕ → K) → LogJournal K k → JournalMeaning K
held {k = k} decoding j = log_means decoding k.WIDTH j.bytes.now

-- a row with a value of n bytes fits where its bytes are free behind the last row
abbrev pub has_space : {K : Type 0} {k : Ghosts K} → LogJournal K k → ℕ → Bool
has_space {k = k} j n = nat_le (j.used + row_len k.WIDTH n) (length j.bytes.now)
