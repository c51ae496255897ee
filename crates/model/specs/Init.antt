-- Freezer::init.
use Rattle.std.specs.Prelude.{ℕ, ◌+◌, ◌*◌, ◌/◌, Bool, cond, not, ◌&&◌, ◌||◌, List, [], ◌∷◌, ◌++◌, length, take, Some, None, Option, Result, ◌==◌, nat_le, nat_lt}
use Rattle.codec.specs.Kinds.{Kinds, record_bytes}
use Rattle.table.specs.declared.entry.Entry.{Entry}
use Rattle.table.specs.declared.fault.TableFault.TheVariants.{TooMany}
use Rattle.table.specs.declared.pair.Head.{Head}
use Rattle.table.specs.Entries.{empty, is_empty, failing, head}
use Rattle.table.specs.Store.{TableMeaning, Change, write, resize, sync, at, slot_0, slot_1}
use Rattle.journal.specs.Rows.{JournalMeaning, JournalChange, restore, clear, restore_fault, stored_bytes}
use Rattle.model.specs.declared.Settings.{Settings}
use Rattle.model.specs.declared.Checkpoint.{Checkpoint}
use Rattle.model.specs.declared.Numbers.{Numbers}
use Rattle.model.specs.declared.Fault.{Fault}
use Rattle.model.specs.declared.Fault.TheVariants.{InitialSize, Frequency, ChunkSize, CheckpointSize, CheckpointEpoch, ShortTable, Table}
use Rattle.model.specs.Common.{refuse, ◌then◌, of_journal, unless, answered, each, count, lowest, last, power_of_two, is_equal, is_due, equal_at}

-- all its numbers are zero
abbrev pub is_empty_checkpoint : Checkpoint → Bool
is_empty_checkpoint c = c.epoch == 0 && (c.section == 0 && (c.journal_bytes == 0 && c.table_size == 0))

-- an empty checkpoint is as none
abbrev pub resumed : Option Checkpoint → Option Checkpoint
resumed None = None
resumed (Some c) = cond (is_empty_checkpoint c) None (Some c)

-- ---- what stops it: 1 to 8 in order, 4 to 7 only with a checkpoint

-- 1, 2, 3
abbrev pub settings_fault : Settings → Option Fault
settings_fault s =
    refuse (not (power_of_two s.initial_size)) InitialSize
    then refuse (s.resize_frequency == 0 || s.resize_frequency == 255) Frequency
    then refuse (s.resize_chunk_size == 0) ChunkSize

module _ {K V : Type 0} (kinds : Kinds K V) (s : Settings) (t : TableMeaning) (j : JournalMeaning K) where
  -- 8 without a checkpoint; 4, 5, 6, 7 with one
  abbrev pub start_fault : Option Checkpoint → Option Fault
  start_fault None = refuse (nat_lt t.most (2 * s.initial_size)) (Table TooMany)
  start_fault (Some c) =
      refuse (not (power_of_two c.table_size)) CheckpointSize
      then refuse (nat_le last c.epoch) CheckpointEpoch
      then refuse (nat_lt (length t.cells) (2 * c.table_size)) ShortTable
      then of_journal (restore_fault (record_bytes kinds) j c.section c.journal_bytes)

-- ---- what it empties: failing entries, and those of later epochs

-- is an entry emptied at a checkpoint of this epoch
abbrev pub recover_entry : ℕ → Entry → Bool
recover_entry epoch e = failing e || (not (is_empty e) && nat_lt epoch e.epoch)

-- an entry after that
abbrev pub recovered : ℕ → Entry → Entry
recovered epoch e = cond (recover_entry epoch e) empty e

-- the head of a pair after that
abbrev pub recovered_head : ℕ → List Entry → ℕ → Head
recovered_head epoch cells i = head (recovered epoch (slot_0 cells i)) (recovered epoch (slot_1 cells i))

-- the write that empties an entry, if it is emptied
abbrev pub empty_entry : ℕ → List Entry → ℕ → List Change
empty_entry epoch cells i = cond (recover_entry epoch (at cells i)) (write i empty ∷ []) []

-- slot 0, then slot 1
abbrev pub empty_pair : ℕ → List Entry → ℕ → List Change
empty_pair epoch cells i = empty_entry epoch cells (2 * i) ++ empty_entry epoch cells (2 * i + 1)

-- the lowest pair that has two whole entries of one epoch after this
abbrev pub recover_stop : Checkpoint → List Entry → Option ℕ
recover_stop c cells = lowest c.table_size (λ i. is_equal (recovered_head c.epoch cells i))

-- a resize, only where the length differs
abbrev pub fit_length : ℕ → List Entry → List Change
fit_length n cells = cond (length cells == n) [] (resize n ∷ [])

-- a sync, only where anything was asked
abbrev pub with_sync : List Change → List Change
with_sync [] = []
with_sync (c ∷ cs) = (c ∷ cs) ++ (sync ∷ [])

-- stopped at a pair it has emptied the lower ones, without a sync
abbrev pub recover_by : Checkpoint → List Entry → Option ℕ → List Change
recover_by c cells None = with_sync (fit_length (2 * c.table_size) cells ++ each c.table_size (empty_pair c.epoch cells))
recover_by c cells (Some i) = fit_length (2 * c.table_size) cells ++ each i (empty_pair c.epoch cells)

-- what is asked of the table at a checkpoint
abbrev pub recover_table : Checkpoint → List Entry → List Change
recover_table c cells = recover_by c cells (recover_stop c cells)

-- a fresh table
abbrev pub fresh_table : ℕ → List Change
fresh_table n = resize 0 ∷ resize (2 * n) ∷ sync ∷ []

-- ---- the numbers

-- the numbers of a freezer just opened
abbrev pub begun : Settings → (table_size section value_end epoch due : ℕ) → Numbers
begun s n section value_end epoch due = record {
  table_size = n;
  resize_threshold = n / 2;
  resize_frequency = s.resize_frequency;
  resize_chunk_size = s.resize_chunk_size;
  target_size = s.target_size;
  current_section = section;
  current_value_size = value_end;
  next_epoch = epoch;
  resizable = due;
  resize_progress = None;
  modified_sections = None;
}

-- ---- the call

module _ {K V : Type 0} (kinds : Kinds K V) (s : Settings) (given : Option Checkpoint) (t : TableMeaning) (j : JournalMeaning K) where
  -- what stops it before its first change
  abbrev pub init_refused : Option Fault
  init_refused = settings_fault s then start_fault kinds s t j (resumed given)

  -- 9
  abbrev pub stop_fault : Option Checkpoint → Option Fault
  stop_fault None = None
  stop_fault (Some c) = equal_at (recover_stop c t.cells)

  -- fresh, or from the checkpoint: value end and due count are read from what stands
  abbrev pub start_numbers : Option Checkpoint → Numbers
  start_numbers None = begun s s.initial_size 0 0 1 0
  start_numbers (Some c) =
      begun s c.table_size c.section (stored_bytes (take (c.journal_bytes / record_bytes kinds) (j.rows c.section))) (c.epoch + 1)
      (count c.table_size (λ i. is_due s.resize_frequency (recovered_head c.epoch t.cells i)))

  -- what is asked of the table
  abbrev pub start_table : Option Checkpoint → List Change
  start_table None = fresh_table s.initial_size
  start_table (Some c) = recover_table c t.cells

  -- what is asked of the journal
  abbrev pub start_journal : Option Checkpoint → List (JournalChange K)
  start_journal None = clear ∷ []
  start_journal (Some c) = restore c.section c.journal_bytes ∷ []

  -- the numbers of the freezer, or the fault
  abbrev pub init_answer : Result Numbers Fault
  init_answer = answered (init_refused then stop_fault (resumed given)) (start_numbers (resumed given))

  -- nothing where it is refused before its first change
  abbrev pub init_table : List Change
  init_table = unless init_refused [] (start_table (resumed given))

  -- the same for the journal
  abbrev pub init_journal : List (JournalChange K)
  init_journal = unless init_refused [] (start_journal (resumed given))
