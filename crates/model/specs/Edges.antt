-- Refusals at their limits, with their details.
use Rattle.std.specs.Prelude.{◌≡◌, ℕ, true, false, cond, List, [], ◌∷◌, Some, None, Ok, Err, Option, ◌==◌}
use Rattle.codec.specs.Windows.{window_bytes}
use Rattle.codec.specs.declared.serial.Serial.{Serial}
use Rattle.table.specs.declared.entry.Entry.{Entry}
use Rattle.table.specs.declared.fault.TableFault.TheVariants.{PastEnd}
use Rattle.table.specs.Entries.{entry, empty}
use Rattle.table.specs.Store.{TableMeaning, write, resize}
use Rattle.journal.specs.Places.{place}
use Rattle.journal.specs.declared.fault.JournalFault.TheVariants.{Restore, Full, Below, NoRow, NoValue, Check, Kind}
use Rattle.journal.specs.Rows.{Row, JournalMeaning, restore, stored_of}
use Rattle.model.specs.declared.Numbers.{Numbers}
use Rattle.model.specs.declared.Fault.TheVariants.{CheckpointEpoch, EqualEpochs, NotEarlier, Table, Journal, LastEpoch, LastSection, ShortTable}
use Rattle.model.specs.Common.{last}
use Rattle.model.specs.Init.{init_answer, init_table, init_journal}
use Rattle.model.specs.Put.{put_answer}
use Rattle.model.specs.Lookup.{get_answer, get_cursor, has_answer}
use Rattle.model.specs.Sync.{sync_answer, close_answer}
use Rattle.model.specs.Cases.{windows, window, settings, one, two, checkpoint, cursor, no_journal}

abbrev pub table_of : List Entry → TableMeaning
table_of cells = record { cells = cells; durable = cells; most = 64; eager = false; asked = None }

abbrev pub numbers_at : (size : ℕ) → Option ℕ → (epoch section : ℕ) → Numbers
numbers_at size progress epoch section = record {
  table_size = size;
  resize_threshold = size;
  resize_frequency = 9;
  resize_chunk_size = 1;
  target_size = 0;
  current_section = section;
  current_value_size = 0;
  next_epoch = epoch;
  resizable = 0;
  resize_progress = progress;
  modified_sections = None;
}

-- rows in section 0 alone
abbrev pub rows_of : List (Row Serial) → JournalMeaning Serial
rows_of rs = record { rows = λ s. cond (s == 0) rs []; durable = λ s. 0; sections = 1; eager = false; asked = None }

abbrev pub row : Serial → ℕ → ℕ → List ℕ → Row Serial
row k s p stored = record { key = k; next_section = s; next_position = p; stored = stored }

abbrev pub good : List ℕ
good = stored_of (window_bytes window)

-- two rows: of serial 1, with no next, and behind it of serial 2, with the first as its next
abbrev pub chain : JournalMeaning Serial
chain = rows_of (row one last last good ∷ row two 0 0 good ∷ [])

abbrev pub e4 : Entry
e4 = entry 4 0 0 1

abbrev pub e5 : Entry
e5 = entry 5 0 0 1

-- equal to e5 in epoch
abbrev pub e5' : Entry
e5' = entry 5 0 1 1

abbrev pub head_at_1 : TableMeaning
head_at_1 = table_of (entry 5 0 1 1 ∷ empty ∷ [])

-- 19: the lowest entry past the end, of a pair read or of an image to be written
pub record PastEndRefused : Type 0 where
  pub in_put : put_answer windows (numbers_at 1 None 6 0) (table_of (empty ∷ [])) no_journal true one window ≡ Err (Table (PastEnd 1))
  pub in_image : put_answer windows (numbers_at 1 (Some 1) 6 0) (table_of (e4 ∷ empty ∷ empty ∷ [])) no_journal true one window ≡ Err (Table (PastEnd 3))
  pub in_sync : sync_answer windows (numbers_at 2 (Some 1) 6 0) (table_of (empty ∷ empty ∷ empty ∷ empty ∷ empty ∷ empty ∷ empty ∷ [])) no_journal ≡ Err (Table (PastEnd 7))
  pub in_close : close_answer windows (numbers_at 2 None 6 0) (table_of (empty ∷ empty ∷ [])) no_journal ≡ Err (Table (PastEnd 2))
  pub in_get : get_answer windows (numbers_at 1 None 6 0) (table_of []) no_journal one ≡ Err (Table (PastEnd 0))

-- 9: a sync reads its chunk alone, a close every pair and, while a doubling is on, every image
pub record EqualEpochsRefused : Type 0 where
  pub in_chunk : sync_answer windows (numbers_at 2 (Some 1) 6 0) (table_of (empty ∷ empty ∷ e5 ∷ e5' ∷ empty ∷ empty ∷ empty ∷ empty ∷ [])) no_journal ≡ Err (EqualEpochs 1)
  pub outside : sync_answer windows (numbers_at 2 (Some 0) 6 0) (table_of (empty ∷ empty ∷ e5 ∷ e5' ∷ empty ∷ empty ∷ empty ∷ empty ∷ [])) no_journal ≡ Ok (checkpoint 6 0 0 2)
  pub in_image : close_answer windows (numbers_at 2 (Some 0) 6 0) (table_of (empty ∷ empty ∷ empty ∷ empty ∷ empty ∷ empty ∷ e5 ∷ e5' ∷ [])) no_journal ≡ Err (EqualEpochs 3)

-- 11, 12, 13, 10: the last section, the last epoch, a section below one with rows, and no space
pub record LastOnes : Type 0 where
  pub section : put_answer windows (numbers_at 1 None 6 last) (table_of (empty ∷ empty ∷ [])) no_journal true one window ≡ Err LastSection
  pub epoch : close_answer windows (numbers_at 2 None last 0) (table_of []) no_journal ≡ Err LastEpoch
  pub below : put_answer windows (numbers_at 1 None 6 0) (table_of (empty ∷ empty ∷ [])) (record { rows = λ s. []; durable = λ s. 0; sections = 3; eager = false; asked = None }) true one window ≡ Err (Journal (Below 1))
  pub full : put_answer windows (numbers_at 1 None 6 0) (table_of (empty ∷ empty ∷ [])) no_journal false one window ≡ Err (Journal (Full 1))

-- 14, 15: a row that is not there, a next place that is not earlier; past a row of another key the walk goes on
pub record Walks : Type 0 where
  pub no_row : get_answer windows (numbers_at 1 None 6 0) (table_of (entry 5 0 7 1 ∷ empty ∷ [])) no_journal one ≡ Err (Journal (NoRow (place 0 7)))
  pub not_earlier : has_answer windows (numbers_at 1 None 6 0) head_at_1 (rows_of (row two 0 0 good ∷ row two 0 1 good ∷ [])) one ≡ Err (NotEarlier (place 0 1))
  pub goes_on : get_answer windows (numbers_at 1 None 6 0) head_at_1 chain one ≡ Ok (Some window)

-- 16, 17, 18: no row has this place, or too few bytes for a check; a wrong check, bytes that are no window
pub record Values : Type 0 where
  pub found : get_cursor windows (numbers_at 1 None 6 0) (table_of []) chain (cursor 0 20 20) ≡ Ok (Some window)
  pub no_place : get_cursor windows (numbers_at 1 None 6 0) (table_of []) chain (cursor 0 19 20) ≡ Err (Journal (NoValue (cursor 0 19 20)))
  pub no_check : get_cursor windows (numbers_at 1 None 6 0) (table_of []) (rows_of (row one last last (0 ∷ 0 ∷ 0 ∷ []) ∷ [])) (cursor 0 0 3) ≡ Err (Journal (NoValue (cursor 0 0 3)))
  pub wrong_check : get_cursor windows (numbers_at 1 None 6 0) (table_of []) (rows_of (row one last last (0 ∷ 0 ∷ 0 ∷ 9 ∷ []) ∷ [])) (cursor 0 0 4) ≡ Err (Journal (Check 9 0))
  pub no_window : get_cursor windows (numbers_at 1 None 6 0) (table_of []) (rows_of (row one last last (stored_of []) ∷ [])) (cursor 0 0 4) ≡ Err (Journal (Kind (Some (cursor 0 0 4))))

-- 5, 6, 7, and init stopped with 9 at pair 1: the journal restored, the table resized and pair 0 cleaned, not synced
pub record Starts : Type 0 where
  pub epoch : init_answer windows (settings 1 2 1 100) (Some (checkpoint last 0 0 1)) (table_of (empty ∷ empty ∷ [])) no_journal ≡ Err CheckpointEpoch
  pub short : init_answer windows (settings 1 2 1 100) (Some (checkpoint 5 0 0 2)) (table_of (empty ∷ empty ∷ empty ∷ [])) no_journal ≡ Err ShortTable
  pub half : init_answer windows (settings 1 2 1 100) (Some (checkpoint 5 0 35 1)) (table_of (empty ∷ empty ∷ [])) chain ≡ Err (Journal (Restore 0))
  pub fewer : init_answer windows (settings 1 2 1 100) (Some (checkpoint 5 0 108 1)) (table_of (empty ∷ empty ∷ [])) chain ≡ Err (Journal (Restore 0))
  pub stopped : init_answer windows (settings 1 2 1 100) (Some (checkpoint 5 0 0 2)) (table_of (entry 6 0 0 1 ∷ empty ∷ e5 ∷ e5' ∷ empty ∷ [])) no_journal ≡ Err (EqualEpochs 1)
  pub cleaned : init_table windows (settings 1 2 1 100) (Some (checkpoint 5 0 0 2)) (table_of (entry 6 0 0 1 ∷ empty ∷ e5 ∷ e5' ∷ empty ∷ [])) no_journal ≡ resize 4 ∷ write 0 empty ∷ []
  pub restored : init_journal windows (settings 1 2 1 100) (Some (checkpoint 5 0 0 2)) (table_of (entry 6 0 0 1 ∷ empty ∷ e5 ∷ e5' ∷ empty ∷ [])) no_journal ≡ restore 0 0 ∷ []

-- all together
pub record EdgeCases : Type 0 where
  pub past_end : PastEndRefused
  pub equal_epochs : EqualEpochsRefused
  pub last_ones : LastOnes
  pub walks : Walks
  pub values : Values
  pub starts : Starts
