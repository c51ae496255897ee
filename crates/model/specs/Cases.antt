-- Eight worked cases, of the definitions that the calls are proved against.
use Rattle.std.specs.Prelude.{◌≡◌, ℕ, ◌+◌, ◌*◌, ◌^◌, ◌<◌, true, false, List, [], ◌∷◌, length, replicate, is_some, Some, None, Ok, Err, Option, Result, refl}
use Rattle.std.proofs.Common.{lit<}
use Rattle.codec.specs.Bytes.{be}
use Rattle.codec.specs.Kinds.{Kinds, kinds}
use Rattle.codec.specs.Windows.{window_bytes, window_read}
use Rattle.codec.specs.Kept.{padded, padded_keeps}
use Rattle.codec.specs.Seals.{sealed_bytes, sealed_check, sealed_read}
use Rattle.codec.specs.declared.fault.KindFault.TheVariants.{NoValue}
use Rattle.codec.specs.declared.sealed.Sealed.{Sealed}
use Rattle.codec.specs.declared.serial.Serial.{Serial}
use Rattle.codec.specs.declared.window.Window.{Window}
use Rattle.table.specs.declared.entry.Entry.{Entry}
use Rattle.table.specs.Choices.{HeadCases, SlotCases}
use Rattle.table.specs.Entries.{entry, empty}
use Rattle.table.specs.Store.{TableMeaning, write, sync, slot_0, slot_1}
use Rattle.journal.specs.declared.fault.Cursor.{Cursor}
use Rattle.journal.specs.Rows.{JournalMeaning, append, restore}
use Rattle.model.specs.declared.Settings.{Settings}
use Rattle.model.specs.declared.Checkpoint.{Checkpoint}
use Rattle.model.specs.declared.Numbers.{Numbers}
use Rattle.model.specs.declared.Fault.{Fault}
use Rattle.model.specs.declared.Fault.TheVariants.{Frequency, EqualEpochs}
use Rattle.model.specs.Common.{pair_equal, table_index}
use Rattle.model.specs.Init.{begun, settings_fault, init_answer, init_table, init_journal}
use Rattle.model.specs.Put.{put_answer, put_table, put_journal, put_section, put_size}
use Rattle.model.specs.Sync.{sync_answer}
use Rattle.model.specs.Runs.{Module, Call, init, put, sync_call, open_effect, after_done, new_ledger, taken_back}

-- ---- the kinds of the cases

-- as the kind Serial has them
abbrev pub serial_bytes : Serial → List ℕ
serial_bytes s = be 8 s.value

-- windows under serials
abbrev pub windows : Kinds Serial Window
windows = kinds 8 serial_bytes window_bytes window_read

-- sealed values under serials
abbrev pub seals : Kinds Serial Sealed
seals = kinds 8 serial_bytes sealed_bytes sealed_read

abbrev pub serial : (n : ℕ) → n < 2 ^ 64 → Serial
serial n h = record { value = n; ok = h }

-- ---- modules, from call to call

abbrev pub no_table : TableMeaning
no_table = record { cells = []; durable = []; most = 8; eager = false; asked = None }

abbrev pub no_journal : JournalMeaning Serial
no_journal = record { rows = λ s. []; durable = λ s. 0; sections = 0; eager = false; asked = None }

abbrev pub ModuleOfWindows : Type 0
ModuleOfWindows = Module Serial Window

abbrev pub new_module : ModuleOfWindows
new_module = record { freezer = None; table = no_table; since = []; journal = no_journal; latest = None; ledger = new_ledger }

-- the numbers of an open freezer
abbrev pub numbers_of : Option Numbers → Numbers
numbers_of (Some v) = v
numbers_of None = begun (record { initial_size = 0; resize_frequency = 0; resize_chunk_size = 0; target_size = 0 }) 0 0 0 0 0

-- and of the freezer open in a module
abbrev pub numbers : ModuleOfWindows → Numbers
numbers m = numbers_of m.freezer

-- a module after a call, where the rows of puts fit
abbrev pub after : ModuleOfWindows → Call Serial Window → ModuleOfWindows
after m c = after_done windows m c (open_effect windows (numbers m) m c true)

abbrev pub settings : (size frequency chunk target : ℕ) → Settings
settings size frequency chunk target = record { initial_size = size; resize_frequency = frequency; resize_chunk_size = chunk; target_size = target }

-- size 1, frequency 2, chunk size 1
abbrev pub opened : (target : ℕ) → ModuleOfWindows
opened target = after new_module (init (settings 1 2 1 target))

abbrev pub window : Window
window = record { first = 100; end = 200; ok = refl }

abbrev pub one : Serial
one = serial 1 (lit< tt)

abbrev pub two : Serial
two = serial 2 (lit< tt)

abbrev pub three : Serial
three = serial 3 (lit< tt)

abbrev pub putting : Serial → ModuleOfWindows → ModuleOfWindows
putting k m = after m (put k window)

-- what a put answers
abbrev pub cursor_of : Serial → ModuleOfWindows → Result Cursor Fault
cursor_of k m = put_answer windows (numbers m) m.table m.journal true k window

abbrev pub syncing : ModuleOfWindows → ModuleOfWindows
syncing m = after m sync_call

-- what a sync answers
abbrev pub checkpoint_of : ModuleOfWindows → Result Checkpoint Fault
checkpoint_of m = sync_answer windows (numbers m) m.table m.journal

-- what a crash may leave: all that stood
abbrev pub left : ModuleOfWindows → ModuleOfWindows
left m = record {
  freezer = None;
  table = record { cells = m.table.cells; durable = m.table.cells; most = m.table.most; eager = m.table.eager; asked = m.table.asked };
  since = [];
  journal = record { rows = m.journal.rows; durable = λ s. length (m.journal.rows s); sections = m.journal.sections; eager = m.journal.eager; asked = m.journal.asked };
  latest = m.latest;
  ledger = taken_back m.ledger;
}

abbrev pub checkpoint : ℕ → ℕ → ℕ → ℕ → Checkpoint
checkpoint e s b n = record { epoch = e; section = s; journal_bytes = b; table_size = n }

abbrev pub cursor : ℕ → ℕ → ℕ → Cursor
cursor s o n = record { section = s; offset = o; size = n }

-- ---- the cases

-- 1: size 1, no put, two syncs
pub record Case1 : Type 0 where
  pub accepted : init_answer windows (settings 1 2 1 100) None no_table no_journal ≡ Ok (numbers (opened 100))
  pub first : checkpoint_of (opened 100) ≡ Ok (checkpoint 1 0 0 2)
  pub next : checkpoint_of (syncing (opened 100)) ≡ Ok (checkpoint 2 0 0 2)

abbrev pub two_puts : ModuleOfWindows
two_puts = putting two (putting one (opened 100))

abbrev pub two_synced : ModuleOfWindows
two_synced = syncing two_puts

-- 2: two windows under serials, and a sync
pub record Case2 : Type 0 where
  pub one_put : cursor_of one (opened 100) ≡ Ok (cursor 0 0 20)
  pub two_put : cursor_of two (putting one (opened 100)) ≡ Ok (cursor 0 20 20)
  pub synced : checkpoint_of two_puts ≡ Ok (checkpoint 1 0 72 2)
  pub due : (numbers two_synced).resizable ≡ 0
  pub low : slot_0 two_synced.table.cells 0 ≡ entry 1 0 1 0
  pub high : slot_0 two_synced.table.cells 1 ≡ entry 1 0 1 0

abbrev pub third_index : ℕ
third_index = table_index windows 2 three

abbrev pub third_left : ModuleOfWindows
third_left = left (putting three two_synced)

-- 3: a third put writes a second slot, its next is the second row; a crash leaves it, and init empties it
pub record Case3 : Type 0 where
  pub writes : put_table windows (numbers two_synced) two_synced.table two_synced.journal true three window ≡ write (2 * third_index + 1) (entry 2 0 2 1) ∷ []
  pub appends : put_journal windows (numbers two_synced) two_synced.table two_synced.journal true three window ≡ append 0 three 0 1 (window_bytes window) ∷ []
  pub stands : slot_1 third_left.table.cells third_index ≡ entry 2 0 2 1
  pub empties : init_table windows (settings 1 2 1 100) third_left.latest third_left.table third_left.journal ≡ write (2 * third_index + 1) empty ∷ sync ∷ []
  pub restores : init_journal windows (settings 1 2 1 100) third_left.latest third_left.table third_left.journal ≡ restore 0 72 ∷ []

-- 4: which put goes to section 1
pub record Case4 : Type 0 where
  pub at_0 : put_section (numbers (opened 0)) ≡ 1
  pub at_20_first : put_section (numbers (opened 20)) ≡ 0
  pub at_20 : put_section (numbers (putting one (opened 20))) ≡ 1
  pub at_21_second : put_section (numbers (putting one (opened 21))) ≡ 0
  pub at_21 : put_section (numbers (putting two (putting one (opened 21)))) ≡ 1

-- 6: frequencies
pub record Case6 : Type 0 where
  pub passes : settings_fault (settings 1 254 1 100) ≡ None
  pub refused : settings_fault (settings 1 255 1 100) ≡ Some Frequency

-- the pair (a, b) as a table of one
abbrev pub of_pair : Entry → Entry → TableMeaning
of_pair a b = record { cells = a ∷ b ∷ []; durable = a ∷ b ∷ []; most = 2; eager = false; asked = None }

-- 7: two whole entries of epoch 5 are refused; with one failing the other is the head
pub record Case7 (s p a s' p' a' : ℕ) (e : Entry) : Type 0 where
  pub refused : pair_equal (of_pair (entry 5 s p a) (entry 5 s' p' a')) 0 ≡ Some (EqualEpochs 0)
  pub heads : HeadCases s p a s' p' a' e

abbrev pub no_bytes : Sealed
no_bytes = record { len = 0; text = padded []; ok = padded_keeps [] refl }

-- 8: a Sealed of no bytes is stored in 4; 512 bytes pass, 513 are refused and read as none
pub record Case8 : Type 0 where
  pub size : put_size seals (numbers (opened 100)) no_table no_journal true one no_bytes ≡ 4
  pub passes : sealed_check (replicate 512 7) ≡ Ok tt
  pub refused : sealed_check (replicate 513 7) ≡ Err NoValue
  pub read : is_some (sealed_read (replicate 512 7)) ≡ true
  pub unread : sealed_read (replicate 513 7) ≡ None

-- all together
pub record EightCases : Type 0 where
  pub case_1 : Case1
  pub case_2 : Case2
  pub case_3 : Case3
  pub case_4 : Case4
  -- the slot to write epoch 6 to
  pub case_5 : (s p a s' p' a' : ℕ) → SlotCases s p a s' p' a'
  pub case_6 : Case6
  pub case_7 : (s p a s' p' a' : ℕ) (e : Entry) → Case7 s p a s' p' a' e
  pub case_8 : Case8
