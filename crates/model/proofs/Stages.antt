-- The modules of the worked cases, written out, so that each call is computed on its own.
use Rattle.std.proofs.Common.{◌≡◌, ℕ, false, List, [], ◌∷◌, Some, None, Option, refl, ap, ◌∙◌}
use lib.Count.{ones, ones_in}
use Rattle.crc32c.specs.Crc.{one_bit, eight_bits}
use Rattle.codec.specs.Windows.{window_bytes}
use Rattle.codec.specs.declared.serial.Serial.{Serial}
use Rattle.codec.specs.declared.window.Window.{Window}
use Rattle.table.specs.declared.entry.Entry.{Entry}
use Rattle.table.specs.Entries.{entry_check, entry, empty}
use Rattle.table.specs.Store.{Change, TableMeaning, write}
use Rattle.journal.specs.Rows.{JournalChange, JournalMeaning, append, clear, value_check, apply_all as apply_journal, sync as sync_sections}
use Rattle.model.specs.declared.Checkpoint.{Checkpoint}
use Rattle.model.specs.declared.Numbers.{Numbers}
use Rattle.model.specs.declared.Settings.{Settings}
use Rattle.model.specs.Common.{hash, last}
use Rattle.model.specs.Runs.{sync_call}
use Rattle.model.specs.Cases.{ModuleOfWindows, no_journal, after, opened, putting, settings, window, one, two, three, checkpoint, two_puts, two_synced}

abbrev pub table_of : ℕ → (cells kept : List Entry) → TableMeaning
table_of most cells kept = record { cells = cells; durable = kept; most = most; eager = false; asked = None }

-- a module in which all is durable
abbrev pub settled : ℕ → Option Numbers → List Entry → JournalMeaning Serial → Option Checkpoint → List (Serial × Window) → ModuleOfWindows
settled most v cells j c lines = record {
  freezer = v;
  table = table_of most cells cells;
  since = [];
  journal = j;
  latest = c;
  ledger = record { lines = lines; copy = lines };
}

-- a module some changes of the table and one of the journal later
abbrev pub pending : ModuleOfWindows → Option Numbers → List Entry → List Change → JournalChange Serial → List (Serial × Window) → ModuleOfWindows
pending m v cells since row lines = record {
  freezer = v;
  table = table_of m.table.most cells m.table.durable;
  since = since;
  journal = apply_journal 36 m.journal (row ∷ []);
  latest = m.latest;
  ledger = record { lines = lines; copy = m.ledger.copy };
}

-- size, threshold, value end, epoch, due count, progress and unsynced sections, in section 0
abbrev pub counts : Settings → (size threshold end epoch due : ℕ) → Option ℕ → Option (ℕ × ℕ) → Numbers
counts s size threshold end epoch due progress unsynced = record {
  table_size = size;
  resize_threshold = threshold;
  resize_frequency = s.resize_frequency;
  resize_chunk_size = s.resize_chunk_size;
  target_size = s.target_size;
  current_section = 0;
  current_value_size = end;
  next_epoch = epoch;
  resizable = due;
  resize_progress = progress;
  modified_sections = unsynced;
}

abbrev small : Settings
small = settings 1 2 1 100

abbrev pub stage_0 : ModuleOfWindows
stage_0 = settled 8 (Some (counts small 1 0 0 1 0 None None)) (empty ∷ empty ∷ []) (apply_journal 36 no_journal (clear ∷ [])) None []

pub opened_is : opened 100 ≡ stage_0
unfolding ones ones_in
opened_is = refl

abbrev pub stage_1 : ModuleOfWindows
stage_1 = pending stage_0 (Some (counts small 1 0 20 1 0 None (Some (0, 0)))) (entry 1 0 0 1 ∷ empty ∷ []) (write 0 (entry 1 0 0 1) ∷ []) (append 0 one last last (window_bytes window)) ((one, window) ∷ [])

pub put_1 : putting one stage_0 ≡ stage_1
unfolding ones ones_in entry_check one_bit eight_bits value_check hash
put_1 = refl

abbrev pub stage_2 : ModuleOfWindows
stage_2 = pending stage_1 (Some (counts small 1 0 40 1 1 None (Some (0, 0)))) (entry 1 0 1 2 ∷ empty ∷ []) (write 0 (entry 1 0 0 1) ∷ write 0 (entry 1 0 1 2) ∷ []) (append 0 two 0 0 (window_bytes window)) ((two, window) ∷ (one, window) ∷ [])

pub put_2 : putting two stage_1 ≡ stage_2
unfolding ones ones_in entry_check one_bit eight_bits value_check hash
put_2 = refl

abbrev pub stage_3 : ModuleOfWindows
stage_3 = settled 8 (Some (counts small 2 1 40 2 0 None None)) (entry 1 0 1 0 ∷ empty ∷ entry 1 0 1 0 ∷ empty ∷ []) (apply_journal 36 stage_2.journal (sync_sections 0 0 ∷ [])) (Some (checkpoint 1 0 72 2)) ((two, window) ∷ (one, window) ∷ [])

pub sync_3 : after stage_2 sync_call ≡ stage_3
unfolding ones ones_in entry_check one_bit eight_bits value_check hash
sync_3 = refl

abbrev pub stage_4 : ModuleOfWindows
stage_4 = pending stage_3 (Some (counts small 2 1 60 2 0 None (Some (0, 0)))) (entry 1 0 1 0 ∷ entry 2 0 2 1 ∷ entry 1 0 1 0 ∷ empty ∷ []) (write 1 (entry 2 0 2 1) ∷ []) (append 0 three 0 1 (window_bytes window)) ((three, window) ∷ (two, window) ∷ (one, window) ∷ [])

pub put_4 : putting three stage_3 ≡ stage_4
unfolding ones ones_in entry_check one_bit eight_bits value_check hash
put_4 = refl

pub two_puts_is : two_puts ≡ stage_2
two_puts_is = ap (λ m. putting two (putting one m)) opened_is ∙ ap (putting two) put_1 ∙ put_2

pub two_synced_is : two_synced ≡ stage_3
two_synced_is = ap (λ m. after m sync_call) two_puts_is ∙ sync_3

pub third_is : putting three two_synced ≡ stage_4
third_is = ap (putting three) two_synced_is ∙ put_4
