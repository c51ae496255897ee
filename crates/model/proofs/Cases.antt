-- The eight cases, by computation.
use Rattle.std.proofs.Common.{ℕ, true, cond, Some, None, refl, ap, ◌∙◌}
use lib.Count.{ones, ones_in}
use Rattle.crc32c.specs.Crc.{one_bit, eight_bits}
use Rattle.table.specs.declared.entry.Entry.{Entry}
use Rattle.table.specs.Entries.{entry_check}
use Rattle.model.specs.declared.Fault.TheVariants.{EqualEpochs}
use Rattle.journal.specs.Rows.{value_check}
use Rattle.model.specs.Common.{hash, is_equal}
use Rattle.table.proofs.Spared.{choices}
use Rattle.table.specs.Store.{slot_0, slot_1}
use Rattle.model.specs.Init.{init_table, init_journal}
use Rattle.model.specs.Put.{put_table, put_journal}
use Rattle.model.proofs.Stages.{opened_is, put_1, two_puts_is, two_synced_is, third_is}
use Rattle.model.specs.Cases.{ModuleOfWindows, windows, window, one, two, three, settings, numbers, putting, syncing, cursor_of, checkpoint_of, left, third_index, Case1, Case2, Case3, Case4, Case6, Case7, Case8, EightCases}

case_1 : Case1
unfolding ones ones_in
case_1 = record { accepted = refl; first = ap checkpoint_of opened_is; next = ap (λ m. checkpoint_of (syncing m)) opened_is }

case_6 : Case6
unfolding ones ones_in
case_6 = record { passes = refl; refused = refl }

case_8 : Case8
case_8 = record { size = refl; passes = refl; refused = refl; read = refl; unread = refl }

case_4 : Case4
unfolding ones ones_in entry_check one_bit eight_bits value_check hash
case_4 = record { at_0 = refl; at_20_first = refl; at_20 = refl; at_21_second = refl; at_21 = refl }

case_2 : Case2
unfolding ones ones_in entry_check one_bit eight_bits value_check hash
case_2 = record {
  one_put = ap (cursor_of one) opened_is;
  two_put = ap (λ m. cursor_of two (putting one m)) opened_is ∙ ap (cursor_of two) put_1;
  synced = ap checkpoint_of two_puts_is;
  due = ap (λ m. (numbers m).resizable) two_synced_is;
  low = ap (λ (m : ModuleOfWindows). slot_0 m.table.cells 0) two_synced_is;
  high = ap (λ (m : ModuleOfWindows). slot_0 m.table.cells 1) two_synced_is;
}

case_3 : Case3
unfolding ones ones_in entry_check one_bit eight_bits value_check hash
case_3 = record {
  writes = ap (λ m. put_table windows (numbers m) m.table m.journal true three window) two_synced_is;
  appends = ap (λ m. put_journal windows (numbers m) m.table m.journal true three window) two_synced_is;
  stands = ap (λ (m : ModuleOfWindows). slot_1 (left m).table.cells third_index) third_is;
  empties = ap (λ m. init_table windows (settings 1 2 1 100) (left m).latest (left m).table (left m).journal) third_is;
  restores = ap (λ m. init_journal windows (settings 1 2 1 100) (left m).latest (left m).table (left m).journal) third_is;
}

case_7 : (s p a s' p' a' : ℕ) (e : Entry) → Case7 s p a s' p' a' e
case_7 s p a s' p' a' e =
    let heads = choices.heads s p a s' p' a' e in
    record { refused = ap (λ h. cond (is_equal h) (Some (EqualEpochs 0)) None) heads.refused; heads = heads }

pub eight_cases_lem : EightCases
eight_cases_lem = record {
  case_1 = case_1;
  case_2 = case_2;
  case_3 = case_3;
  case_4 = case_4;
  case_5 = choices.slots;
  case_6 = case_6;
  case_7 = case_7;
  case_8 = case_8;
}
