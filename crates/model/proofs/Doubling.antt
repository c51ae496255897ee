-- A doubling that goes over several syncs, with puts on both sides of its progress and a crash in it.
use Rattle.std.proofs.Common.{◌≡◌, ℕ, ◌≤◌, true, [], ◌∷◌, length, Some, None, refl, ap, subst, arith}
use lib.Count.{ones, ones_in}
use Rattle.crc32c.specs.Crc.{one_bit, eight_bits}
use Rattle.codec.specs.Windows.{window_bytes}
use Rattle.table.specs.Entries.{entry_check, entry, empty}
use Rattle.table.specs.Store.{write}
use Rattle.journal.specs.Rows.{append, clear, restore, value_check, apply_all as apply_journal, sync as sync_sections}
use Rattle.model.specs.Common.{hash, last}
use Rattle.model.specs.Runs.{init, put, sync_call, new_ledger, New, Run, begin, ◌and◌, crashed, Crashed}
use Rattle.model.specs.Cases.{ModuleOfWindows, no_journal, numbers, after, checkpoint, window, windows}
use Rattle.model.specs.Witness.{wide, k1, k32, k33, k34, k35, begun, finished, Doubles}
use Rattle.model.proofs.Stages.{table_of, settled, pending, counts}
use Rattle.model.proofs.Written.{does, restarts, fallen, falls, zero_alone}

abbrev roomy : ModuleOfWindows
roomy = record { freezer = None; table = table_of 16 [] []; since = []; journal = no_journal; latest = None; ledger = new_ledger }

abbrev a1 : ModuleOfWindows
a1 = settled 16 (Some (counts wide 4 2 0 1 0 None None)) (empty ∷ empty ∷ empty ∷ empty ∷ empty ∷ empty ∷ empty ∷ empty ∷ []) (apply_journal 36 no_journal (clear ∷ [])) None ([])

init_1 : after roomy (init wide) ≡ a1
unfolding ones ones_in entry_check one_bit eight_bits value_check hash
init_1 = refl

abbrev a2 : ModuleOfWindows
a2 = pending a1 (Some (counts wide 4 2 20 1 1 None (Some (0, 0)))) (entry 1 0 0 1 ∷ empty ∷ empty ∷ empty ∷ empty ∷ empty ∷ empty ∷ empty ∷ []) (write 0 (entry 1 0 0 1) ∷ []) (append 0 k32 last last (window_bytes window)) ((k32, window) ∷ a1.ledger.lines)

put_2 : after a1 (put k32 window) ≡ a2
unfolding ones ones_in entry_check one_bit eight_bits value_check hash
put_2 = refl

abbrev a3 : ModuleOfWindows
a3 = pending a2 (Some (counts wide 4 2 40 1 2 None (Some (0, 0)))) (entry 1 0 0 1 ∷ empty ∷ empty ∷ empty ∷ empty ∷ empty ∷ entry 1 0 1 1 ∷ empty ∷ []) (write 0 (entry 1 0 0 1) ∷ write 6 (entry 1 0 1 1) ∷ []) (append 0 k33 last last (window_bytes window)) ((k33, window) ∷ a2.ledger.lines)

put_3 : after a2 (put k33 window) ≡ a3
unfolding ones ones_in entry_check one_bit eight_bits value_check hash
put_3 = refl

abbrev a4 : ModuleOfWindows
a4 = settled 16 (Some (counts wide 4 2 40 2 1 (Some 1) None)) (entry 1 0 0 0 ∷ empty ∷ empty ∷ empty ∷ empty ∷ empty ∷ entry 1 0 1 1 ∷ empty ∷ entry 1 0 0 0 ∷ empty ∷ empty ∷ empty ∷ empty ∷ empty ∷ empty ∷ empty ∷ []) (apply_journal 36 a3.journal (sync_sections 0 0 ∷ [])) (Some (checkpoint 1 0 72 4)) ((k33, window) ∷ (k32, window) ∷ [])

sync_4 : after a3 sync_call ≡ a4
unfolding ones ones_in entry_check one_bit eight_bits value_check hash
sync_4 = refl

abbrev a5 : ModuleOfWindows
a5 = pending a4 (Some (counts wide 4 2 60 2 3 (Some 1) (Some (0, 0)))) (entry 1 0 0 0 ∷ entry 2 0 2 1 ∷ empty ∷ empty ∷ empty ∷ empty ∷ entry 1 0 1 1 ∷ empty ∷ entry 1 0 0 0 ∷ entry 2 0 2 1 ∷ empty ∷ empty ∷ empty ∷ empty ∷ empty ∷ empty ∷ []) (write 1 (entry 2 0 2 1) ∷ write 9 (entry 2 0 2 1) ∷ []) (append 0 k35 0 0 (window_bytes window)) ((k35, window) ∷ a4.ledger.lines)

put_5 : after a4 (put k35 window) ≡ a5
unfolding ones ones_in entry_check one_bit eight_bits value_check hash
put_5 = refl

abbrev a6 : ModuleOfWindows
a6 = pending a5 (Some (counts wide 4 2 80 2 3 (Some 1) (Some (0, 0)))) (entry 1 0 0 0 ∷ entry 2 0 2 1 ∷ empty ∷ empty ∷ empty ∷ empty ∷ entry 1 0 1 1 ∷ entry 2 0 3 2 ∷ entry 1 0 0 0 ∷ entry 2 0 2 1 ∷ empty ∷ empty ∷ empty ∷ empty ∷ empty ∷ empty ∷ []) (write 1 (entry 2 0 2 1) ∷ write 9 (entry 2 0 2 1) ∷ write 7 (entry 2 0 3 2) ∷ []) (append 0 k34 0 1 (window_bytes window)) ((k34, window) ∷ a5.ledger.lines)

put_6 : after a5 (put k34 window) ≡ a6
unfolding ones ones_in entry_check one_bit eight_bits value_check hash
put_6 = refl

abbrev a7 : ModuleOfWindows
a7 = settled 16 (Some (counts wide 4 2 80 3 3 (Some 2) None)) (entry 1 0 0 0 ∷ entry 2 0 2 1 ∷ empty ∷ empty ∷ empty ∷ empty ∷ entry 1 0 1 1 ∷ entry 2 0 3 2 ∷ entry 1 0 0 0 ∷ entry 2 0 2 1 ∷ empty ∷ empty ∷ empty ∷ empty ∷ empty ∷ empty ∷ []) (apply_journal 36 a6.journal (sync_sections 0 0 ∷ [])) (Some (checkpoint 2 0 144 4)) ((k34, window) ∷ (k35, window) ∷ (k33, window) ∷ (k32, window) ∷ [])

sync_7 : after a6 sync_call ≡ a7
unfolding ones ones_in entry_check one_bit eight_bits value_check hash
sync_7 = refl

abbrev a8 : ModuleOfWindows
a8 = pending a7 (Some (counts wide 4 2 100 3 5 (Some 2) (Some (0, 0)))) (entry 1 0 0 0 ∷ entry 2 0 2 1 ∷ entry 3 0 4 1 ∷ empty ∷ empty ∷ empty ∷ entry 1 0 1 1 ∷ entry 2 0 3 2 ∷ entry 1 0 0 0 ∷ entry 2 0 2 1 ∷ entry 3 0 4 1 ∷ empty ∷ empty ∷ empty ∷ empty ∷ empty ∷ []) (write 2 (entry 3 0 4 1) ∷ write 10 (entry 3 0 4 1) ∷ []) (append 0 k1 last last (window_bytes window)) ((k1, window) ∷ a7.ledger.lines)

put_8 : after a7 (put k1 window) ≡ a8
unfolding ones ones_in entry_check one_bit eight_bits value_check hash
put_8 = refl

-- the crash leaves the durable entries and rows
abbrev a9 : ModuleOfWindows
a9 = fallen windows a8 1

abbrev a10 : ModuleOfWindows
a10 = settled 16 (Some (counts wide 4 2 80 3 2 None None)) (entry 1 0 0 0 ∷ entry 2 0 2 1 ∷ empty ∷ empty ∷ empty ∷ empty ∷ entry 1 0 1 1 ∷ entry 2 0 3 2 ∷ []) (apply_journal 36 a9.journal (restore 0 144 ∷ [])) (Some (checkpoint 2 0 144 4)) ((k34, window) ∷ (k35, window) ∷ (k33, window) ∷ (k32, window) ∷ [])

init_10 : after a9 (init wide) ≡ a10
unfolding ones ones_in entry_check one_bit eight_bits value_check hash
init_10 = refl

abbrev a11 : ModuleOfWindows
a11 = settled 16 (Some (counts wide 4 2 80 4 1 (Some 1) None)) (entry 3 0 2 0 ∷ entry 2 0 2 1 ∷ empty ∷ empty ∷ empty ∷ empty ∷ entry 1 0 1 1 ∷ entry 2 0 3 2 ∷ entry 3 0 2 0 ∷ entry 2 0 2 1 ∷ empty ∷ empty ∷ empty ∷ empty ∷ empty ∷ empty ∷ []) a10.journal (Some (checkpoint 3 0 144 4)) ((k34, window) ∷ (k35, window) ∷ (k33, window) ∷ (k32, window) ∷ [])

sync_11 : after a10 sync_call ≡ a11
unfolding ones ones_in entry_check one_bit eight_bits value_check hash
sync_11 = refl

abbrev a12 : ModuleOfWindows
a12 = settled 16 (Some (counts wide 4 2 80 5 1 (Some 2) None)) (entry 3 0 2 0 ∷ entry 2 0 2 1 ∷ empty ∷ empty ∷ empty ∷ empty ∷ entry 1 0 1 1 ∷ entry 2 0 3 2 ∷ entry 3 0 2 0 ∷ entry 2 0 2 1 ∷ empty ∷ empty ∷ empty ∷ empty ∷ empty ∷ empty ∷ []) a11.journal (Some (checkpoint 4 0 144 4)) ((k34, window) ∷ (k35, window) ∷ (k33, window) ∷ (k32, window) ∷ [])

sync_12 : after a11 sync_call ≡ a12
unfolding ones ones_in entry_check one_bit eight_bits value_check hash
sync_12 = refl

abbrev a13 : ModuleOfWindows
a13 = settled 16 (Some (counts wide 4 2 80 6 1 (Some 3) None)) (entry 3 0 2 0 ∷ entry 2 0 2 1 ∷ empty ∷ empty ∷ empty ∷ empty ∷ entry 1 0 1 1 ∷ entry 2 0 3 2 ∷ entry 3 0 2 0 ∷ entry 2 0 2 1 ∷ empty ∷ empty ∷ empty ∷ empty ∷ empty ∷ empty ∷ []) a12.journal (Some (checkpoint 5 0 144 4)) ((k34, window) ∷ (k35, window) ∷ (k33, window) ∷ (k32, window) ∷ [])

sync_13 : after a12 sync_call ≡ a13
unfolding ones ones_in entry_check one_bit eight_bits value_check hash
sync_13 = refl

abbrev a14 : ModuleOfWindows
a14 = settled 16 (Some (counts wide 8 4 80 7 0 None None)) (entry 3 0 2 0 ∷ entry 2 0 2 1 ∷ empty ∷ empty ∷ empty ∷ empty ∷ entry 6 0 3 0 ∷ entry 2 0 3 2 ∷ entry 3 0 2 0 ∷ entry 2 0 2 1 ∷ empty ∷ empty ∷ empty ∷ empty ∷ entry 6 0 3 0 ∷ entry 2 0 3 2 ∷ []) a13.journal (Some (checkpoint 6 0 144 8)) ((k34, window) ∷ (k35, window) ∷ (k33, window) ∷ (k32, window) ∷ [])

sync_14 : after a13 sync_call ≡ a14
unfolding ones ones_in entry_check one_bit eight_bits value_check hash
sync_14 = refl

none_4 : (s : ℕ) → 1 ≤ s → a4.journal.rows s ≡ []
none_4 = zero_alone a2.journal.rows _ (zero_alone a1.journal.rows _ (λ s l. refl))

none_8 : (s : ℕ) → 1 ≤ s → a8.journal.rows s ≡ []
none_8 = zero_alone a7.journal.rows _ (zero_alone a5.journal.rows _ (zero_alone a4.journal.rows _ none_4))

crash_9 : Crashed windows a8 a8.table a8.since a8.journal a9
crash_9 = falls windows a8 1 none_8 (λ s e h. let z : s ≡ 0 = omega arith in absurd (omega (arith, ap length (subst (λ (w : ℕ). a9.journal.rows w ≡ []) z h))))

new : New windows roomy
new = record { freezer = refl; durable = refl; since = refl; rows = λ s. refl; counts = λ s. refl; sections = refl; latest = refl; ledger = refl }

half_run : Run windows begun a8
half_run =
    ◌and◌ (◌and◌ (◌and◌ (◌and◌ (◌and◌ (◌and◌ (◌and◌ (◌and◌ (begin roomy new)
    (restarts roomy a1 wide true refl init_1))
    (does a1 a2 (numbers a1) (put k32 window) true refl put_2))
    (does a2 a3 (numbers a2) (put k33 window) true refl put_3))
    (does a3 a4 (numbers a3) sync_call true refl sync_4))
    (does a4 a5 (numbers a4) (put k35 window) true refl put_5))
    (does a5 a6 (numbers a5) (put k34 window) true refl put_6))
    (does a6 a7 (numbers a6) sync_call true refl sync_7))
    (does a7 a8 (numbers a7) (put k1 window) true refl put_8)

whole_run : Run windows finished a14
whole_run =
    ◌and◌ (◌and◌ (◌and◌ (◌and◌ (◌and◌ (◌and◌ half_run
    (crashed a9 crash_9))
    (restarts a9 a10 wide true refl init_10))
    (does a10 a11 (numbers a10) sync_call true refl sync_11))
    (does a11 a12 (numbers a11) sync_call true refl sync_12))
    (does a12 a13 (numbers a12) sync_call true refl sync_13))
    (does a13 a14 (numbers a13) sync_call true refl sync_14)

pub doubles : Doubles
unfolding one_bit eight_bits hash
doubles = record { middle = a8; half = half_run; on = refl; moved = refl; unmoved = refl; ends = a14; run = whole_run; size = refl; over = refl; lines = refl }
