-- A run with every kind of event.
use Rattle.std.proofs.Common.{◌≡◌, ℕ, zero, suc, ◌<◌, ◌≤◌, true, false, List, [], ◌∷◌, length, Some, None, refl, ap, subst, inl, inr, arith}
use lib.Count.{ones, ones_in}
use Rattle.crc32c.specs.Crc.{one_bit, eight_bits}
use Rattle.table.specs.declared.entry.Entry.{Entry}
use Rattle.table.specs.Entries.{entry_check, entry, empty}
use Rattle.table.specs.Store.{Change, write, at}
use Rattle.journal.specs.Rows.{restore, value_check, apply_all as apply_journal}
use Rattle.model.specs.Common.{hash}
use Rattle.model.specs.Runs.{broken, init, put, get, get_at, has, sync_call, close, Step, broke, calls, New, Run, begin, ◌and◌, crashed, Crashed, MayHold, open_effect, after_done}
use Rattle.model.specs.Cases.{ModuleOfWindows, new_module, numbers, after, checkpoint, cursor, window, windows, one, two, three}
use Rattle.model.specs.Witness.{small, every_kind, Happens}
use Rattle.model.proofs.Holds.{kept_after}
use Rattle.model.proofs.Stages.{table_of, settled, counts, stage_0, stage_1, stage_2, stage_3, opened_is, put_1, put_2, sync_3}
use Rattle.model.proofs.Written.{does, restarts, fallen, falls, zero_alone}

new : New windows new_module
new = record { freezer = refl; durable = refl; since = refl; rows = λ s. refl; counts = λ s. refl; sections = refl; latest = refl; ledger = refl }

-- ---- lookups, and a put that does not fit, leave all as it is

get_1 : after stage_1 (get one) ≡ stage_1
unfolding ones ones_in entry_check one_bit eight_bits value_check hash
get_1 = refl

get_at_1 : after stage_1 (get_at (cursor 0 0 20)) ≡ stage_1
unfolding ones ones_in entry_check one_bit eight_bits value_check hash
get_at_1 = refl

has_1 : after stage_1 (has one) ≡ stage_1
unfolding ones ones_in entry_check one_bit eight_bits value_check hash
has_1 = refl

unfit : after_done windows stage_3 (put three window) (open_effect windows (numbers stage_3) stage_3 (put three window) false) ≡ stage_3
unfolding ones ones_in entry_check one_bit eight_bits value_check hash
unfit = refl

-- ---- a put broken off when its entry was written and its row was not; the entry is left failing

abbrev scratched : Entry
scratched = record { epoch = 2; section = 0; position = 2; added = 1; crc = 0 }

abbrev written : List Change
written = write 1 (entry 2 0 2 1) ∷ []

abbrev b4 : ModuleOfWindows
b4 = record {
  freezer = None;
  table = let cells = entry 1 0 1 0 ∷ scratched ∷ entry 1 0 1 0 ∷ empty ∷ [] in table_of 8 cells cells;
  since = [];
  journal = (fallen windows stage_3 1).journal;
  latest = stage_3.latest;
  ledger = stage_3.ledger;
}

none_3 : (s : ℕ) → 1 ≤ s → stage_3.journal.rows s ≡ []
none_3 = zero_alone stage_1.journal.rows _ (zero_alone stage_0.journal.rows _ (λ s l. refl))

some_3 : (s : ℕ) → 1 ≡ suc s → (fallen windows stage_3 1).journal.rows s ≡ [] → ⊥
some_3 s e h = let z : s ≡ 0 = omega arith in absurd (omega (arith, ap length (subst (λ (w : ℕ). (fallen windows stage_3 1).journal.rows w ≡ []) z h)))

holds_at : (i : ℕ) → i < 4 → MayHold stage_3.table.durable written i (at b4.table.cells i)
unfolding entry_check one_bit eight_bits
holds_at zero h = inl refl
holds_at (suc zero) h = inr (refl, inr (inr refl))
holds_at (suc (suc zero)) h = inl refl
holds_at (suc (suc (suc zero))) h = inl refl
holds_at (suc (suc (suc (suc i)))) h = absurd (omega arith)

broken_4 : Step windows stage_3 (broken (put three window) true) b4
unfolding ones ones_in entry_check one_bit eight_bits value_check hash
broken_4 =
    broke (put three window) true _ (calls (numbers stage_3) (put three window) true refl) written [] refl [] _ refl b4
    (record {
      freezer = refl;
      table = record { held = inl refl; entries = holds_at; durable = refl; most = refl; eager = refl; asked = refl };
      since = refl;
      journal = (falls windows stage_3 1 none_3 some_3).journal;
      latest = refl;
      ledger = refl;
    })

-- ---- init empties it; a crash; init, init over an open freezer, close

abbrev cells : List Entry
cells = entry 1 0 1 0 ∷ empty ∷ entry 1 0 1 0 ∷ empty ∷ []

abbrev reopened : ModuleOfWindows → ModuleOfWindows
reopened m = settled 8 (Some (counts small 2 1 40 2 0 None None)) cells (apply_journal 36 m.journal (restore 0 72 ∷ [])) (Some (checkpoint 1 0 72 2)) ((two, window) ∷ (one, window) ∷ [])

abbrev b5 : ModuleOfWindows
b5 = reopened b4

init_5 : after b4 (init small) ≡ b5
unfolding ones ones_in entry_check one_bit eight_bits value_check hash
init_5 = refl

abbrev b6 : ModuleOfWindows
b6 = fallen windows b5 1

crash_6 : Crashed windows b5 b5.table b5.since b5.journal b6
crash_6 = falls windows b5 1 (λ s l. kept_after 36 0 72 2 s b4.journal.rows l) (λ s e h. let z : s ≡ 0 = omega arith in absurd (omega (arith, ap length (subst (λ (w : ℕ). b6.journal.rows w ≡ []) z h))))

abbrev b7 : ModuleOfWindows
b7 = reopened b6

init_7 : after b6 (init small) ≡ b7
unfolding ones ones_in entry_check one_bit eight_bits value_check hash
init_7 = refl

abbrev b8 : ModuleOfWindows
b8 = reopened b7

init_8 : after b7 (init small) ≡ b8
unfolding ones ones_in entry_check one_bit eight_bits value_check hash
init_8 = refl

abbrev b9 : ModuleOfWindows
b9 = settled 8 None cells b8.journal (Some (checkpoint 2 0 72 2)) ((two, window) ∷ (one, window) ∷ [])

close_9 : after b8 close ≡ b9
unfolding ones ones_in entry_check one_bit eight_bits value_check hash
close_9 = refl

run : Run windows every_kind b9
run =
    ◌and◌ (◌and◌ (◌and◌ (◌and◌ (◌and◌ (◌and◌ (◌and◌ (◌and◌ (◌and◌ (◌and◌ (◌and◌ (◌and◌ (◌and◌ (◌and◌ (begin new_module new)
    (restarts new_module stage_0 small true refl opened_is))
    (does stage_0 stage_1 (numbers stage_0) (put one window) true refl put_1))
    (does stage_1 stage_1 (numbers stage_1) (get one) true refl get_1))
    (does stage_1 stage_1 (numbers stage_1) (get_at (cursor 0 0 20)) true refl get_at_1))
    (does stage_1 stage_1 (numbers stage_1) (has one) true refl has_1))
    (does stage_1 stage_2 (numbers stage_1) (put two window) true refl put_2))
    (does stage_2 stage_3 (numbers stage_2) sync_call true refl sync_3))
    (does stage_3 stage_3 (numbers stage_3) (put three window) false refl unfit))
    broken_4)
    (restarts b4 b5 small true refl init_5))
    (crashed b6 crash_6))
    (restarts b6 b7 small true refl init_7))
    (does b7 b8 (numbers b7) (init small) true refl init_8))
    (does b8 b9 (numbers b8) close true refl close_9)

pub happens : Happens
happens = record { ends = b9; run = run; shut = refl; lines = refl }
