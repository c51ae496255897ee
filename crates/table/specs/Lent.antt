-- What lent memory means: entries in bytes, and two tables of entries.
use Rattle.std.specs.Prelude.{ℕ, ◌*◌, ◌/◌, ◌≤◌, min, true, false, cond, List, map, length, take, drop, None, Ok, Err, Result, nat_le}
use Rattle.std.specs.List.{range_with_len}
use Rattle.table.specs.declared.entry.Entry.{Entry}
use Rattle.table.specs.declared.fault.TableFault.{TableFault}
use Rattle.table.specs.declared.fault.TableFault.TheVariants.{TooMany}
use Rattle.table.specs.Entries.{entry_read}
use Rattle.table.specs.Store.{TableMeaning}

-- 8: may a table of so many entries at most be made of n
abbrev pub making_check : ℕ → ℕ → Result (Unit {0}) TableFault
making_check most n = cond (nat_le n most) (Ok tt) (Err TooMany)

-- ---- entries of 29 bytes, each change durable at once

-- entry i lies in the 29 bytes from 29 i on
unfoldable pub entry_at : List ℕ → ℕ → Entry
entry_at bs i = entry_read (take 29 (drop (29 * i) bs))

-- the first n of them
abbrev pub entries_in : ℕ → List ℕ → List Entry
entries_in n bs = map (entry_at bs) (range_with_len 0 n)

-- as many as have room
abbrev pub byte_most : List ℕ → ℕ
byte_most bs = length bs / 29

-- the table of the first n
abbrev pub byte_means : List ℕ → ℕ → TableMeaning
byte_means bs n = record { cells = entries_in n bs; durable = entries_in n bs; most = byte_most bs; eager = true; asked = None }

-- they have room
abbrev pub IsByteGood : List ℕ → ℕ → Type 0
IsByteGood bs n = n ≤ byte_most bs

-- ---- a working and a durable table of entries; a change reaches the durable one by a sync

-- the shorter of the two
abbrev pub staged_most : List Entry → List Entry → ℕ
staged_most working durable = min (length working) (length durable)

-- n working entries, and k durable ones
abbrev pub staged_means : List Entry → List Entry → ℕ → ℕ → TableMeaning
staged_means working durable n k = record { cells = take n working; durable = take k durable; most = staged_most working durable; eager = false; asked = None }

-- they have room
abbrev pub IsStagedGood : List Entry → List Entry → ℕ → ℕ → Type 0
IsStagedGood working durable n k = (n ≤ staged_most working durable) × (k ≤ length durable)
