-- What stops a journal: the number of each fault, and its details in order.
use Rattle.std.specs.Prelude.{ℕ, List, [], ◌∷◌, Some, None, Option}
use Rattle.journal.specs.declared.fault.Cursor.{Cursor}
use Rattle.journal.specs.declared.fault.JournalFault.{JournalFault}
use Rattle.journal.specs.declared.fault.JournalFault.TheVariants.{Restore, Full, Below, NoRow, NoValue, Check, Kind}

-- the number of each fault
abbrev pub journal_number : JournalFault → ℕ
journal_number (Restore s) = 7
journal_number (Full s) = 10
journal_number (Below s) = 13
journal_number (NoRow p) = 14
journal_number (NoValue c) = 16
journal_number (Check a b) = 17
journal_number (Kind c) = 18

-- section, offset, size
abbrev pub cursor_numbers : Cursor → List ℕ
cursor_numbers c = c.section ∷ c.offset ∷ c.size ∷ []

-- none for bytes that have no place
abbrev pub place_numbers : Option Cursor → List ℕ
place_numbers None = []
place_numbers (Some c) = cursor_numbers c

-- a section; a section and a position; a cursor; the stored check and that of the bytes
abbrev pub journal_details : JournalFault → List ℕ
journal_details (Restore s) = s ∷ []
journal_details (Full s) = s ∷ []
journal_details (Below s) = s ∷ []
journal_details (NoRow p) = p.section ∷ p.position ∷ []
journal_details (NoValue c) = cursor_numbers c
journal_details (Check a b) = a ∷ b ∷ []
journal_details (Kind c) = place_numbers c
