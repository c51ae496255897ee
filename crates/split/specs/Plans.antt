-- What an append and a restore of a split journal need to know before they write.
use Rattle.std.specs.Prelude.{◌≡◌, ℕ, ◌+◌, ◌*◌, ◌/◌, List, length, take, Result}
use Rattle.codec.specs.declared.decoded.DecodedKey.{Ghosts as DecodedMembers}
use Rattle.codec.specs.declared.key.Key.{Ghosts as KeyMembers}
use Rattle.journal.specs.declared.fault.JournalFault.{JournalFault}
use Rattle.journal.specs.Answers.{answered}
use Rattle.journal.specs.Rows.{append_fault, restore_fault, stored_bytes}
use Rattle.split.specs.declared.place.Cut.{Cut}
use Rattle.split.specs.declared.place.Spot.{Spot}
use Rattle.split.specs.declared.section.Section.{Section}
use Rattle.split.specs.declared.store.SplitJournal.{SplitJournal}
use Rattle.split.specs.Directory.{before, entry, numbers}
use Rattle.split.specs.Parts.{Part, byte_total, directory_of, row_total, rows_at, under}
use Rattle.split.specs.Whole.{meaning, parts, space}

module _ {K : Type 0} (s : ℕ) (ps : List (Part K)) where
  -- how many entries stand before the section
  abbrev pub at_entry : ℕ
  at_entry = before s (numbers (directory_of 0 0 ps))

  -- its entry, where it has rows of this number and of so many stored bytes
  abbrev pub entry_with : ℕ → ℕ → Section
  entry_with rows bytes = entry s (row_total (under s ps)) (byte_total (under s ps)) rows bytes

  -- its entry, as its rows are
  abbrev pub entry_at : Section
  entry_at = entry_with (length (rows_at s ps)) (stored_bytes (rows_at s ps))

  -- where a row goes
  abbrev pub place_of : ℕ → Spot
  place_of w = record { at = at_entry; row = row_total ps * (w + 28); byte = byte_total ps; entry = entry_at }

  -- where a restore to n rows cuts
  abbrev pub cut_of : ℕ → Cut
  cut_of n = record { at = at_entry; entry = entry_with n (stored_bytes (take n (rows_at s ps))) }

-- the entry of its own number
abbrev pub IsEntry : {K : Type 0} → List (Part K) → Section → Type 0
IsEntry ps d = d ≡ entry_at d.number ps

module _ {K : Type 0} {d : DecodedMembers K} {k : KeyMembers K} (j : SplitJournal K d k) where
  -- where a row with a value of n bytes goes, or 13, 10
  abbrev pub place_answer : ℕ → ℕ → Result Spot JournalFault
  place_answer s n = answered (append_fault (space j s n) (k.WIDTH + 28) (meaning j) s (n + 4)) (place_of s (parts j) k.WIDTH)

  -- where a restore cuts, or 7
  abbrev pub cut_answer : ℕ → ℕ → Result Cut JournalFault
  cut_answer s bytes = answered (restore_fault (k.WIDTH + 28) (meaning j) s bytes) (cut_of s (parts j) (bytes / (k.WIDTH + 28)))
