-- The bytes of a record and of a cursor.
use Rattle.std.specs.Prelude.{ℕ, ◌+◌, ◌^◌, ◌<◌, List, ◌++◌, take, drop}
use Rattle.std.specs.List.{between}
use Rattle.codec.specs.Bytes.{be, number}
use Rattle.journal.specs.declared.fault.Cursor.{Cursor}
use Rattle.journal.specs.declared.record.Record.{Record}
use Rattle.journal.specs.Places.{place}

-- key, next section 8, next position 8, value offset 8, value size 4; the key by its bytes
abbrev pub record_encoding : {K : Type 0} → (K → List ℕ) → Record K → List ℕ
record_encoding bytes r = (((bytes r.key ++ be 8 r.next.section) ++ be 8 r.next.position) ++ be 8 r.value_offset) ++ be 4 r.value_size

-- a record of its parts
abbrev pub record_with : {K : Type 0} → K → ℕ → ℕ → ℕ → ℕ → Record K
record_with k ns np offset size = record { key = k; next = place ns np; value_offset = offset; value_size = size }

-- the record that bytes of its length write, where keys have a width
abbrev pub record_read : {K : Type 0} → (List ℕ → K) → ℕ → List ℕ → Record K
record_read decoding w bs =
    record_with (decoding (take w bs)) (number (between w (w + 8) bs)) (number (between (w + 8) (w + 16) bs)) (number (between (w + 16) (w + 24) bs)) (number (between (w + 24) (w + 28) bs))

-- the numbers of a record fit their bytes
abbrev pub RecordFits : {K : Type 0} → Record K → Type 0
RecordFits r = (r.next.section < 2 ^ 64) × (r.next.position < 2 ^ 64) × (r.value_offset < 2 ^ 64) × (r.value_size < 2 ^ 32)

-- section 8, offset 8, size 4
abbrev pub cursor_bytes : Cursor → List ℕ
cursor_bytes c = be 8 c.section ++ (be 8 c.offset ++ be 4 c.size)

-- the cursor that 20 bytes write
abbrev pub cursor_read : List ℕ → Cursor
cursor_read bs = record { section = number (take 8 bs); offset = number (take 8 (drop 8 bs)); size = number (take 4 (drop 16 bs)) }
