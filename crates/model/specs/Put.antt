-- Freezer::put.
use Rattle.std.specs.Prelude.{ℕ, ◌+◌, ◌*◌, min, Bool, false, cond, ◌&&◌, List, [], ◌∷◌, length, Some, None, Option, Result, ◌==◌, nat_le, nat_lt}
use Rattle.codec.specs.Kinds.{Kinds, record_bytes}
use Rattle.table.specs.declared.entry.Entry.{Entry}
use Rattle.table.specs.declared.pair.Head.{Head}
use Rattle.table.specs.declared.pair.Head.TheVariants.{Vacant, Latest, Equal}
use Rattle.table.specs.Entries.{entry, slot}
use Rattle.table.specs.Store.{TableMeaning, Change, write, slot_0, slot_1}
use Rattle.journal.specs.declared.fault.Cursor.{Cursor}
use Rattle.journal.specs.Rows.{JournalMeaning, JournalChange, append, append_fault, value_end, stored_of}
use Rattle.model.specs.declared.Numbers.{Numbers}
use Rattle.model.specs.declared.Fault.{Fault}
use Rattle.model.specs.declared.Fault.TheVariants.{LastSection}
use Rattle.model.specs.Common.{refuse, ◌then◌, of_journal, unless, answered, last, raised, table_index, head_at, past_end, pair_past, pair_equal}

-- is the pair's image made already
abbrev pub above : Option ℕ → ℕ → Bool
above None i = false
above (Some p) i = nat_lt i p

-- what the head gives to a new row and entry
abbrev pub place_section : Head → ℕ
place_section Vacant = last
place_section (Latest h) = h.section
place_section Equal = last

-- and its position
abbrev pub place_position : Head → ℕ
place_position Vacant = last
place_position (Latest h) = h.position
place_position Equal = last

-- and how many rows were added
abbrev pub head_added : Head → ℕ
head_added Vacant = 0
head_added (Latest h) = h.added
head_added Equal = 0

-- the range of sections with unsynced rows, one put later
abbrev pub extended : Option (ℕ × ℕ) → ℕ → Option (ℕ × ℕ)
extended None s = Some (s, s)
extended (Some r) s = Some (r.0, s)

-- the section is full, so the next one is taken
abbrev pub is_full : Numbers → Bool
is_full v = nat_le v.target_size v.current_value_size

-- the section that the row goes to
abbrev pub put_section : Numbers → ℕ
put_section v = cond (is_full v) (v.current_section + 1) v.current_section

module _ {K V : Type 0} (kinds : Kinds K V) (v : Numbers) (t : TableMeaning) (j : JournalMeaning K) (fits : Bool) (k : K) (x : V) where
  -- the key's pair
  abbrev pub put_index : ℕ
  put_index = table_index kinds v.table_size k

  -- the slot that the new head goes to
  abbrev pub put_slot : ℕ
  put_slot = slot v.next_epoch (slot_0 t.cells put_index) (slot_1 t.cells put_index)

  -- the head that the row follows
  abbrev pub put_head : Head
  put_head = head_at t.cells put_index

  -- one more than the head has, at most 255
  abbrev pub put_added : ℕ
  put_added = min 255 (head_added put_head + 1)

  -- is the image written too
  abbrev pub mirrors : Bool
  mirrors = above v.resize_progress put_index

  -- the slot of the image
  abbrev pub put_image : ℕ
  put_image = 2 * (v.table_size + put_index) + put_slot

  -- where its stored value begins
  abbrev pub put_offset : ℕ
  put_offset = value_end j (put_section v)

  -- the size of its stored value
  abbrev pub put_size : ℕ
  put_size = length (stored_of (kinds.encode x))

  -- 19, 9, 11, then the journal's own: 13, 10
  abbrev pub put_fault : Option Fault
  put_fault =
      pair_past t put_index
      then cond mirrors (past_end t put_image) None
      then pair_equal t put_index
      then refuse (is_full v && nat_le last v.current_section) LastSection
      then of_journal (append_fault fits (record_bytes kinds) j (put_section v) put_size)

  -- the new head
  abbrev pub put_entry : Entry
  put_entry = entry v.next_epoch (put_section v) (length (j.rows (put_section v))) put_added

  -- one count for the pair, and one for its image
  abbrev pub put_due : ℕ
  put_due = raised (mirrors && put_added == v.resize_frequency) (raised (put_added == v.resize_frequency) v.resizable)

  -- the numbers afterwards
  abbrev pub after_put : Numbers
  after_put = record {
    table_size = v.table_size;
    resize_threshold = v.resize_threshold;
    resize_frequency = v.resize_frequency;
    resize_chunk_size = v.resize_chunk_size;
    target_size = v.target_size;
    current_section = put_section v;
    current_value_size = put_offset + put_size;
    next_epoch = v.next_epoch;
    resizable = put_due;
    resize_progress = v.resize_progress;
    modified_sections = extended v.modified_sections (put_section v);
  }

  -- where the value lies
  abbrev pub put_cursor : Cursor
  put_cursor = record { section = put_section v; offset = put_offset; size = put_size }

  -- the cursor, or the fault
  abbrev pub put_answer : Result Cursor Fault
  put_answer = answered put_fault put_cursor

  -- the pair's slot, then the image's
  abbrev pub put_table : List Change
  put_table = unless put_fault [] (write (2 * put_index + put_slot) put_entry ∷ cond mirrors (write put_image put_entry ∷ []) [])

  -- one row, whose next is the head
  abbrev pub put_journal : List (JournalChange K)
  put_journal = unless put_fault [] (append (put_section v) k (place_section put_head) (place_position put_head) (kinds.encode x) ∷ [])

  -- the same where it is refused
  abbrev pub put_numbers : Numbers
  put_numbers = unless put_fault v after_put
