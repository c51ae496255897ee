-- Freezer::get and Freezer::has.
use Rattle.std.specs.Prelude.{ℕ, zero, suc, ◌+◌, Bool, true, false, cond, ◌&&◌, List, length, take, Some, None, Ok, Err, Option, Result, ◌==◌}
use Rattle.std.specs.Str.{bytes_eq}
use Rattle.codec.specs.Kinds.{Kinds}
use Rattle.table.specs.declared.pair.Head.{Head}
use Rattle.table.specs.declared.pair.Head.TheVariants.{Vacant, Latest, Equal}
use Rattle.table.specs.Store.{TableMeaning}
use Rattle.journal.specs.Places.{place}
use Rattle.journal.specs.declared.fault.Cursor.{Cursor}
use Rattle.journal.specs.declared.fault.JournalFault.{JournalFault}
use Rattle.journal.specs.declared.fault.JournalFault.TheVariants.{NoRow}
use Rattle.journal.specs.Rows.{Row, JournalMeaning, row_at, stored_bytes, value_answer}
use Rattle.model.specs.declared.Numbers.{Numbers}
use Rattle.model.specs.declared.Fault.{Fault}
use Rattle.model.specs.declared.Fault.TheVariants.{NotEarlier, Journal}
use Rattle.model.specs.Common.{◌then◌, last, earlier, table_index, head_at, pair_past, pair_equal}

-- all ones mean none
abbrev pub has_no_next : {K : Type 0} → Row K → Bool
has_no_next r = r.next_section == last && r.next_position == last

-- the rows of the sections below s
abbrev pub rows_below : {K : Type 0} → (ℕ → List (Row K)) → ℕ → ℕ
rows_below rows zero = 0
rows_below rows (suc s) = rows_below rows s + length (rows s)

module _ {K V : Type 0} (kinds : Kinds K V) (rows : ℕ → List (Row K)) (k : K) where
  -- one row met, at each 14, then where the key differs 15; `on` goes on from a place
  abbrev pub met : ℕ → ℕ → (ℕ → ℕ → Result (Option Cursor) Fault) → Option (Row K) → Result (Option Cursor) Fault
  met s p on None = Err (Journal (NoRow (place s p)))
  met s p on (Some r) =
      cond (bytes_eq (kinds.bytes r.key) (kinds.bytes k))
      (Ok (Some (record { section = s; offset = stored_bytes (take p (rows s)); size = length r.stored })))
      (cond (has_no_next r) (Ok None)
      (cond (earlier r.next_section r.next_position s p) (on r.next_section r.next_position) (Err (NotEarlier (place s p)))))

  -- rows met from a place; each turn takes one of the fuel, and there are never more turns than rows up to the place
  abbrev pub walk : ℕ → ℕ → ℕ → Result (Option Cursor) Fault
  walk zero s p = Err (Journal (NoRow (place s p)))
  walk (suc fuel) s p = met s p (λ a b. walk fuel a b) (row_at (rows s) p)

  -- from the head of a pair
  abbrev pub walk_from : Head → Result (Option Cursor) Fault
  walk_from Vacant = Ok None
  walk_from (Latest h) = walk (suc (rows_below rows h.section + h.position)) h.section h.position
  walk_from Equal = Ok None

module _ {K V : Type 0} (kinds : Kinds K V) (v : Numbers) (t : TableMeaning) (j : JournalMeaning K) where
  -- the walk, unless the pair stops it
  abbrev pub found_by : Option Fault → Result (Option Cursor) Fault → Result (Option Cursor) Fault
  found_by (Some f) r = Err f
  found_by None r = r

  -- the first row met with that key, by the cursor of its value: 19, 9, then at each row 14 and 15
  abbrev pub find_key : K → Result (Option Cursor) Fault
  find_key k =
      let i = table_index kinds v.table_size k in
      found_by (pair_past t i then pair_equal t i) (walk_from kinds j.rows k (head_at t.cells i))

  -- the journal's answer, its fault whole
  abbrev pub lifted : {A : Type 0} → Result A JournalFault → Result (Option A) Fault
  lifted (Ok a) = Ok (Some a)
  lifted (Err f) = Err (Journal f)

  -- get by cursor: 16, 17, 18
  abbrev pub get_cursor : Cursor → Result (Option V) Fault
  get_cursor c = lifted (value_answer kinds.decode j c)

  -- the value of the row found
  abbrev pub get_found : Result (Option Cursor) Fault → Result (Option V) Fault
  get_found (Err f) = Err f
  get_found (Ok None) = Ok None
  get_found (Ok (Some c)) = get_cursor c

  -- get by key
  abbrev pub get_answer : K → Result (Option V) Fault
  get_answer k = get_found (find_key k)

  -- whether a row was found
  abbrev pub has_found : Result (Option Cursor) Fault → Result Bool Fault
  has_found (Err f) = Err f
  has_found (Ok None) = Ok false
  has_found (Ok (Some c)) = Ok true

  -- has
  abbrev pub has_answer : K → Result Bool Fault
  has_answer k = has_found (find_key k)
