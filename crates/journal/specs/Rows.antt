-- What a journal means, what each change asked of it makes of that, and what its questions answer.
use Rattle.std.specs.Prelude.{ℕ, zero, suc, ◌+◌, ◌-◌, ◌*◌, ◌/◌, ◌%◌, ◌^◌, min, max, Bool, true, false, cond, not, ◌&&◌, ◌||◌, List, [], ◌∷◌, ◌++◌, length, take, drop, Some, None, Ok, Err, Option, Result, ◌==◌, nat_le, nat_lt}
use Rattle.crc32c.specs.Crc.{crc}
use Rattle.codec.specs.Asked.{noted}
use Rattle.codec.specs.Bytes.{be, number}
use Rattle.journal.specs.declared.fault.Cursor.{Cursor}
use Rattle.journal.specs.declared.fault.JournalFault.{JournalFault}
use Rattle.journal.specs.declared.fault.JournalFault.TheVariants.{Restore, Full, Below, NoValue, Check, Kind}

-- a record and its stored value; the record's value offset and size follow from the rows before it
pub record Row (K : Type 0) : Type 0 where
  pub key : K
  pub next_section : ℕ
  pub next_position : ℕ
  pub stored : List ℕ

-- what is asked of a journal
pub data JournalChange (K : Type 0) : Type 0 where
  append : (section : ℕ) (key : K) (next_section next_position : ℕ) (encoding : List ℕ) → JournalChange K
  sync : (first last : ℕ) → JournalChange K
  restore : (section bytes : ℕ) → JournalChange K
  clear : JournalChange K

-- rows and how many of them are durable, by section; `sections` is one more than the highest section with rows
pub record JournalMeaning (K : Type 0) : Type 0 where
  pub rows : ℕ → List (Row K)
  pub durable : ℕ → ℕ
  pub sections : ℕ
  pub eager : Bool
  pub asked : Option (List (JournalChange K))

-- no size and no end of a section passes 2 ^ 63: so of a section of these rows and stored bytes with one row more
abbrev pub in_limits : ℕ → ℕ → ℕ → ℕ → Bool
in_limits size rows bytes stored = nat_le (suc rows * size) (2 ^ 63) && nat_le (bytes + stored) (2 ^ 63)

-- ---- values

-- the check of a value
unfoldable pub value_check : List ℕ → ℕ
value_check encoding = crc encoding

-- a stored value is its encoding, then its check
abbrev pub stored_of : List ℕ → List ℕ
stored_of encoding = encoding ++ be 4 (value_check encoding)

-- a stored value without its check
abbrev pub encoding_of : List ℕ → List ℕ
encoding_of stored = take (length stored - 4) stored

-- the check that is stored with a value
abbrev pub check_of : List ℕ → ℕ
check_of stored = number (drop (length stored - 4) stored)

module _ {K : Type 0} where
  -- the stored bytes of rows
  abbrev pub stored_bytes : List (Row K) → ℕ
  stored_bytes [] = 0
  stored_bytes (r ∷ rs) = length r.stored + stored_bytes rs

  -- the row at a position
  abbrev pub row_at : List (Row K) → ℕ → Option (Row K)
  row_at [] p = None
  row_at (r ∷ rs) zero = Some r
  row_at (r ∷ rs) (suc p) = row_at rs p

  -- has a section no rows
  abbrev pub none_there : List (Row K) → Bool
  none_there [] = true
  none_there (r ∷ rs) = false

  -- one more than the highest section below n that has rows
  abbrev pub trimmed : ℕ → (ℕ → List (Row K)) → ℕ
  trimmed zero rows = zero
  trimmed (suc n) rows = cond (none_there (rows n)) (trimmed n rows) (suc n)

  -- ---- changes

  -- one row more in section s
  abbrev pub appended : ℕ → Row K → (ℕ → List (Row K)) → (ℕ → List (Row K))
  appended s r rows i = cond (i == s) (rows i ++ (r ∷ [])) (rows i)

  -- earlier sections, and the first n rows of section s
  abbrev pub kept : ℕ → ℕ → (ℕ → List (Row K)) → (ℕ → List (Row K))
  kept s n rows i = cond (nat_lt i s) (rows i) (cond (i == s) (take n (rows i)) [])

  -- the rows after a change
  abbrev pub rows_after : ℕ → JournalChange K → (ℕ → List (Row K)) → (ℕ → List (Row K))
  rows_after size (append s k ns np enc) rows = appended s (record { key = k; next_section = ns; next_position = np; stored = stored_of enc }) rows
  rows_after size (sync a b) rows = rows
  rows_after size (restore s bytes) rows = kept s (bytes / size) rows
  rows_after size clear rows = λ i. []

  -- the sections that are durable, whole, after a change
  abbrev pub made_durable : JournalChange K → Bool → ℕ → Bool
  made_durable (append s k ns np enc) eager i = eager && i == s
  made_durable (sync a b) eager i = nat_le a i && nat_le i b
  made_durable (restore s bytes) eager i = true
  made_durable clear eager i = true

  -- one more than the highest section with rows, after a change
  abbrev pub sections_after : JournalChange K → (ℕ → List (Row K)) → ℕ → ℕ
  sections_after (append s k ns np enc) rows n = max n (suc s)
  sections_after (sync a b) rows n = n
  sections_after (restore s bytes) rows n = trimmed (min n (suc s)) rows
  sections_after clear rows n = 0

  -- `size` is the bytes of a record
  abbrev pub apply : ℕ → JournalMeaning K → JournalChange K → JournalMeaning K
  apply size j c = record {
    rows = rows_after size c j.rows;
    durable = λ i. cond (made_durable c j.eager i) (length (rows_after size c j.rows i)) (j.durable i);
    sections = sections_after c (rows_after size c j.rows) j.sections;
    eager = j.eager;
    asked = noted c j.asked;
  }

  -- several changes, in order
  abbrev pub apply_all : ℕ → JournalMeaning K → List (JournalChange K) → JournalMeaning K
  apply_all size j [] = j
  apply_all size j (c ∷ cs) = apply_all size (apply size j c) cs

  -- ---- questions

  -- has a section above s rows
  abbrev pub later_than : ℕ → JournalMeaning K → Bool
  later_than s j = nat_lt (suc s) j.sections

  -- the stored bytes of a section
  abbrev pub value_end : JournalMeaning K → ℕ → ℕ
  value_end j s = stored_bytes (j.rows s)

  -- ---- what stops an append or a restore; `size` is the bytes of a record, `stored` those of the stored value

  -- no journal fits a row that takes its section past that
  abbrev pub in_bounds : ℕ → JournalMeaning K → ℕ → ℕ → Bool
  in_bounds size j s stored = in_limits size (length (j.rows s)) (value_end j s) stored

  -- 13: a section below the highest with rows; 10: the row does not fit, for want of space or of bounds
  abbrev pub append_fault : (space : Bool) → ℕ → JournalMeaning K → ℕ → ℕ → Option JournalFault
  append_fault space size j s stored =
      cond (later_than s j) (Some (Below s)) (cond (space && in_bounds size j s stored) None (Some (Full s)))

  -- 7: fewer bytes than stated, or no whole records
  abbrev pub restore_fault : ℕ → JournalMeaning K → ℕ → ℕ → Option JournalFault
  restore_fault size j s bytes = cond (nat_lt (length (j.rows s) * size) bytes || not (bytes % size == 0)) (Some (Restore s)) None

  -- the stored value at an offset, of a size, where rows begin at `from`
  abbrev pub stored_at : ℕ → List (Row K) → ℕ → ℕ → Option (List ℕ)
  stored_at from [] offset size = None
  stored_at from (r ∷ rs) offset size =
      cond (from == offset && length r.stored == size) (Some r.stored) (stored_at (from + length r.stored) rs offset size)

-- ---- a value by its cursor: 16, 17, 18

module _ {V : Type 0} (decode : List ℕ → Option V) where
  -- 18: bytes that are no value of the kind
  abbrev pub decoded : Cursor → Option V → Result V JournalFault
  decoded c None = Err (Kind (Some c))
  decoded c (Some v) = Ok v

  -- 17: a wrong check
  abbrev pub checked : Cursor → List ℕ → Result V JournalFault
  checked c stored =
      cond (value_check (encoding_of stored) == check_of stored)
      (decoded c (decode (encoding_of stored)))
      (Err (Check (check_of stored) (value_check (encoding_of stored))))

  -- 16: no row has this place, or its bytes are too few for a check
  abbrev pub value_there : Cursor → Option (List ℕ) → Result V JournalFault
  value_there c None = Err (NoValue c)
  value_there c (Some stored) = cond (nat_lt (length stored) 4) (Err (NoValue c)) (checked c stored)

  -- the value at a cursor
  abbrev pub value_answer : {K : Type 0} → JournalMeaning K → Cursor → Result V JournalFault
  value_answer j c = value_there c (stored_at 0 (j.rows c.section) c.offset c.size)
