-- The log: rows one behind the other, and zeros behind them.
use Rattle.std.specs.Prelude.{◌≡◌, ℕ, zero, suc, ◌+◌, ◌^◌, ◌<◌, ◌≤◌, Bool, cond, ◌&&◌, ◌||◌, List, [], ◌∷◌, ◌++◌, length, drop, ◌==◌, nat_le, nat_lt, slice_index}
use Rattle.std.specs.List.{between}
use Rattle.std.specs.Int.Digits.{AllBelowBase}
use Rattle.crc32c.specs.Crc.{crc}
use Rattle.codec.specs.Bytes.{be, number}
use Rattle.journal.specs.declared.row.RowView.{RowView}
use Rattle.journal.specs.declared.step.Step.{Step}
use Rattle.journal.specs.declared.step.Step.TheVariants.{Row, Blank, Spoiled}

-- ---- a row as it lies in the log

-- the place of the next row of its chain is a section and a position; a key and a value are their bytes
pub record LogRow : Type 0 where
  pub section : ℕ
  pub key : List ℕ
  pub next_section : ℕ
  pub next_position : ℕ
  pub value : List ℕ

-- a row of its parts
abbrev pub log_row : ℕ → List ℕ → ℕ → ℕ → List ℕ → LogRow
log_row s k ns np v = record { section = s; key = k; next_section = ns; next_position = np; value = v }

-- mark 46 5A, section 8, key, next section 8, next position 8
abbrev pub head_bytes : ℕ → List ℕ → ℕ → ℕ → List ℕ
head_bytes section key next_section next_position =
    (((0x46 ∷ 0x5A ∷ be 8 section) ++ key) ++ be 8 next_section) ++ be 8 next_position

-- value length 4, value, check of the value 4
abbrev pub tail_bytes : List ℕ → List ℕ
tail_bytes value = (be 4 (length value) ++ value) ++ be 4 (crc value)

-- the bytes of a row
abbrev pub row_bytes : LogRow → List ℕ
row_bytes r = head_bytes r.section r.key r.next_section r.next_position ++ tail_bytes r.value

-- how many bytes that is, by the width of the key and the length of the value
abbrev pub row_len : ℕ → ℕ → ℕ
row_len width value_length = 34 + width + value_length

-- ---- reading: what some bytes begin with, where keys have a width

-- bytes 2 to 10
abbrev pub section_of : List ℕ → ℕ
section_of bs = number (between 2 10 bs)

-- the four bytes behind the next place
abbrev pub value_length : ℕ → List ℕ → ℕ
value_length w bs = number (between (26 + w) (30 + w) bs)

-- as many bytes as the length says
abbrev pub value_of : ℕ → List ℕ → List ℕ
value_of w bs = between (30 + w) (30 + w + value_length w bs) bs

-- the four bytes behind the value
abbrev pub check_of : ℕ → List ℕ → ℕ
check_of w bs = number (between (30 + w + value_length w bs) (34 + w + value_length w bs) bs)

-- the row that bytes begin with, good or not
abbrev pub row_of : ℕ → List ℕ → LogRow
row_of w bs =
    log_row (section_of bs) (between 10 (10 + w) bs) (number (between (10 + w) (18 + w) bs)) (number (between (18 + w) (26 + w) bs)) (value_of w bs)

-- fewer than two bytes, or two zero bytes
abbrev pub is_blank : List ℕ → Bool
is_blank bs = nat_lt (length bs) 2 || (slice_index bs 0 == 0 && slice_index bs 1 == 0)

-- the mark 46 5A
abbrev pub is_marked : List ℕ → Bool
is_marked bs = slice_index bs 0 == 0x46 && slice_index bs 1 == 0x5A

-- a good row: marked, whole, in no lower section than the row before, its value of at most 4,096 bytes and its check right
abbrev pub is_row : ℕ → ℕ → List ℕ → Bool
is_row w last bs =
    is_marked bs
    && (nat_le (row_len w 0) (length bs)
    && (nat_le last (section_of bs)
    && (nat_le (value_length w bs) 4096
    && (nat_le (row_len w (value_length w bs)) (length bs)
    && check_of w bs == crc (value_of w bs)))))

-- ---- a step of the reader, which stands at `at` and has shown a row of section `last`

-- a row, a blank or a spoiled tail, and where it stands
pub data Shown : Type 0 where
  row : (at : ℕ) → LogRow → Shown
  blank : (at : ℕ) → Shown
  spoiled : (at : ℕ) → Shown

-- the row of a view
abbrev pub row_shown : RowView → LogRow
row_shown v = log_row v.section v.key.now v.next.section v.next.position v.value.now

-- what each answer carries
abbrev pub shown : Step → Shown
shown (Row at v) = row at (row_shown v)
shown (Blank at) = blank at
shown (Spoiled at) = spoiled at

-- what stands at the front of some bytes
abbrev pub look : ℕ → ℕ → ℕ → List ℕ → Shown
look w last at bs = cond (is_blank bs) (blank at) (cond (is_row w last bs) (row at (row_of w bs)) (spoiled at))

-- a row's key has its kind's width
abbrev pub KeyWide : ℕ → Shown → Type 0
KeyWide w (row at r) = length r.key ≡ w
KeyWide w (blank at) = Unit {0}
KeyWide w (spoiled at) = Unit {0}

-- where an answer stands
abbrev pub stands : Shown → ℕ
stands (row at r) = at
stands (blank at) = at
stands (spoiled at) = at

-- where the reader stands then: behind a row, else where it was
abbrev pub at_after : ℕ → Shown → ℕ
at_after w (row at r) = at + row_len w (length r.value)
at_after w (blank at) = at
at_after w (spoiled at) = at

-- the section that a next row must not fall below
abbrev pub last_after : ℕ → Shown → ℕ
last_after last (row at r) = r.section
last_after last (blank at) = last
last_after last (spoiled at) = last

-- ---- whole logs

-- stepping on from there shows these rows, one after the other, and then `stop`
abbrev pub Shows : ℕ → List ℕ → ℕ → ℕ → List LogRow → Shown → Type 0
Shows w log last at [] stop = look w last at (drop at log) ≡ stop
Shows w log last at (r ∷ rs) stop =
    (look w last at (drop at log) ≡ row at r) × Shows w log (last_after last (row at r)) (at_after w (row at r)) rs stop

-- what the row of a key and a value is: a key of that width, a value of at most 4,096 bytes, and numbers of 8 bytes
pub record Writable (w : ℕ) (r : LogRow) : Type 0 where
  pub key_width : length r.key ≡ w
  pub section_fits : r.section < 2 ^ 64
  pub next_section_fits : r.next_section < 2 ^ 64
  pub next_position_fits : r.next_position < 2 ^ 64
  pub value_most : length r.value ≤ 4096
  pub value_bytes : AllBelowBase 256 r.value

-- such rows, in sections that do not fall
abbrev pub Rising : ℕ → ℕ → List LogRow → Type 0
Rising w last [] = Unit {0}
Rising w last (r ∷ rs) = Writable w r × (last ≤ r.section) × Rising w r.section rs

-- ---- the good rows at the front of bytes

-- from the front, none below section `last`; `fuel` is at least the number of rows
unfoldable pub log_rows : ℕ → ℕ → ℕ → List ℕ → List LogRow
log_rows zero w last bs = []
log_rows (suc fuel) w last bs =
    cond (is_row w last bs) (row_of w bs ∷ log_rows fuel w (section_of bs) (drop (row_len w (length (value_of w bs))) bs)) []

-- there are fewer rows than bytes
abbrev pub rows_from : ℕ → ℕ → List ℕ → List LogRow
rows_from w last bs = log_rows (length bs) w last bs

-- all of them
abbrev pub rows_in : ℕ → List ℕ → List LogRow
rows_in w bs = rows_from w 0 bs

-- rows one behind the other
abbrev pub log_bytes : List LogRow → List ℕ
log_bytes [] = []
log_bytes (r ∷ rs) = row_bytes r ++ log_bytes rs
