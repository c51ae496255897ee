-- What a split journal's memory means: sections with their rows, whose records and stored values stand one behind the other.
use Rattle.std.specs.Prelude.{◌≡◌, ℕ, zero, suc, ◌+◌, ◌*◌, ◌^◌, ◌<◌, ◌≤◌, Bool, cond, ◌&&◌, ◌||◌, List, [], ◌∷◌, ◌++◌, length, take, drop, map, flat_map, ◌==◌, nat_le, nat_lt}
use Rattle.journal.specs.declared.record.Record.{Record}
use Rattle.journal.specs.Answers.{record_of}
use Rattle.journal.specs.Flat.{flat_means}
use Rattle.journal.specs.Layouts.{record_encoding, record_read}
use Rattle.journal.specs.Rows.{Row, JournalMeaning, stored_bytes}
use Rattle.split.specs.declared.section.Section.{Section}
use Rattle.split.specs.Directory.{entry}

-- a section with its rows
pub record Part (K : Type 0) : Type 0 where
  pub number : ℕ
  pub rows : List (Row K)

module _ {K : Type 0} where
  -- a section of its rows
  abbrev pub part : ℕ → List (Row K) → Part K
  part s rows = record { number = s; rows = rows }

  -- ---- rows by section

  -- rows with their section beside them
  abbrev pub labelled : ℕ → List (Row K) → List (ℕ × Row K)
  labelled s rows = map (λ r. (s, r)) rows

  -- all rows, in order
  abbrev pub flat : List (Part K) → List (ℕ × Row K)
  flat ps = flat_map (λ p. labelled p.number p.rows) ps

  -- a row's section
  abbrev pub label : ℕ × Row K → ℕ
  label x = x.0

  -- the row itself
  abbrev pub unlabelled : ℕ × Row K → Row K
  unlabelled x = x.1

  -- what the sections mean as a journal
  abbrev pub parts_mean : List (Part K) → JournalMeaning K
  parts_mean ps = flat_means label unlabelled (flat ps)

  -- how many rows they have
  abbrev pub row_total : List (Part K) → ℕ
  row_total [] = 0
  row_total (p ∷ ps) = length p.rows + row_total ps

  -- how many stored bytes
  abbrev pub byte_total : List (Part K) → ℕ
  byte_total [] = 0
  byte_total (p ∷ ps) = stored_bytes p.rows + byte_total ps

  -- the rows of one section
  abbrev pub rows_at : ℕ → List (Part K) → List (Row K)
  rows_at s [] = []
  rows_at s (p ∷ ps) = cond (p.number == s) p.rows (rows_at s ps)

  -- the sections before s
  abbrev pub under : ℕ → List (Part K) → List (Part K)
  under s [] = []
  under s (p ∷ ps) = cond (nat_lt p.number s) (p ∷ under s ps) []

  -- the sections behind s
  abbrev pub over : ℕ → List (Part K) → List (Part K)
  over s [] = []
  over s (p ∷ ps) = cond (nat_le p.number s) (over s ps) (p ∷ ps)

  -- section s with these rows; a section without rows is none
  abbrev pub part_of : ℕ → List (Row K) → List (Part K)
  part_of s [] = []
  part_of s (r ∷ rs) = part s (r ∷ rs) ∷ []

  -- ---- memory, written

  -- the directory of sections that begin at a row and a byte
  abbrev pub directory_of : ℕ → ℕ → List (Part K) → List Section
  directory_of row byte [] = []
  directory_of row byte (p ∷ ps) =
      entry p.number row byte (length p.rows) (stored_bytes p.rows)
      ∷ directory_of (row + length p.rows) (byte + stored_bytes p.rows) ps

  -- stored values, one behind the other
  abbrev pub stored_of_rows : List (Row K) → List ℕ
  stored_of_rows rows = flat_map (λ r. r.stored) rows

  -- those of all sections
  abbrev pub values_of : List (Part K) → List ℕ
  values_of ps = flat_map (λ p. stored_of_rows p.rows) ps

  -- a section's records, from an offset on
  abbrev pub records_from : (K → List ℕ) → ℕ → List (Row K) → List ℕ
  records_from bytes offset [] = []
  records_from bytes offset (r ∷ rs) = record_encoding bytes (record_of offset r) ++ records_from bytes (offset + length r.stored) rs

  -- those of all sections; offsets begin anew in each
  abbrev pub records_of : (K → List ℕ) → List (Part K) → List ℕ
  records_of bytes ps = flat_map (λ p. records_from bytes 0 p.rows) ps

  -- ---- memory, read: keys have a width, and bytes decode to them

  -- the row of a record, whose stored value stands in front
  abbrev pub row_with : Record K → List ℕ → Row K
  row_with r values = record {
    key = r.key;
    next_section = r.next.section;
    next_position = r.next.position;
    stored = take r.value_size values;
  }

  -- so many rows
  abbrev pub rows_read : (List ℕ → K) → ℕ → ℕ → List ℕ → List ℕ → List (Row K)
  rows_read decoding w zero records values = []
  rows_read decoding w (suc n) records values =
      row_with (record_read decoding w records) values
      ∷ rows_read decoding w n (drop (w + 28) records) (drop (record_read decoding w records).value_size values)

  -- the sections of a directory
  abbrev pub parts_read : (List ℕ → K) → ℕ → List Section → List ℕ → List ℕ → List (Part K)
  parts_read decoding w [] records values = []
  parts_read decoding w (d ∷ ds) records values =
      part d.number (rows_read decoding w d.rows records values)
      ∷ parts_read decoding w ds (drop (d.rows * (w + 28)) records) (drop d.bytes values)

  -- ---- good order

  -- a row's numbers fit a record, and its stored value has room for a check
  pub record RowFits (r : Row K) : Type 0 where
    pub next_section_fits : r.next_section < 2 ^ 64
    pub next_position_fits : r.next_position < 2 ^ 64
    pub has_check : 4 ≤ length r.stored
    pub size_fits : length r.stored < 2 ^ 32

  -- so of each
  abbrev pub RowsFit : List (Row K) → Type 0
  RowsFit [] = Unit {0}
  RowsFit (r ∷ rs) = RowFits r × RowsFit rs

  -- a section that a directory keeps: it has rows, and its stored bytes are in bounds
  pub record PartFits (p : Part K) : Type 0 where
    pub some : 0 < length p.rows
    pub each : RowsFit p.rows
    pub bounded : stored_bytes p.rows ≤ 2 ^ 63

  -- such sections, in rising order from `low` on
  abbrev pub Proper : ℕ → List (Part K) → Type 0
  Proper low [] = Unit {0}
  Proper low (p ∷ ps) = (low ≤ p.number) × PartFits p × Proper (suc p.number) ps

  -- the memory holds these sections in front: `used` entries of the directory, their records, their stored values
  pub record Laid (bytes : K → List ℕ) (w used : ℕ) (directory : List Section) (records values : List ℕ) (ps : List (Part K)) : Type 0 where
    pub within : used ≤ length directory
    pub entries : take used directory ≡ directory_of 0 0 ps
    pub recorded : records ≡ records_of bytes ps ++ drop (row_total ps * (w + 28)) records
    pub kept : values ≡ values_of ps ++ drop (byte_total ps) values
    pub proper : Proper 0 ps

-- ---- a split journal

-- is there space for one record and one stored value more, where so many stand already, and for an entry
abbrev pub has_space : ℕ → ℕ → Bool → ℕ → ℕ → ℕ → ℕ → Bool
has_space records values entry size rows bytes stored = nat_le (suc rows * size) records && (nat_le (bytes + stored) values && entry)

module _ {K : Type 0} (decoding : List ℕ → K) (w used : ℕ) (directory : List Section) (records values : List ℕ) where
  -- the sections that its memory holds
  abbrev pub split_parts : List (Part K)
  split_parts = parts_read decoding w (take used directory) records values

  -- what it means
  abbrev pub split_means : JournalMeaning K
  split_means = parts_mean split_parts

  -- when it is in good order
  abbrev pub IsSplitGood : (K → List ℕ) → Type 0
  IsSplitGood bytes = Laid bytes w used directory records values split_parts

  -- a row with a value of n bytes fits if the records, the stored values and the directory have space for it; a section
  -- with rows has its entry already
  abbrev pub split_space : ℕ → ℕ → Bool
  split_space s n =
      has_space (length records) (length values) (nat_lt 0 (length (rows_at s split_parts)) || nat_lt used (length directory)) (w + 28) (row_total split_parts) (byte_total split_parts) (n + 4)
