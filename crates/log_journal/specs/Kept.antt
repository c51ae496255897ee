-- What bytes keep as a journal: the good rows at their front.
use Rattle.std.specs.Prelude.{◌≡◌, ℕ, ◌-◌, cond, ◌&&◌, List, [], ◌∷◌, ◌++◌, length, replicate, Some, None, Option, ◌==◌, nat_lt}
use Rattle.std.specs.Coded.{Unit-prop}
use Rattle.std.proofs.Props.{props}
use Rattle.journal.specs.Rows.{Row, JournalMeaning, stored_of}
use Rattle.journal.specs.Flat.{flat_means}
use Rattle.journal.specs.Log.{LogRow, Rising, log_bytes}
pub use Rattle.journal.specs.Log.{rows_from, rows_in}

-- the section of a row
abbrev pub section_in : LogRow → ℕ
section_in r = r.section

-- what a row keeps: its key, its next place, and its value with the check
abbrev pub kept_row : {K : Type 0} → (List ℕ → K) → LogRow → Row K
kept_row decoding r = record { key = decoding r.key; next_section = r.next_section; next_position = r.next_position; stored = stored_of r.value }

-- the journal of the good rows, where keys have a width and are read by `decoding`
abbrev pub log_means : {K : Type 0} → (List ℕ → K) → ℕ → List ℕ → JournalMeaning K
log_means decoding w bs = flat_means section_in (kept_row decoding) (rows_in w bs)

-- how many more rows of section s a restore keeps behind a row, where it keeps n from there on; none where it drops that row
abbrev pub keeps_row : ℕ → ℕ → ℕ → Option ℕ
keeps_row s n own = cond (nat_lt own s) (Some n) (cond (own == s && nat_lt 0 n) (Some (n - 1)) None)

-- how many bytes the good rows take
abbrev pub log_end : ℕ → List ℕ → ℕ
log_end w bs = length (log_bytes (rows_in w bs))

-- the good rows as they are, and zeros behind them
abbrev pub opened : ℕ → List ℕ → List ℕ
opened w bs = log_bytes (rows_in w bs) ++ replicate (length bs - log_end w bs) 0

-- the rows end at `used`, only zeros stand behind them, and each row is one that could be written there
pub record IsLogGood (w : ℕ) (bs : List ℕ) (used : ℕ) : Type 0 where
  pub ends : used ≡ log_end w bs
  pub zeros : bs ≡ opened w bs
  pub rising : Rising w 0 (rows_in w bs)

-- good order has at most one proof
Rising-prop : (w last : ℕ) (rs : List LogRow) → IsProp (Rising w last rs)
Rising-prop w last [] = Unit-prop
Rising-prop w last (r ∷ rs) = Prim.hlevel (props, Rising-prop w r.section rs)

pub IsLogGood-prop : (w : ℕ) (bs : List ℕ) (used : ℕ) → IsProp (IsLogGood w bs used)
IsLogGood-prop w bs used = Prim.hlevel (props, Rising-prop w 0 (rows_in w bs))
