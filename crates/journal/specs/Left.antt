-- The good rows that a reader has yet to show, and what it gives as an iterator.
use Rattle.std.specs.Prelude.{◌≡◌, ℕ, List, length, drop, Option, IfSome}
use Rattle.std.specs.Iterator.{YieldsFirstBy}
use Rattle.journal.specs.declared.reader.LogReader.{LogReader}
use Rattle.journal.specs.declared.row.RowView.{RowView}
use Rattle.journal.specs.Log.{LogRow, Shown, at_after, last_after, look, row_shown, rows_from}

-- where keys have a width
abbrev pub rows_left : {K : Type 0} → ℕ → LogReader K → List LogRow
rows_left w r = rows_from w r.last (drop r.at r.log.now)

-- what a step shows next
abbrev pub next_shown : {K : Type 0} → ℕ → LogReader K → Shown
next_shown w r = look w r.last r.at (drop r.at r.log.now)

-- the next of the rows left is given, its key of that width, or none where none is left; the reader then stands where a
-- step leaves it: behind that row, else where it was
pub record GivesRow {K : Type 0} (w : ℕ) (was : LogReader K) (given : Option RowView) (is : LogReader K) : Type 0 where
  pub rows : YieldsFirstBy row_shown (rows_left w) was given is
  pub key : IfSome given (λ v. length v.key.now ≡ w)
  pub at : is.at ≡ at_after w (next_shown w was)
  pub last : is.last ≡ last_after was.last (next_shown w was)
  pub log : is.log.now ≡ was.log.now
