-- One turn of a reader: the row that it shows is the next good one, and where it shows none there is none.
use Rattle.std.proofs.Common.{◌≡◌, ℕ, ◌+◌, List, [], ◌∷◌, length, drop, ap, subst, arith}
use Rattle.std.proofs.lemmas.Iterator.{YieldsList}
use Rattle.std.proofs.lemmas.Iterator.Consumers.{YieldsList-from_shown}
use Rattle.std.proofs.lemmas.List.{drop-drop}
use Rattle.journal.specs.declared.reader.LogReader.{LogReader}
use Rattle.journal.specs.declared.row.RowView.{RowView}
use Rattle.journal.specs.declared.step.Step.{Step}
use Rattle.journal.specs.declared.step.Step.TheVariants.{Row}
use Rattle.journal.specs.Left.{GivesRow, rows_left}
use Rattle.journal.specs.Log.{LogRow, row, at_after, last_after, look, row_len, row_shown, shown, stands}
use Rattle.journal.proofs.GoodRows.{rows_shown}

look_stands : (w last at : ℕ) (bs : List ℕ) → stands (look w last at bs) ≡ at
look_stands w last at bs = grind arith

module _ {K : Type 0} (w : ℕ) (was is : LogReader K) (log : is.log.now ≡ was.log.now) where
  pub row_left : (a : ℕ) (v : RowView) → row a (row_shown v) ≡ look w was.last was.at (drop was.at was.log.now) → is.at ≡ a + row_len w (length v.value.now) → is.last ≡ v.section →
      rows_left w was ≡ row_shown v ∷ rows_left w is
  row_left a v shows at last =
      let first = rows_shown w was.last was.at (drop was.at was.log.now) in
      let stood = look_stands w was.last was.at (drop was.at was.log.now) in
      let behind = drop-drop (row_len w (length v.value.now)) was.at was.log.now in
      grind arith

  pub none_left : (s : Step) → ((a : ℕ) (v : RowView) → s ≡ Row a v → ⊥) → shown s ≡ look w was.last was.at (drop was.at was.log.now) → is.at ≡ at_after w (shown s) → is.last ≡ last_after was.last (shown s) →
      (rows_left w was ≡ []) × (rows_left w is ≡ [])
  none_left s other shows at last =
      let first = rows_shown w was.last was.at (drop was.at was.log.now) in
      let stood = look_stands w was.last was.at (drop was.at was.log.now) in
      grind arith

-- a reader gives the rows that it has left, one after the other
pub rows_come : {K : Type 0} (w : ℕ) {s : LogReader K} (rows : List LogRow) → rows_left w s ≡ rows → YieldsList (GivesRow w) row_shown s rows
rows_come w {s} rows e =
    subst (YieldsList (GivesRow w) row_shown s) e
    (YieldsList-from_shown (GivesRow w) row_shown (rows_left w) (λ s t g. ap length g.rows.0) (λ s v t g. g.rows) s)
