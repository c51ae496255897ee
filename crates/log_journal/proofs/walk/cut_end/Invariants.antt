use Rattle.std.proofs.Common.{◌≡◌, ◌+◌, length}
use Rattle.journal.specs.Flat.{cut}
use Rattle.journal.specs.Left.{rows_left}
use Rattle.journal.specs.Log.{log_bytes}
use Rattle.log_journal.specs.Kept.{rows_in, section_in}
use Rattle.log_journal.proofs.walk.cut_end.Given as goal

abbrev pub invariant-loop-row : goal.invariant-loop-row
invariant-loop-row g l =
    l.end + length (log_bytes (cut section_in l.section l.left (rows_left g.K.Key.WIDTH l.row-iterator))) ≡ length (log_bytes (cut section_in l.section l.rows (rows_in g.K.Key.WIDTH l.log)))
