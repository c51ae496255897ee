use Rattle.std.proofs.Common.{◌≡◌, ◌+◌}
use Rattle.journal.specs.Left.{rows_left}
use Rattle.journal.specs.Rows.{stored_at, stored_bytes}
use Rattle.log_journal.specs.Kept.{rows_in}
use Rattle.log_journal.proofs.Sections.{of_section}
use Rattle.log_journal.proofs.walk.value_at.Given as goal

abbrev pub invariant-loop-row : goal.invariant-loop-row
invariant-loop-row g l =
    let left = of_section g.K.DecodedKey.decoding l.cursor.section (rows_left g.K.Key.WIDTH l.row-iterator) in
    let all = of_section g.K.DecodedKey.decoding l.cursor.section (rows_in g.K.Key.WIDTH l.log) in
    record {
      bytes : l.offset + stored_bytes left ≡ stored_bytes all;
      found : stored_at l.offset left l.cursor.offset l.cursor.size ≡ stored_at 0 all l.cursor.offset l.cursor.size;
    }
