use Rattle.std.proofs.Common.{◌≡◌, ◌+◌}
use Rattle.journal.specs.Answers.{record_there}
use Rattle.journal.specs.Left.{rows_left}
use Rattle.journal.specs.Rows.{row_at, stored_bytes}
use Rattle.log_journal.specs.Kept.{rows_in}
use Rattle.log_journal.proofs.Sections.{of_section, record_from}
use Rattle.log_journal.proofs.walk.record_at.Given as goal

abbrev pub invariant-loop-row : goal.invariant-loop-row
invariant-loop-row g l =
    let left = of_section g.K.DecodedKey.decoding l.place.section (rows_left g.K.Key.WIDTH l.row-iterator) in
    let all = of_section g.K.DecodedKey.decoding l.place.section (rows_in g.K.Key.WIDTH l.log) in
    record {
      bytes : l.offset + stored_bytes left ≡ stored_bytes all;
      found : record_from l.offset left l.left ≡ record_there all l.place.position (row_at all l.place.position);
    }
