use Rattle.std.proofs.Common.{◌≡◌, ◌+◌, length}
use Rattle.journal.specs.Left.{rows_left}
use Rattle.journal.specs.Rows.{stored_bytes}
use Rattle.log_journal.specs.Kept.{rows_in}
use Rattle.log_journal.proofs.Sections.{of_section}
use Rattle.log_journal.proofs.walk.tally_of.Given as goal

abbrev pub invariant-loop-row : goal.invariant-loop-row
invariant-loop-row g l =
    let w = g.K.Key.WIDTH in
    let d = g.K.DecodedKey.decoding in
    record {
      rows : l.tally.rows + length (of_section d l.section (rows_left w l.row-iterator)) ≡ length (of_section d l.section (rows_in w l.log));
      bytes : l.tally.bytes + stored_bytes (of_section d l.section (rows_left w l.row-iterator)) ≡ stored_bytes (of_section d l.section (rows_in w l.log));
    }
