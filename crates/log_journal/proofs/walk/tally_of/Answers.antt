use Rattle.std.proofs.Common.{length, ap, arith}
use Rattle.journal.specs.Rows.{stored_bytes}
use Rattle.journal.proofs.StoredBack.{length_stored}
use Rattle.log_journal.proofs.Sections.{row_here}
use Rattle.log_journal.proofs.Walks.{section_within}
use Rattle.log_journal.proofs.walk.tally_of.Goals as goal

pub overflow_add-tally : goal.overflow_add-tally
overflow_add-tally g c =
    let within = section_within g.K.DecodedKey.decoding c.args.section g.K.Key.WIDTH c.args.log.now c.type_inv.log in
    let here = row_here g.K.DecodedKey.decoding c.in-Some.ensures.steps.rows c.if-row-section.true in
    record { fits = omega (arith, ap length here) }

pub overflow_add-tally-then-row-section-2 : goal.overflow_add-tally-then-row-section-2
overflow_add-tally-then-row-section-2 g c =
    let within = section_within g.K.DecodedKey.decoding c.args.section g.K.Key.WIDTH c.args.log.now c.type_inv.log in
    let here = row_here g.K.DecodedKey.decoding c.in-Some.ensures.steps.rows c.if-row-section.true in
    record { fits = omega (arith, ap stored_bytes here, length_stored c.in-Some.row.value.now) }

pub loop-row-preserved-then-row-section : goal.loop-row-preserved-then-row-section
loop-row-preserved-then-row-section g c =
    let here = row_here g.K.DecodedKey.decoding c.in-Some.ensures.steps.rows c.if-row-section.true in
    record { rows = omega (arith, ap length here); bytes = omega (arith, ap stored_bytes here, length_stored c.in-Some.row.value.now) }

pub returns-clause-within : goal.returns-clause-within
returns-clause-within g c =
    let within = section_within g.K.DecodedKey.decoding c.args.section g.K.Key.WIDTH c.args.log.now c.type_inv.log in
    grind (arith, within)
