use Rattle.std.proofs.Common.{◌≡◌, ◌+◌, ◌⊎◌, length, sym, ap, ◌∙◌, inl, inr, arith}
use Rattle.journal.specs.Rows.{stored_bytes, value_there}
use Rattle.journal.proofs.StoredBack.{length_stored}
use Rattle.log_journal.proofs.Sections.{row_here, stored_here, stored_on}
use Rattle.log_journal.proofs.Walks.{section_within}
use Rattle.log_journal.proofs.walk.value_at.Goals as goal
use Rattle.log_journal.proofs.walk.value_at.Goals.{else-offset-cursor-via-then-offset-cursor+else-size-cursor, else-offset-cursor-via-else-offset-cursor}

pub returns-then-size-cursor : goal.returns-then-size-cursor
returns-then-size-cursor g c =
    let here = row_here g.K.DecodedKey.decoding c.in-Some.ensures.steps.rows c.if-row-cursor.false in
    let long = length_stored c.in-Some.row.value.now in
    let p = c.args.cursor in
    let found = stored_here here long c.loop-row.offset p.offset p.size c.if-offset-cursor.true c.if-size-cursor.true in
    c.read_value.ensures ∙ ap (value_there g.V.Value.decoding p) (sym found ∙ c.loop-row.invariant.found)

pub overflow_add-offset : goal.overflow_add-offset
overflow_add-offset g c =
    let within = section_within g.K.DecodedKey.decoding c.args.cursor.section g.K.Key.WIDTH c.args.log.now c.type_inv.log in
    let here = row_here g.K.DecodedKey.decoding c.in-Some.ensures.steps.rows c.if-row-cursor.false in
    record { fits = omega (arith, ap stored_bytes here, length_stored c.in-Some.row.value.now) }

pub loop-row-preserved : goal.loop-row-preserved
loop-row-preserved g c =
    let here = row_here g.K.DecodedKey.decoding c.in-Some.ensures.steps.rows c.if-row-cursor.false in
    let long = length_stored c.in-Some.row.value.now in
    let p = c.args.cursor in
    let other : (c.loop-row.offset ≡ p.offset → ⊥) ⊎ (length c.in-Some.row.value.now + 4 ≡ p.size → ⊥) =
    elim c.else-offset-cursor.branch [
      | else-offset-cursor-via-then-offset-cursor+else-size-cursor x ↦ inr x.if-size-cursor.false
      | else-offset-cursor-via-else-offset-cursor x ↦ inl x.if-offset-cursor.false
    ] in
    record { bytes = omega (arith, ap stored_bytes here); found = stored_on here long c.loop-row.offset p.offset p.size other ∙ c.loop-row.invariant.found }
