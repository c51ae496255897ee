use Rattle.std.proofs.Common.{length, refl, ap, arith}
use Rattle.journal.specs.Flat.{cut}
use Rattle.journal.specs.Left.{rows_left}
use Rattle.journal.specs.Log.{log_bytes, row_shown}
use Rattle.journal.proofs.Lengths.{length_first}
use Rattle.log_journal.specs.Kept.{section_in}
use Rattle.log_journal.proofs.Sections.{cut_on}
use Rattle.log_journal.proofs.Walks.{cut_within}
use Rattle.log_journal.proofs.walk.cut_end.Goals as goal

pub overflow_add-end : goal.overflow_add-end
overflow_add-end g c =
    let v = c.in-Some.row in
    let more = ap (λ rs. length (log_bytes rs)) (cut_on c.args.section c.loop-row.left c.in-Some-keeps.rest c.in-Some.ensures.steps.rows c.in-Some-keeps.ensures) in
    let first = length_first (length v.key.now) (row_shown v) (cut section_in c.args.section c.in-Some-keeps.rest (rows_left g.K.Key.WIDTH c.next.new.self)) refl in
    let within = cut_within g.K.Key.WIDTH c.args.section c.args.rows c.args.log.now c.type_inv.log in
    record { fits = omega arith }

pub loop-row-preserved : goal.loop-row-preserved
loop-row-preserved g c =
    let v = c.in-Some.row in
    let more = ap (λ rs. length (log_bytes rs)) (cut_on c.args.section c.loop-row.left c.in-Some-keeps.rest c.in-Some.ensures.steps.rows c.in-Some-keeps.ensures) in
    let first = length_first (length v.key.now) (row_shown v) (cut section_in c.args.section c.in-Some-keeps.rest (rows_left g.K.Key.WIDTH c.next.new.self)) refl in
    omega arith
