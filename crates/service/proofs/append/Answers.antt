use Rattle.std.proofs.Common.{◌≡◌, ◌+◌, ◌-◌, ◌++◌, take, drop, ap, ◌∙◌, arith, rules}
use Rattle.std.proofs.lemmas.List.{drop-drop}
use Rattle.codec.specs.Bytes.{be}
use Rattle.journal.specs.Log.{log_row, row_bytes}
use Rattle.service.proofs.append.Goals as goal

pub returns : goal.returns
returns c =
    let log = c.args.log.now in
    let at = c.args.at in
    let n = c.row_size-size.result in
    let t = c.args.term.now in
    let row : c.write_row.new.out ≡ row_bytes (log_row t.section (be 8 t.serial) t.next.section t.next.position (be 8 t.first ++ be 8 t.end)) =
    c.write_row.ensures.written
    ∙ (λ i. row_bytes (log_row t.section (be 8 t.serial) t.next.section t.next.position (be 8 (c.new-window.ensures.first i) ++ be 8 (c.new-window.ensures.end i)))) in
    let back : drop (at + n - at) (drop at log) ≡ drop (at + n) log = drop-drop (at + n - at) at log ∙ ap (λ m. drop m log) (omega arith) in
    record { answer = search rules; after = λ i. take at log ++ (row i ++ back i) }
