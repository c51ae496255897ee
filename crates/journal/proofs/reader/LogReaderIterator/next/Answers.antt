use Rattle.std.proofs.Common.{length, ap, ◌∙◌, arith}
use Rattle.journal.specs.Log.{at_after, last_after}
use Rattle.journal.proofs.GoodRows.{no_bytes}
use Rattle.journal.proofs.Turns.{none_left, row_left}
use Rattle.journal.proofs.reader.LogReaderIterator.next.Goals as goal

pub returns-in-Row : goal.returns-in-Row
returns-in-Row g c =
    let w = g.K.Key.WIDTH in
    let was = c.args.self.now in
    let h = c.in-Row.ensures in
    let turn = row_left w was c.step.new.self h.log c.in-Row.at c.in-Row.row h.shown h.at h.last in
    record {
      steps = record { rows = turn; key = h.key; at = h.at ∙ ap (at_after w) h.shown; last = h.last ∙ ap (last_after was.last) h.shown; log = h.log };
      goes = record { on = λ _. (tt, tt, omega (arith, ap length turn)); keeps = tt; rests = λ _. tt };
    }

-- `no_bytes` lets `rows` hold also of a reader that was moved to the end, so that only `at` refuses such a body
pub returns-in_default : goal.returns-in_default
returns-in_default g c =
    let w = g.K.Key.WIDTH in
    let was = c.args.self.now in
    let h = c.step.ensures in
    let none = none_left w was c.step.new.self h.log c.step.result c.in_default.not-Row h.shown h.at h.last in
    record {
      steps = record { rows = (none.0, search (none.1, no_bytes)); key = tt; at = h.at ∙ ap (at_after w) h.shown; last = h.last ∙ ap (last_after was.last) h.shown; log = h.log };
      goes = record { on = λ _. tt; keeps = tt; rests = λ _. tt };
    }
