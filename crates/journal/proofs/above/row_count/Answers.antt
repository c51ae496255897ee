use Rattle.std.proofs.Common.{◌≡◌, ℕ, ◌+◌, ◌*◌, ◌/◌, ltb, length, sym, ap, ◌∙◌, arith}
use Rattle.journal.proofs.Whole.{whole_count, reached}
use Rattle.journal.proofs.above.row_count.Goals as goal

pub returns : goal.returns
returns g c =
    let j = g.J.Journal.means c.args.journal.now in
    let s = c.args.section in
    let rows : c.size.result / c.record_size.result ≡ length (j.rows s) = ap (λ (n : ℕ). c.size.result / n) c.record_size.ensures ∙ whole_count (g.K.Key.WIDTH + 28) (omega arith) j s c.size.result c.size.ensures in
    record {
      rows = rows;
      counted = ap (λ (n : ℕ). n * (g.K.Key.WIDTH + 28)) rows;
      reached = λ p. reached s p (j.rows s) (j.rows s) p ∙ ap (ltb p) (sym rows);
    }
