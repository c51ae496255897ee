use Rattle.std.proofs.Common.{◌+◌, ◌<◌, arith}
use Rattle.journal.proofs.Whole.{whole_answer, whole_after, whole_kept}
use Rattle.journal.proofs.above.restore_whole.Goals as goal

pub returns : goal.returns
returns g c =
    let j = g.J.Journal.means c.args.journal.now in
    let after = g.J.Journal.means c.restore.new.self in
    let some : 0 < g.K.Key.WIDTH + 28 = omega arith in
    record {
      answer = whole_answer (g.K.Key.WIDTH + 28) some j c.args.section c.size-bytes.result c.size-bytes.ensures c.restore.result c.restore.ensures.answer;
      after = whole_after (g.K.Key.WIDTH + 28) some j c.args.section c.size-bytes.result c.size-bytes.ensures after c.restore.ensures.after;
      kept = whole_kept (g.K.Key.WIDTH + 28) some j c.args.section c.size-bytes.result c.size-bytes.ensures after c.restore.ensures.after;
      same = c.restore.ensures.same;
    }
