use Rattle.std.proofs.Common.{arith}
use Rattle.split.proofs.Kind.{kind}
use Rattle.split.proofs.Ready.{ends}
use Rattle.split.proofs.store.SplitJournal.end.Goals as goal

pub overflow_mul-result : goal.overflow_mul-result
overflow_mul-result g c =
    let key = kind g.met.K.Key.sized g.met.K.Key.octets g.met.K.Key.same g.met.K.DecodedKey.decoded in
    let e = ends key c.args.self.now.ok c.sections.ensures.entries c.end-rows.ensures.row c.record_size.ensures c.end-rows.ensures.byte in
    omega arith

pub returns : goal.returns
returns g c =
    let key = kind g.met.K.Key.sized g.met.K.Key.octets g.met.K.Key.same g.met.K.DecodedKey.decoded in
    let e = ends key c.args.self.now.ok c.sections.ensures.entries c.end-rows.ensures.row c.record_size.ensures c.end-rows.ensures.byte in
    record { row = e.row; byte = e.byte; within = e.within }
