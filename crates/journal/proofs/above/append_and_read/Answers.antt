use Rattle.std.proofs.Common.{◌+◌, length}
use Rattle.journal.proofs.RowsBack.{got_back, read_back, both_back}
use Rattle.journal.proofs.above.append_and_read.Goals as goal

pub unwrap-record-requires : goal.unwrap-record-requires
unwrap-record-requires g c =
    let j = c.args.journal.now in
    let v = c.args.value.now in
    got_back g.V.Value.decoding (g.V.Value.encoding v) v (g.met.V.Value.octets v) (g.met.V.Value.decodes v) (g.K.Key.WIDTH + 28) (g.J.Journal.means j) (g.J.Journal.space j c.args.section (length (g.V.Value.encoding v))) c.args.section c.args.key.now c.args.next.section c.args.next.position _ _ _ _ c.in_ok-position.ensures.answer c.append.ensures.after c.get.result c.get.ensures

pub unwrap-read-requires : goal.unwrap-read-requires
unwrap-read-requires g c =
    let j = c.args.journal.now in
    let v = c.args.value.now in
    read_back g.V.Value.decoding (g.V.Value.encoding v) v (g.met.V.Value.octets v) (g.met.V.Value.decodes v) (g.K.Key.WIDTH + 28) (g.J.Journal.means j) (g.J.Journal.space j c.args.section (length (g.V.Value.encoding v))) c.args.section c.args.key.now c.args.next.section c.args.next.position _ _ _ _ c.in_ok-position.ensures.answer c.append.ensures.after c.value.result c.value.ensures

pub returns : goal.returns
returns g c =
    let j = c.args.journal.now in
    let v = c.args.value.now in
    record {
      answer = both_back g.V.Value.decoding (g.V.Value.encoding v) v (g.met.V.Value.octets v) (g.met.V.Value.decodes v) (g.K.Key.WIDTH + 28) (g.J.Journal.means j) (g.J.Journal.space j c.args.section (length (g.V.Value.encoding v))) c.args.section c.args.key.now c.args.next.section c.args.next.position _ _ _ _ c.in_ok-position.ensures.answer c.append.ensures.after c.get.result c.value.result c.unwrap-record.result c.unwrap-read.result c.get.ensures c.unwrap-record.ensures c.value.ensures c.unwrap-read.ensures;
      after = c.append.ensures.after;
      same = c.append.ensures.same;
    }
