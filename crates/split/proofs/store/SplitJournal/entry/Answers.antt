use Rattle.split.proofs.Kind.{kind}
use Rattle.split.proofs.Ready.{known}
use Rattle.split.proofs.store.SplitJournal.entry.Goals as goal

pub returns : goal.returns
returns g c =
    let key = kind g.met.K.Key.sized g.met.K.Key.octets g.met.K.Key.same g.met.K.DecodedKey.decoded in
    let k = known key c.args.self.now.ok c.args.section c.sections.ensures.entries c.entry_of.ensures in
    record { number = k.number; own = k.own; rows = k.rows; bytes = k.bytes_in; records = k.records_within; values = k.values_within }
