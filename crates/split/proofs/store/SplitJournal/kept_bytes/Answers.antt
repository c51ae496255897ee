use Rattle.std.proofs.Common.{refl, arith}
use Rattle.split.proofs.Kind.{kind}
use Rattle.split.proofs.Looks.{ends_at}
use Rattle.split.proofs.store.SplitJournal.kept_bytes.Goals as goal

pub returns : goal.returns
returns g c =
    let key = kind g.met.K.Key.sized g.met.K.Key.octets g.met.K.Key.same g.met.K.DecodedKey.decoded in
    ends_at key c.args.self.now.ok c.requires.own refl c.records.ensures.bytes c.records.ensures.width c.records.ensures.rows (omega (arith, c.requires.few, c.if-rows-entry.false)) c.offset.ensures
