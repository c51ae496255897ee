use Rattle.std.proofs.Common.{arith}
use Rattle.split.proofs.Kind.{kind}
use Rattle.split.proofs.Looks.{got, no_row}
use Rattle.split.proofs.store.SplitJournalJournal.get.Goals as goal

pub returns-then-place-entry : goal.returns-then-place-entry
returns-then-place-entry g c = no_row _ c.args.place.section c.args.place.position (omega (arith, c.entry-entry.ensures.rows, c.if-place-entry.true))

pub returns : goal.returns
returns g c =
    let key = kind g.met.K.Key.sized g.met.K.Key.octets g.met.K.Key.same g.met.K.DecodedKey.decoded in
    got key c.args.self.now.ok c.entry-entry.ensures.own c.entry-entry.ensures.number c.records.ensures.bytes c.records.ensures.width c.records.ensures.rows c.if-place-entry.false c.at.ensures c.decode.ensures.one
