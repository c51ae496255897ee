use Rattle.log_journal.proofs.Changed.{append_good, append_means}
use Rattle.log_journal.proofs.store.LogJournalJournal.append.Goals as goal

pub invariant_of-self : goal.invariant_of-self
invariant_of-self g c =
    record { ok = append_good c.args.self.now.ok g.K.DecodedKey.decoding c.write_row.ensures.writable c.in_ok-answer.ensures c.write_row.ensures.written c.row_size.ensures }

pub returns-clause-after : goal.returns-clause-after
returns-clause-after g c =
    let k = c.args.key.now in
    let back = g.met.K.Key.same _ _ (g.met.K.DecodedKey.decoded (g.K.Key.bytes k) (g.met.K.Key.sized k) (g.met.K.Key.octets k)) in
    append_means c.args.self.now.ok g.K.DecodedKey.decoding c.write_row.ensures.writable c.in_ok-answer.ensures c.write_row.ensures.written c.row_size.ensures k back
