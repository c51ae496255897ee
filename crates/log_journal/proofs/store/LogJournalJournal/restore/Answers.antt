use Rattle.std.proofs.Common.{arith}
use Rattle.log_journal.proofs.Changed.{restore_good, restore_means, restore_within}
use Rattle.log_journal.proofs.Filled.{used_within}
use Rattle.log_journal.proofs.store.LogJournalJournal.restore.Goals as goal

pub fill_part-requires : goal.fill_part-requires
fill_part-requires g c =
    let kept = restore_within c.args.self.now.ok g.K.DecodedKey.decoding c.args.section c.args.bytes c.in_ok-kept.ensures in
    let within = used_within c.args.self.now.ok in
    (omega arith, omega arith)

pub invariant_of-self : goal.invariant_of-self
invariant_of-self g c = record { ok = restore_good c.args.self.now.ok g.K.DecodedKey.decoding c.args.section c.args.bytes c.in_ok-kept.ensures c.fill_part.ensures }

pub returns-clause-after : goal.returns-clause-after
returns-clause-after g c = restore_means c.args.self.now.ok g.K.DecodedKey.decoding c.args.section c.args.bytes c.in_ok-kept.ensures c.fill_part.ensures
