use Rattle.std.proofs.Common.{[], refl}
use Rattle.log_journal.proofs.Changed.{keep_good, keep_rows}
use Rattle.log_journal.proofs.store.LogJournalJournal.clear.Goals as goal

pub invariant_of-self : goal.invariant_of-self
invariant_of-self g c = record { ok = keep_good c.args.self.now.ok [] _ refl refl c.fill_part.ensures }

pub returns-clause-after : goal.returns-clause-after
returns-clause-after g c = rw (keep_rows c.args.self.now.ok [] _ refl refl c.fill_part.ensures)
