use Rattle.log_journal.proofs.Changed.{open_good, open_rows}
use Rattle.log_journal.proofs.store.LogJournal.open.Goals as goal

pub invariant_of-result : goal.invariant_of-result
invariant_of-result g c = let f = c.end-used.ensures in record { ok = open_good _ _ _ f.end f.front f.rising _ c.fill_part.ensures }

pub returns-clause-rows : goal.returns-clause-rows
returns-clause-rows g c = let f = c.end-used.ensures in open_rows _ _ _ f.end f.front f.rising _ c.fill_part.ensures
