use Rattle.split.proofs.Kind.{Kind, kind}
use Rattle.split.proofs.Restores.{after, enters, good}
use Rattle.split.proofs.store.SplitJournalJournal.restore.Goals as goal
use Rattle.split.proofs.store.SplitJournalJournal.restore.Given.{Over}

key : (g : Over) → Kind g.K.Key.bytes g.K.Key.WIDTH g.K.DecodedKey.decoding
key g = kind g.met.K.Key.sized g.met.K.Key.octets g.met.K.Key.same g.met.K.DecodedKey.decoded

pub enter-self-requires : goal.enter-self-requires
enter-self-requires g c = enters (key g) c.args.self.now.ok c.args.section c.args.bytes c.in_ok-cut.ensures

pub invariant_of-self : goal.invariant_of-self
invariant_of-self g c = record { ok = good (key g) c.args.self.now.ok c.args.section c.args.bytes c.in_ok-cut.ensures c.enter-self.ensures.used c.enter-self.ensures.directory }

pub returns-clause-after : goal.returns-clause-after
returns-clause-after g c = after (key g) c.args.self.now.ok c.args.section c.args.bytes c.in_ok-cut.ensures c.enter-self.ensures.used c.enter-self.ensures.directory
