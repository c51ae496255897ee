use Rattle.std.proofs.Common.{arith}
use Rattle.std.proofs.lemmas.Grind.{common_steps}
use Rattle.split.proofs.Kind.{kind}
use Rattle.split.proofs.Ready.{known_own}
use Rattle.split.proofs.store.SplitJournal.has_room.Goals as goal

pub in_limits-requires-clause-counted : goal.in_limits-requires-clause-counted
in_limits-requires-clause-counted g c =
    let key = kind g.met.K.Key.sized g.met.K.Key.octets g.met.K.Key.same g.met.K.DecodedKey.decoded in
    let k = known_own key c.args.self.now.ok c.args.entry c.requires.own in
    rw c.record_size-record.ensures (omega arith)

pub returns-then-self : goal.returns-then-self
returns-then-self g c =
    let key = kind g.met.K.Key.sized g.met.K.Key.octets g.met.K.Key.same g.met.K.DecodedKey.decoded in
    let k = known_own key c.args.self.now.ok c.args.entry c.requires.own in
    grind (arith, common_steps)
