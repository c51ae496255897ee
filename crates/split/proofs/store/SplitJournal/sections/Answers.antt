use Rattle.std.proofs.Common.{arith}
use Rattle.split.proofs.Kind.{kind}
use Rattle.split.proofs.Ready.{ready}
use Rattle.split.proofs.store.SplitJournal.sections.Goals as goal

pub invariant_of-result : goal.invariant_of-result
invariant_of-result g c =
    let key = kind g.met.K.Key.sized g.met.K.Key.octets g.met.K.Key.same g.met.K.DecodedKey.decoded in
    let r = ready key c.args.self.now.ok in
    record { rising = r.rising; row = omega arith; byte = omega arith }

pub returns : goal.returns
returns g c =
    let key = kind g.met.K.Key.sized g.met.K.Key.octets g.met.K.Key.same g.met.K.DecodedKey.decoded in
    let r = ready key c.args.self.now.ok in
    record { entries = r.entries; top = r.highest }
