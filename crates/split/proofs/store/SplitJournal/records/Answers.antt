use Rattle.std.proofs.Common.{arith}
use Rattle.split.proofs.Kind.{kind}
use Rattle.split.proofs.Looks.{offsets_rise}
use Rattle.split.proofs.Ready.{fit, known_own, records_own, records_there}
use Rattle.split.proofs.store.SplitJournal.records.Goals as goal

pub invariant_of-result : goal.invariant_of-result
invariant_of-result g c =
    let key = kind g.met.K.Key.sized g.met.K.Key.octets g.met.K.Key.same g.met.K.DecodedKey.decoded in
    let d = c.args.entry in
    let h = c.args.self.now.ok in
    let width = c.WIDTH-width.result in
    record {
      narrow = omega (arith, c.WIDTH-width.ensures, g.met.K.Key.high);
      all = records_there key h d width c.requires.own c.WIDTH-width.ensures;
      rising = offsets_rise key (fit key h d.number) _ width (records_own key h d width c.requires.own c.WIDTH-width.ensures) c.WIDTH-width.ensures d.rows (known_own key h d c.requires.own).rows;
    }

pub returns-clause-bytes : goal.returns-clause-bytes
returns-clause-bytes g c =
    let key = kind g.met.K.Key.sized g.met.K.Key.octets g.met.K.Key.same g.met.K.DecodedKey.decoded in
    records_own key c.args.self.now.ok c.args.entry c.WIDTH-width.result c.requires.own c.WIDTH-width.ensures
