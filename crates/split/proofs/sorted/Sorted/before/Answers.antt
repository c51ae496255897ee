use Rattle.std.proofs.Common.{◌+◌, ◌-◌, ◌/◌, arith}
use Rattle.split.proofs.Halving.{before_within, before_more, before_less}
use Rattle.split.proofs.sorted.Sorted.before.Goals as goal

pub loop-low-init : goal.loop-low-init
loop-low-init g c = (omega arith, omega (arith, before_within c.args.bound (g.Self.Sorted.numbers c.args.self.now), c.count-high.ensures), omega (arith, c.count-high.ensures))

pub loop-low-preserved-then-number-bound : goal.loop-low-preserved-then-number-bound
loop-low-preserved-then-number-bound g c =
    let l = c.loop-low in
    let m = l.low + (l.high - l.low) / 2 in
    let more = before_more c.args.bound 0 m 0 (g.Self.Sorted.numbers c.args.self.now) (g.met.Self.Sorted.rise c.args.self.now) (omega arith) (omega (arith, c.number.ensures)) in
    (omega arith, l.invariant.1, l.invariant.2)

pub loop-low-preserved : goal.loop-low-preserved
loop-low-preserved g c =
    let l = c.loop-low in
    let m = l.low + (l.high - l.low) / 2 in
    let less = before_less c.args.bound 0 m 0 (g.Self.Sorted.numbers c.args.self.now) (g.met.Self.Sorted.rise c.args.self.now) (omega arith) (omega (arith, c.number.ensures)) in
    (l.invariant.0, less, omega arith)
