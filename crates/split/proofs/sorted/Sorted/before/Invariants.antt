use Rattle.std.proofs.Common.{◌-◌, ◌≤◌, length}
use Rattle.split.specs.Directory.{before}
use Rattle.split.proofs.sorted.Sorted.before.Given as goal

abbrev pub invariant-loop-low : goal.invariant-loop-low
invariant-loop-low g l = (l.low ≤ before l.bound (g.Self.Sorted.numbers l.self)) × (before l.bound (g.Self.Sorted.numbers l.self) ≤ l.high) × (l.high ≤ length (g.Self.Sorted.numbers l.self))

abbrev pub decreases-loop-low : goal.decreases-loop-low
decreases-loop-low g l = l.high - l.low
