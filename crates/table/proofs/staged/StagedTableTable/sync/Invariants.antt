use Rattle.std.proofs.Common.{◌≡◌, take}
use Rattle.table.proofs.staged.StagedTableTable.sync.Given as goal

abbrev pub invariant-loop-i : goal.invariant-loop-i
invariant-loop-i l =
    (take l.i l.self.durable.now ≡ take l.i l.initial.self.working.now)
    × (l.self.working.now ≡ l.initial.self.working.now)
    × (l.self.len ≡ l.initial.self.len)
    × (l.self.working.ghost_name ≡ l.initial.self.working.ghost_name)
    × (l.self.durable.ghost_name ≡ l.initial.self.durable.ghost_name)
