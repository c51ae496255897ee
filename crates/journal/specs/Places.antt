-- The place of a row, and the place that is none.
use Rattle.std.specs.Prelude.{ℕ, ◌-◌, ◌^◌, cond, ◌&&◌, Some, None, Option, ◌==◌}
use Rattle.journal.specs.declared.place.Place.{Place}

-- a section and a position
abbrev pub place : ℕ → ℕ → Place
place s p = record { section = s; position = p }

-- all ones in 8 bytes
abbrev pub ones_8 : ℕ
ones_8 = 2 ^ 64 - 1

-- both numbers all ones mean none
abbrev pub row_of : Place → Option Place
row_of p = cond (p.section == ones_8 && p.position == ones_8) None (Some p)
