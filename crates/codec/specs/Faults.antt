-- What stops a making, and its number.
use Rattle.std.specs.Prelude.{ℕ}
use Rattle.codec.specs.declared.fault.KindFault.{KindFault}
use Rattle.codec.specs.declared.fault.KindFault.TheVariants.{NoValue}

-- the number of each fault
abbrev pub number_of : KindFault → ℕ
number_of NoValue = 18
