-- What stops a table: the number of each fault, and its details in order.
use Rattle.std.specs.Prelude.{ℕ, List, [], ◌∷◌}
use Rattle.table.specs.declared.fault.TableFault.{TableFault}
use Rattle.table.specs.declared.fault.TableFault.TheVariants.{TooMany, PastEnd}

-- the number of each fault
abbrev pub table_number : TableFault → ℕ
table_number TooMany = 8
table_number (PastEnd i) = 19

-- the index of an entry
abbrev pub table_details : TableFault → List ℕ
table_details TooMany = []
table_details (PastEnd i) = i ∷ []
