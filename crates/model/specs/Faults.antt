-- What stops a call: the number of each fault, and its details in order.
use Rattle.std.specs.Prelude.{ℕ, List, [], ◌∷◌}
use Rattle.table.specs.Faults.{table_number, table_details}
use Rattle.journal.specs.Faults.{journal_number, journal_details}
use Rattle.model.specs.declared.Fault.{Fault}
use Rattle.model.specs.declared.Fault.TheVariants.{InitialSize, Frequency, ChunkSize, CheckpointSize, CheckpointEpoch, ShortTable, EqualEpochs, LastSection, LastEpoch, NotEarlier, Table, Journal}

-- the number of each fault
abbrev pub fault_number : Fault → ℕ
fault_number InitialSize = 1
fault_number Frequency = 2
fault_number ChunkSize = 3
fault_number CheckpointSize = 4
fault_number CheckpointEpoch = 5
fault_number ShortTable = 6
fault_number (EqualEpochs i) = 9
fault_number LastSection = 11
fault_number LastEpoch = 12
fault_number (NotEarlier p) = 15
fault_number (Table f) = table_number f
fault_number (Journal f) = journal_number f

-- a pair; the place of a row; what the table's or the journal's own fault says
abbrev pub fault_details : Fault → List ℕ
fault_details InitialSize = []
fault_details Frequency = []
fault_details ChunkSize = []
fault_details CheckpointSize = []
fault_details CheckpointEpoch = []
fault_details ShortTable = []
fault_details (EqualEpochs i) = i ∷ []
fault_details LastSection = []
fault_details LastEpoch = []
fault_details (NotEarlier p) = p.section ∷ p.position ∷ []
fault_details (Table f) = table_details f
fault_details (Journal f) = journal_details f
