-- Refusals at their limits, by computation.
use Rattle.std.proofs.Common.{refl}
use lib.Count.{ones, ones_in}
use Rattle.crc32c.specs.Crc.{one_bit, eight_bits}
use Rattle.table.specs.Entries.{entry_check}
use Rattle.journal.specs.Rows.{value_check}
use Rattle.model.specs.Common.{hash}
use Rattle.model.specs.Edges.{PastEndRefused, EqualEpochsRefused, LastOnes, Walks, Values, Starts, EdgeCases}

past_end : PastEndRefused
unfolding ones ones_in entry_check one_bit eight_bits value_check hash
past_end = record { in_put = refl; in_image = refl; in_sync = refl; in_close = refl; in_get = refl }

equal_epochs : EqualEpochsRefused
unfolding ones ones_in entry_check one_bit eight_bits value_check hash
equal_epochs = record { in_chunk = refl; outside = refl; in_image = refl }

last_ones : LastOnes
unfolding ones ones_in entry_check one_bit eight_bits value_check hash
last_ones = record { section = refl; epoch = refl; below = refl; full = refl }

walks : Walks
unfolding ones ones_in entry_check one_bit eight_bits value_check hash
walks = record { no_row = refl; not_earlier = refl; goes_on = refl }

values : Values
unfolding ones ones_in entry_check one_bit eight_bits value_check hash
values = record { found = refl; no_place = refl; no_check = refl; wrong_check = refl; no_window = refl }

starts : Starts
unfolding ones ones_in entry_check one_bit eight_bits value_check hash
starts = record { epoch = refl; short = refl; half = refl; fewer = refl; stopped = refl; cleaned = refl; restored = refl }

pub edge_cases_lem : EdgeCases
edge_cases_lem = record { past_end = past_end; equal_epochs = equal_epochs; last_ones = last_ones; walks = walks; values = values; starts = starts }
