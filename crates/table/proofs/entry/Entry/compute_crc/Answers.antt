use Rattle.std.proofs.Common.{take, ap, ◌∙◌}
use Rattle.crc32c.specs.Crc.{crc}
use Rattle.table.specs.Entries.{entry_check}
use Rattle.table.proofs.entry.Entry.compute_crc.Goals as goal

pub returns : goal.returns
unfolding entry_check
returns c = c.checksum.ensures ∙ ap (λ bs. crc (take 25 bs)) c.encode.ensures.written
