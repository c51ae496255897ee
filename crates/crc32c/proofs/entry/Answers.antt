-- antt computes the table from its rule, and finds the program's.
use Rattle.std.proofs.Common.{◌<◌, rules}
use Rattle.crc32c.specs.Crc.{one_bit, eight_bits}
use Rattle.crc32c.proofs.Table.{at}
use Rattle.crc32c.proofs.entry.Goals as goal

pub returns : goal.returns
unfolding eight_bits one_bit
returns c = let h : c.args.low < 256 = search rules in at c.args.low h
