use Rattle.std.proofs.Common.{◌≡◌, drop}
use Rattle.crc32c.specs.Crc.{register}
use Rattle.crc32c.proofs.update.Given as goal

abbrev pub invariant-loop-byte : goal.invariant-loop-byte
invariant-loop-byte l = register l.state (drop l.byte-index l.bytes) ≡ register l.initial.state l.bytes
