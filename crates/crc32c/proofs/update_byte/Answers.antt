use Rattle.std.proofs.Common.{◌≡◌, ◌/◌, ◌%◌, ◌<◌, sym, ap, ◌∙◌, rules}
use lib.Bits.{bit_xor, and_mask}
use Rattle.crc32c.specs.Crc.{eight_bits}
use Rattle.crc32c.proofs.Linear.{of_byte}
use Rattle.crc32c.proofs.update_byte.Goals as goal

pub returns : goal.returns
returns c =
    let s = c.args.state in
    let b = c.args.byte in
    let small : b < 256 = search rules in
    let low : c.entry.result ≡ eight_bits (bit_xor s b % 256) = c.entry.ensures ∙ ap eight_bits (and_mask (bit_xor s b) 8) in
    ap (bit_xor (s / 256)) low ∙ sym (of_byte s b small)
