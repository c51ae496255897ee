-- The check of bytes fits 32 bits.
use Rattle.std.proofs.Common.{ℕ, ◌*◌, ◌/◌, ◌%◌, ◌^◌, ◌<◌, List, [], ◌∷◌, arith}
use lib.Bits.{bit_xor, xor_lt}
use Rattle.std.specs.Int.Digits.{AllBelowBase}
use Rattle.crc32c.specs.Crc.{polynomial, one_bit, eight_bits, register, ones, crc}

bit_fits : (s : ℕ) → s < 2 ^ 32 → one_bit s < 2 ^ 32
unfolding one_bit
bit_fits s h = xor_lt 32 (s / 2) (s % 2 * polynomial) (omega arith) (omega arith)

eight_fits : (s : ℕ) → s < 2 ^ 32 → eight_bits s < 2 ^ 32
unfolding eight_bits
eight_fits s h = bit_fits _ (bit_fits _ (bit_fits _ (bit_fits _ (bit_fits _ (bit_fits _ (bit_fits _ (bit_fits s h)))))))

register_fits : (s : ℕ) (bs : List ℕ) → s < 2 ^ 32 → AllBelowBase 256 bs → register s bs < 2 ^ 32
register_fits s [] h u = h
register_fits s (b ∷ bs) h u =
    register_fits (eight_bits (bit_xor s b)) bs (eight_fits (bit_xor s b) (xor_lt 32 s b h (omega (arith, u.0)))) u.1

pub crc_fits : (bs : List ℕ) → AllBelowBase 256 bs → crc bs < 2 ^ 32
crc_fits bs u = xor_lt 32 (register ones bs) ones (register_fits ones bs (omega arith) u) (omega arith)
