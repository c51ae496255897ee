-- CRC-32C as RFC 3720 gives it, bit by bit: bytes go in low bit first, the register begins as ones and is inverted at the end.
use Rattle.std.specs.Prelude.{ℕ, ◌*◌, ◌/◌, ◌%◌, List, [], ◌∷◌, bit_xor}

-- the polynomial 0x1EDC6F41 with its 32 bits in reverse order
abbrev pub polynomial : ℕ
polynomial = 0x82F63B78

-- one bit leaves the register, and the polynomial goes in where that bit was 1
unfoldable pub one_bit : ℕ → ℕ
one_bit s = bit_xor (s / 2) (s % 2 * polynomial)

-- eight bits leave it
unfoldable pub eight_bits : ℕ → ℕ
eight_bits s = one_bit (one_bit (one_bit (one_bit (one_bit (one_bit (one_bit (one_bit s)))))))

-- the register after some bytes more
abbrev pub register : ℕ → List ℕ → ℕ
register s [] = s
register s (b ∷ bs) = register (eight_bits (bit_xor s b)) bs

-- the register's first state, and what is added at the end: 32 ones
abbrev pub ones : ℕ
ones = 0xFFFFFFFF

-- the check of some bytes
abbrev pub crc : List ℕ → ℕ
crc bs = bit_xor (register ones bs) ones
