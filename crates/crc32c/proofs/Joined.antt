-- The state after two runs of bytes, one behind the other.
use Rattle.std.proofs.Common.{◌≡◌, ℕ, List, [], ◌∷◌, ◌++◌, refl}
use lib.Bits.{bit_xor}
use Rattle.crc32c.specs.Crc.{eight_bits, register}

pub register_append : (s : ℕ) (xs ys : List ℕ) → register s (xs ++ ys) ≡ register (register s xs) ys
register_append s [] ys = refl
register_append s (x ∷ xs) ys = register_append (eight_bits (bit_xor s x)) xs ys
