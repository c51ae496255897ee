-- The register is linear over exclusive or, so that its high bits and its low byte go separate ways.
use Rattle.std.proofs.Common.{◌≡◌, ℕ, zero, suc, ◌*◌, ◌/◌, ◌%◌, ◌^◌, ◌<◌, sym, refl, ap, ◌∙◌, arith}
use lib.Bits.{bit_xor, xor_shr, xor_mod, xor_assoc, xor_comm, xor_shifted, xor_zero_r, shifted_half, shifted_even}
use Rattle.std.proofs.lemmas.Nat.{shr_split, mod_below}
use Rattle.crc32c.specs.Crc.{polynomial, one_bit, eight_bits}

scaled : (m n : ℕ) → m < 2 → n < 2 → bit_xor m n * polynomial ≡ bit_xor (m * polynomial) (n * polynomial)
scaled zero zero h k = refl
scaled zero (suc zero) h k = refl
scaled (suc zero) zero h k = refl
scaled (suc zero) (suc zero) h k = refl
scaled zero (suc (suc n)) h k = absurd (omega arith)
scaled (suc zero) (suc (suc n)) h k = absurd (omega arith)
scaled (suc (suc m)) n h k = absurd (omega arith)

cross : (a b c d : ℕ) → bit_xor (bit_xor a b) (bit_xor c d) ≡ bit_xor (bit_xor a c) (bit_xor b d)
cross a b c d =
    xor_assoc a b (bit_xor c d) ∙ ap (bit_xor a) (sym (xor_assoc b c d) ∙ ap (λ x. bit_xor x d) (xor_comm b c) ∙ xor_assoc c b d) ∙ sym (xor_assoc a c (bit_xor b d))

bit_linear : (a b : ℕ) → one_bit (bit_xor a b) ≡ bit_xor (one_bit a) (one_bit b)
unfolding one_bit
bit_linear a b =
    let half : bit_xor a b / 2 ≡ bit_xor (a / 2) (b / 2) = xor_shr a b 1 in
    let odd : bit_xor a b % 2 ≡ bit_xor (a % 2) (b % 2) = xor_mod a b 1 in
    let put : bit_xor (a % 2) (b % 2) * polynomial ≡ bit_xor (a % 2 * polynomial) (b % 2 * polynomial) = scaled (a % 2) (b % 2) (mod_below a 2 (omega arith)) (mod_below b 2 (omega arith)) in
    (λ i. bit_xor (half i) (odd i * polynomial)) ∙ ap (bit_xor (bit_xor (a / 2) (b / 2))) put ∙ cross (a / 2) (b / 2) (a % 2 * polynomial) (b % 2 * polynomial)

eight_bits_linear : (a b : ℕ) → eight_bits (bit_xor a b) ≡ bit_xor (eight_bits a) (eight_bits b)
unfolding eight_bits
eight_bits_linear a b = simp bit_linear

bit_even : (a k : ℕ) → one_bit (a * 2 ^ suc k) ≡ a * 2 ^ k
unfolding one_bit
bit_even a k = (λ i. bit_xor (shifted_half a k i) (shifted_even a k i * polynomial)) ∙ xor_zero_r (a * 2 ^ k)

eight_bits_even : (a : ℕ) → eight_bits (a * 256) ≡ a * 1
unfolding eight_bits
eight_bits_even a =
    let s7 : one_bit (a * 256) ≡ a * 128 = bit_even a 7 in
    let s6 : one_bit (a * 128) ≡ a * 64 = bit_even a 6 in
    let s5 : one_bit (a * 64) ≡ a * 32 = bit_even a 5 in
    let s4 : one_bit (a * 32) ≡ a * 16 = bit_even a 4 in
    let s3 : one_bit (a * 16) ≡ a * 8 = bit_even a 3 in
    let s2 : one_bit (a * 8) ≡ a * 4 = bit_even a 2 in
    let s1 : one_bit (a * 4) ≡ a * 2 = bit_even a 1 in
    let s0 : one_bit (a * 2) ≡ a * 1 = bit_even a 0 in
    cc

-- the rule that a table rests on
pub split : (x : ℕ) → eight_bits x ≡ bit_xor (x / 256) (eight_bits (x % 256))
split x =
    let parts : bit_xor (x / 256 * 256) (x % 256) ≡ x = xor_shifted (x / 256) 8 (x % 256) (mod_below x 256 (omega arith)) ∙ shr_split x 8 in
    let same : x / 256 * 1 ≡ x / 256 = omega arith in
    ap eight_bits (sym parts) ∙ eight_bits_linear (x / 256 * 256) (x % 256) ∙ ap (λ h. bit_xor h (eight_bits (x % 256))) (eight_bits_even (x / 256) ∙ same)

pub of_byte : (s b : ℕ) → b < 256 → eight_bits (bit_xor s b) ≡ bit_xor (s / 256) (eight_bits (bit_xor s b % 256))
of_byte s b h =
    let none : b / 256 ≡ 0 = omega arith in
    let high : bit_xor s b / 256 ≡ s / 256 = xor_shr s b 8 ∙ ap (bit_xor (s / 256)) none ∙ xor_zero_r (s / 256) in
    split (bit_xor s b) ∙ ap (λ h. bit_xor h (eight_bits (bit_xor s b % 256))) high
