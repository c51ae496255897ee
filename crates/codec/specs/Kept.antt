-- What every Window and every Sealed keeps.
use Rattle.std.specs.Prelude.{◌≡◌, ℕ, zero, suc, ◌-◌, ◌^◌, ◌≤◌, Bool, true, ◌&&◌, List, [], ◌∷◌, ◌++◌, length, drop, replicate, nat_le, nat_lt, refl}
use Rattle.std.proofs.Common.{arith, length-append}
use Rattle.std.proofs.lemmas.List.{drop_at, length-replicate}
use Rattle.std.proofs.lemmas.Bool.{and_from, and_parts, leb-true}
use Rattle.codec.specs.Bytes.{all_bytes}

-- the first day is below the end day, and both are numbers of 8 bytes
abbrev pub in_order : ℕ → ℕ → Bool
in_order first end = nat_lt first end && nat_lt end (2 ^ 64)

-- the most bytes of a Sealed
abbrev pub sealed_most : ℕ
sealed_most = 512

-- may bytes be sealed
abbrev pub sealable : List ℕ → Bool
sealable bs = nat_le (length bs) sealed_most && all_bytes bs

-- bytes, and zeros up to the most
abbrev pub padded : List ℕ → List ℕ
padded bs = bs ++ replicate (sealed_most - length bs) 0

-- `len` bytes stand in front, and only zeros behind, so that equal bytes are held by equal values
abbrev pub Padded : ℕ → List ℕ → Type 0
Padded len text =
    (len ≤ sealed_most) × (length text ≡ sealed_most) × (drop len text ≡ replicate (sealed_most - len) 0) × (all_bytes text ≡ true)

zeros_are_bytes : (n : ℕ) → all_bytes (replicate n 0) ≡ true
zeros_are_bytes zero = refl
zeros_are_bytes (suc n) = zeros_are_bytes n

with_zeros : (bs : List ℕ) (n : ℕ) → all_bytes bs ≡ true → all_bytes (bs ++ replicate n 0) ≡ true
with_zeros [] n h = zeros_are_bytes n
with_zeros (b ∷ bs) n h = let p = and_parts (nat_lt b 256) (all_bytes bs) h in and_from (nat_lt b 256) _ p.0 (with_zeros bs n p.1)

pub padded_keeps : (bs : List ℕ) → sealable bs ≡ true → Padded (length bs) (padded bs)
padded_keeps bs h =
    let p = and_parts (nat_le (length bs) sealed_most) (all_bytes bs) h in
    let few : length bs ≤ sealed_most = leb-true (length bs) sealed_most p.0 in
    let zeros = replicate {A = ℕ} (sealed_most - length bs) 0 in
    (few, omega (arith, length-append bs zeros, length-replicate {A = ℕ} (sealed_most - length bs) 0), drop_at bs zeros (length bs) refl, with_zeros bs (sealed_most - length bs) p.1)
