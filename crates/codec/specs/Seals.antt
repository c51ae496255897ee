-- Sealed: 0 to 512 bytes as they are.
use Rattle.std.specs.Prelude.{◌≡◌, ℕ, Bool, true, false, cond, List, length, take, Some, None, Ok, Err, Option, Result, nat_le, refl}
use Rattle.codec.specs.declared.fault.KindFault.{KindFault}
use Rattle.codec.specs.declared.fault.KindFault.TheVariants.{NoValue}
use Rattle.codec.specs.declared.sealed.Sealed.{Sealed}
use Rattle.codec.specs.Kept.{sealed_most, sealable, padded, padded_keeps}

-- may these bytes be sealed
abbrev pub sealed_check : List ℕ → Result (Unit {0}) KindFault
sealed_check bs = cond (nat_le (length bs) sealed_most) (Ok tt) (Err NoValue)

-- the bytes as they are
abbrev pub sealed_bytes : Sealed → List ℕ
sealed_bytes s = take s.len s.text

-- the same, once it is known whether they may be sealed
abbrev pub sealed_if : (bs : List ℕ) (fits : Bool) → sealable bs ≡ fits → Option Sealed
sealed_if bs true h = Some (record { len = length bs; text = padded bs; ok = padded_keeps bs h })
sealed_if bs false h = None

-- the value that holds bytes, none where they are too many
abbrev pub sealed_read : List ℕ → Option Sealed
sealed_read bs = sealed_if bs (sealable bs) refl
