-- The key that bytes write.
use Rattle.std.specs.Prelude.{◌≡◌, ℕ, zero, suc, ◌%◌, ◌^◌, ◌<◌, true, List, [], ◌∷◌, length, nat_lt, refl}
use Rattle.std.specs.Int.Digits.{AllBelowBase}
use Rattle.std.proofs.Common.{ap, ◌∙◌, subst, mod-eq_of_lt, arith}
use Rattle.std.proofs.lemmas.Nat.{mod_below}
use Rattle.std.proofs.lemmas.Bool.{and_from, lt-ltb}
use Rattle.codec.specs.declared.fingerprint.Fingerprint.{Fingerprint}
use Rattle.codec.specs.declared.serial.Serial.{Serial}
use Rattle.codec.specs.Bytes.{be, number, all_bytes}
use Rattle.codec.specs.Rounds.{be_back, number_lt}

pub serial_fits : (n : ℕ) → n % 2 ^ 64 < 2 ^ 64
serial_fits n = mod_below n (2 ^ 64) (omega arith)

-- the serial of 8 bytes; a longer list counts by its last 8
abbrev pub serial_of : List ℕ → Serial
serial_of bs = record { value = number bs % 2 ^ 64; ok = serial_fits (number bs) }

pub serial_back : (bs : List ℕ) → length bs ≡ 8 → AllBelowBase 256 bs → be 8 (number bs % 2 ^ 64) ≡ bs
serial_back bs l u =
    let low : number bs < 2 ^ 64 = subst (λ (n : ℕ). number bs < 256 ^ n) l (number_lt bs u) in
    ap (be 8) (mod-eq_of_lt low) ∙ be_back 8 bs l u

-- n bytes: a list as it is, cut off or with zeros behind where it is longer or shorter
abbrev pub fitted : ℕ → List ℕ → List ℕ
fitted zero bs = []
fitted (suc n) [] = 0 ∷ fitted n []
fitted (suc n) (b ∷ bs) = (b % 256) ∷ fitted n bs

pub length-fitted : (n : ℕ) (bs : List ℕ) → length (fitted n bs) ≡ n
length-fitted zero bs = refl
length-fitted (suc n) [] = ap suc (length-fitted n [])
length-fitted (suc n) (b ∷ bs) = ap suc (length-fitted n bs)

pub fitted_bytes : (n : ℕ) (bs : List ℕ) → all_bytes (fitted n bs) ≡ true
fitted_bytes zero bs = refl
fitted_bytes (suc n) [] = fitted_bytes n []
fitted_bytes (suc n) (b ∷ bs) = and_from (nat_lt (b % 256) 256) _ (lt-ltb (b % 256) 256 (mod_below b 256 (omega arith))) (fitted_bytes n bs)

-- the fingerprint of 32 bytes
abbrev pub fingerprint_of : List ℕ → Fingerprint
fingerprint_of bs = record { digest = fitted 32 bs; ok = (length-fitted 32 bs, fitted_bytes 32 bs) }

pub fitted_back : (n : ℕ) (bs : List ℕ) → length bs ≡ n → AllBelowBase 256 bs → fitted n bs ≡ bs
fitted_back zero [] l u = refl
fitted_back zero (b ∷ bs) l u = absurd (omega arith)
fitted_back (suc n) [] l u = absurd (omega arith)
fitted_back (suc n) (b ∷ bs) l u = λ i. mod-eq_of_lt u.0 i ∷ fitted_back n bs (omega arith) u.1 i
