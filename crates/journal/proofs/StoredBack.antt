-- A stored value is read again.
use Rattle.std.proofs.Common.{◌≡◌, ℕ, ◌+◌, ◌-◌, ◌^◌, ◌<◌, ◌≤◌, List, ◌++◌, length, take, drop, Some, Ok, Err, Option, sym, refl, ap, ◌∙◌, arith, length-append, take-append-drop}
use Rattle.std.specs.Option.{ok_or}
use Rattle.std.specs.Int.Digits.{AllBelowBase}
use Rattle.std.proofs.lemmas.List.{take_at, drop_at}
use Rattle.std.proofs.lemmas.Bool.Decides.{nat_tests}
use Rattle.crc32c.specs.Crc.{crc}
use Rattle.crc32c.proofs.Fits.{crc_fits}
use Rattle.codec.specs.Bytes.{be, number}
use Rattle.codec.specs.Rounds.{number-be}
use Rattle.journal.specs.declared.fault.Cursor.{Cursor}
use Rattle.journal.specs.declared.fault.JournalFault.TheVariants.{Check, Kind}
use Rattle.journal.specs.Rows.{check_of, checked, decoded, encoding_of, stored_of, value_check, value_there}

check_fits : (bs : List ℕ) → AllBelowBase 256 bs → value_check bs < 2 ^ 32
unfolding value_check
check_fits bs u = crc_fits bs u

pub length_stored : (enc : List ℕ) → length (stored_of enc) ≡ length enc + 4
length_stored enc = length-append enc (be 4 (value_check enc))

encoding_back : (enc : List ℕ) → encoding_of (stored_of enc) ≡ enc
encoding_back enc = let l = length_stored enc in let e : length (stored_of enc) - 4 ≡ length enc = omega arith in ap (λ (n : ℕ). take n (stored_of enc)) e ∙ take_at enc (be 4 (value_check enc)) (length enc) refl

check_back : (enc : List ℕ) → AllBelowBase 256 enc → check_of (stored_of enc) ≡ value_check enc
check_back enc u =
    let l = length_stored enc in
    let e : length (stored_of enc) - 4 ≡ length enc = omega arith in
    ap (λ (n : ℕ). number (drop n (stored_of enc))) e ∙ ap number (drop_at enc (be 4 (value_check enc)) (length enc) refl) ∙ number-be 4 (value_check enc) (check_fits enc u)

or_kind : {V : Type 0} (decode : List ℕ → Option V) (c : Cursor) (o : Option V) → ok_or o (Kind (Some c)) ≡ decoded decode c o
or_kind decode c o = grind arith

-- a stored value has the right check, so reading it is decoding it
module _ {V : Type 0} (decode : List ℕ → Option V) (enc : List ℕ) (u : AllBelowBase 256 enc) where
  checked_decoded : (c : Cursor) → checked decode c (stored_of enc) ≡ decoded decode c (decode enc)
  checked_decoded c =
      let e = encoding_back enc in
      let k = check_back enc u in
      grind (arith, nat_tests)

  there_checked : (c : Cursor) → value_there decode c (Some (stored_of enc)) ≡ decoded decode c (decode enc)
  there_checked c =
      let l = length_stored enc in
      let h = checked_decoded c in
      grind (arith, nat_tests)

  pub there_decoded : (c : Cursor) → ok_or (decode enc) (Kind (Some c)) ≡ value_there decode c (Some (stored_of enc))
  there_decoded c = or_kind decode c (decode enc) ∙ sym (there_checked c)

module _ {V : Type 0} (decode : List ℕ → Option V) (enc : List ℕ) (x : V) (u : AllBelowBase 256 enc) (d : decode enc ≡ Some x) where
  pub checked_stored : (c : Cursor) → checked decode c (stored_of enc) ≡ Ok x
  checked_stored c = checked_decoded decode enc u c ∙ ap (decoded decode c) d

  pub there_stored : (c : Cursor) → value_there decode c (Some (stored_of enc)) ≡ Ok x
  there_stored c = there_checked decode enc u c ∙ ap (decoded decode c) d

-- ---- reading: bytes are an encoding and a check, which are split off

module _ {V : Type 0} (decode : List ℕ → Option V) (c : Cursor) (stored : List ℕ) {enc behind : List ℕ} (long : 4 ≤ length stored) (front : enc ≡ take (length stored - 4) stored) (back : behind ≡ drop (length stored - 4) stored) {own check : ℕ}
    (e1 : own ≡ crc enc) (e2 : check ≡ number behind) where
  pub reads_wrong : (own ≡ check → ⊥) → Err (Check check own) ≡ value_there decode c (Some stored)
  unfolding value_check
  reads_wrong n = grind (arith, nat_tests)

  pub reads_right : own ≡ check → {r : Option V} → r ≡ decode enc → ok_or r (Kind (Some c)) ≡ value_there decode c (Some stored)
  unfolding value_check
  reads_right q {r} e = let d = or_kind decode c r in grind (arith, nat_tests)

  -- and the value that is read is stored as these bytes
  pub reads_back : be 4 check ≡ behind → own ≡ check → {e : List ℕ} → e ≡ enc → stored_of e ≡ stored
  unfolding value_check
  reads_back b q {e} h =
      let rest : be 4 (value_check e) ≡ behind = ap (be 4) (ap crc h ∙ sym e1 ∙ q) ∙ b in
      (λ i. (h ∙ front) i ++ (rest ∙ back) i) ∙ take-append-drop (length stored - 4) stored
