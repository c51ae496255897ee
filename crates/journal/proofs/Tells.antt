-- What an answer tells of the fault, and what a fault tells of the tests.
use Rattle.std.proofs.Common.{◌≡◌, ℕ, ◌*◌, ◌%◌, ◌≤◌, Bool, true, false, cond, not, ◌&&◌, ◌||◌, eqb, ltb, length, Some, None, Ok, Err, Option, refl, ap, arith}
use Rattle.std.proofs.lemmas.Bool.{ltb-false, or_parts}
use Rattle.journal.specs.declared.fault.JournalFault.{JournalFault}
use Rattle.journal.specs.declared.fault.JournalFault.TheVariants.{Below, Full, Restore}
use Rattle.journal.specs.Answers.{answered}
use Rattle.journal.specs.Rows.{JournalMeaning, append_fault, in_bounds, later_than, restore_fault}

pub answered_ok : {A : Type 0} (f : Option JournalFault) (x a : A) → Ok a ≡ answered f x → (f ≡ None) × (a ≡ x)
answered_ok None x a e = (refl, (cc))
answered_ok (Some f) x a e = let z : ◌≡◌ {A = ℕ} 0 1 = cc in absurd (omega arith)

pub answered_err : {A : Type 0} (o : Option JournalFault) (x : A) (f : JournalFault) → Err f ≡ answered o x → o ≡ Some f
answered_err None x f e = let z : ◌≡◌ {A = ℕ} 0 1 = cc in absurd (omega arith)
answered_err (Some g) x f e = ap Some (let s : g ≡ f = cc in s)

pub no_fault : (a b : Bool) (x y : JournalFault) → cond a (Some x) (cond b None (Some y)) ≡ None → (a ≡ false) × (b ≡ true)
no_fault true b x y e = let z : ◌≡◌ {A = ℕ} 0 1 = cc in absurd (omega arith)
no_fault false true x y e = (refl, refl)
no_fault false false x y e = let z : ◌≡◌ {A = ℕ} 0 1 = cc in absurd (omega arith)

pub fault_none : (a b : Bool) (x y : JournalFault) → a ≡ false → b ≡ true → cond a (Some x) (cond b None (Some y)) ≡ None
fault_none true b x y d e = let z : ◌≡◌ {A = Bool} true false = cc in cc
fault_none false true x y d e = refl
fault_none false false x y d e = let z : ◌≡◌ {A = Bool} true false = cc in cc

module _ {K : Type 0} (size : ℕ) (j : JournalMeaning K) (s : ℕ) where
  pub append_tells : (space : Bool) (stored : ℕ) → append_fault space size j s stored ≡ None → (later_than s j ≡ false) × ((space && in_bounds size j s stored) ≡ true)
  append_tells space stored e = no_fault (later_than s j) (space && in_bounds size j s stored) (Below s) (Full s) e

  pub restore_tells : (bytes : ℕ) → restore_fault size j s bytes ≡ None → bytes ≤ length (j.rows s) * size
  restore_tells bytes e = ltb-false (length (j.rows s) * size) bytes (or_parts (ltb (length (j.rows s) * size) bytes) (not (eqb (bytes % size) 0)) (no_test (ltb (length (j.rows s) * size) bytes || not (eqb (bytes % size) 0)) (Restore s) e)).0
    where
      no_test : (b : Bool) (f : JournalFault) → cond b (Some f) None ≡ None → b ≡ false
      no_test true f e = let z : ◌≡◌ {A = ℕ} 0 1 = cc in absurd (omega arith)
      no_test false f e = refl
