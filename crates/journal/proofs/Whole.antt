-- A section's size: its rows, and a restore at it.
use Rattle.std.proofs.Common.{◌≡◌, ℕ, zero, suc, ◌*◌, ◌/◌, ◌%◌, ◌<◌, ◌≤◌, not, ◌||◌, eqb, ltb, List, [], ◌∷◌, length, is_ok, None, Ok, Option, Result, sym, ap, ◌∙◌, ⊎_elim, mul-div_cancel, arith}
use native.Mathlib.Nat.{mul-mod_left}
use Rattle.std.proofs.lemmas.List.{take_all}
use Rattle.std.proofs.lemmas.Bool.{eq-eqb, lt-ltb, le-ltb, or_from, not_from_true, cond-true, cond-false, cases_eq}
use Rattle.std.proofs.lemmas.Bool.Decides.{nat_tests}
use Rattle.journal.specs.declared.fault.JournalFault.{JournalFault}
use Rattle.journal.specs.Rows.{Row, JournalMeaning, restore, apply, restore_fault, row_at}
use Rattle.journal.specs.Answers.{answered, unless, restore_answer, restore_after, size_answer, record_there, or_no_row}

-- a place is reached where it is below the length
pub reached : {K : Type 0} (s p : ℕ) (rows xs : List (Row K)) (q : ℕ) → is_ok (or_no_row s p (record_there rows p (row_at xs q))) ≡ ltb q (length xs)
reached s p rows [] q = sym (le-ltb q 0 (omega arith))
reached s p rows (x ∷ xs) zero = sym (lt-ltb 0 (suc (length xs)) (omega arith))
reached s p rows (x ∷ xs) (suc q) =
    let same : ltb q (length xs) ≡ ltb (suc q) (suc (length xs)) = grind (arith, nat_tests) in
    reached s p rows xs q ∙ same

module _ {K : Type 0} (size : ℕ) (some : 0 < size) (j : JournalMeaning K) (s bytes : ℕ) (e : bytes ≡ size_answer size j s) where
  pub whole_count : bytes / size ≡ length (j.rows s)
  whole_count = ap (λ (b : ℕ). b / size) e ∙ mul-div_cancel (length (j.rows s)) some

  whole_fault : restore_fault size j s bytes ≡ None
  whole_fault =
      let even : bytes % size ≡ 0 = ap (λ (b : ℕ). b % size) e ∙ mul-mod_left (length (j.rows s)) size in
      cond-false (ltb (length (j.rows s) * size) bytes || not (eqb (bytes % size) 0)) _ _ (or_from (ltb (length (j.rows s) * size) bytes) _ (le-ltb _ _ (omega arith)) (not_from_true _ (eq-eqb _ _ even)))

  pub whole_answer : (r : Result (Unit {0}) JournalFault) → r ≡ restore_answer size j s bytes → r ≡ Ok tt
  whole_answer r q = q ∙ ap (λ (f : Option JournalFault). answered f tt) whole_fault

  module _ (after : JournalMeaning K) (so : after ≡ restore_after size j s bytes) where
    done : after ≡ apply size j (restore s bytes)
    done = so ∙ ap (λ (f : Option JournalFault). unless f j (apply size j (restore s bytes))) whole_fault

    pub whole_after : after ≡ apply size j (restore s (size_answer size j s))
    whole_after = done ∙ ap (λ (b : ℕ). apply size j (restore s b)) e

    pub whole_kept : (i : ℕ) → i ≤ s → after.rows i ≡ j.rows i
    whole_kept i h =
        ap (λ (m : JournalMeaning K). m.rows i) done
        ∙ ⊎_elim
        (λ (q : i ≡ s). cond-false (ltb i s) _ _ (le-ltb i s (omega arith)) ∙ cond-true (eqb i s) _ _ (eq-eqb i s q) ∙ take_all (bytes / size) (j.rows i) (omega (arith, whole_count, ap (λ (w : ℕ). length (j.rows w)) q)))
        (λ (n : i ≡ s → ⊥). cond-true (ltb i s) _ _ (lt-ltb i s (omega arith)))
        (cases_eq i s)
