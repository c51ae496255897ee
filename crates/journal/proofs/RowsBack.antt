-- A row that was appended is found again, and its value is read again.
use Rattle.std.proofs.Common.{◌≡◌, ℕ, zero, suc, ◌+◌, ◌<◌, Bool, true, false, ◌&&◌, eqb, List, [], ◌∷◌, ◌++◌, length, take, is_ok, Some, None, Ok, Option, Result, sym, refl, ap, ◌∙◌, arith}
use Rattle.std.specs.Int.Digits.{AllBelowBase}
use Rattle.std.proofs.lemmas.List.{take_at}
use Rattle.std.proofs.lemmas.Bool.{eq-eqb, ne_eqb, and_from, and_left, and_right, cond-true, cond-false}
use Rattle.journal.specs.declared.fault.Cursor.{Cursor}
use Rattle.journal.specs.declared.fault.JournalFault.{JournalFault}
use Rattle.journal.specs.declared.record.Record.{Record}
use Rattle.journal.specs.Rows.{Row, JournalMeaning, append, apply, append_fault, appended, row_at, stored_at, stored_bytes, stored_of, value_answer, value_end, value_there}
use Rattle.journal.specs.Answers.{answered, unless, append_answer, append_after, record_of, record_there, or_no_row, get_answer}
use Rattle.journal.specs.Above.{append_and_read_lem}
use Rattle.journal.proofs.StoredBack.{length_stored, there_stored}

not_here : (from o a b more : ℕ) → 0 < b → o ≡ from + (a + more) → (eqb from o && eqb a b) ≡ false
not_here from o zero b more l e = and_right (eqb from o) _ (ne_eqb 0 b (λ z. omega arith))
not_here from o (suc a) b more l e = and_left (eqb from o) _ (ne_eqb from o (λ z. omega arith))

module _ {K : Type 0} where
  pub row_last : (xs : List (Row K)) (r : Row K) → row_at (xs ++ (r ∷ [])) (length xs) ≡ Some r
  row_last [] r = refl
  row_last (x ∷ xs) r = row_last xs r

  pub appended_here : (s : ℕ) (r : Row K) (rows : ℕ → List (Row K)) → appended s r rows s ≡ rows s ++ (r ∷ [])
  appended_here s r rows = cond-true (eqb s s) _ _ (eq-eqb s s refl)

  -- the stored value of a row stands behind those before it
  stored_found : (from o : ℕ) (rs : List (Row K)) (p : ℕ) (r : Row K) → row_at rs p ≡ Some r → 0 < length r.stored → o ≡ from + stored_bytes (take p rs) → stored_at from rs o (length r.stored) ≡ Some r.stored
  stored_found from o [] p r q l e = cc
  stored_found from o (r' ∷ rs) zero r q l e =
      let same : r' ≡ r = cc in
      let there : eqb from o ≡ true = eq-eqb from o (omega arith) in
      cond-true (eqb from o && eqb (length r'.stored) (length r.stored)) _ _ (and_from (eqb from o) _ there (eq-eqb _ _ (ap (λ (z : Row K). length z.stored) same)))
      ∙ ap (λ (z : Row K). Some z.stored) same
  stored_found from o (r' ∷ rs) (suc p) r q l e =
      cond-false (eqb from o && eqb (length r'.stored) (length r.stored)) _ _ (not_here from o (length r'.stored) (length r.stored) (stored_bytes (take p rs)) l e)
      ∙ stored_found (from + length r'.stored) o rs p r q l (omega arith)

-- what was answered, and that nothing stopped it
no_fault : {A : Type 0} (f : Option JournalFault) (a b : A) → Ok a ≡ answered f b → (f ≡ None) × (a ≡ b)
no_fault (Some f) a b e = let z : ◌≡◌ {A = ℕ} 0 1 = cc in absurd (omega arith)
no_fault None a b e = (refl, cc)

module _ {K V : Type 0} (decode : List ℕ → Option V) (enc : List ℕ) (v : V) (u : AllBelowBase 256 enc) (d : decode enc ≡ Some v) where
  pub value_found : (j : JournalMeaning K) (s p : ℕ) (r : Row K) → row_at (j.rows s) p ≡ Some r → r.stored ≡ stored_of enc →
      value_answer decode j (record { section = s; offset = stored_bytes (take p (j.rows s)); size = length r.stored }) ≡ Ok v
  value_found j s p r q e =
      let c : Cursor = record { section = s; offset = stored_bytes (take p (j.rows s)); size = length r.stored } in
      let l : length r.stored ≡ length enc + 4 = ap length e ∙ length_stored enc in
      ap (value_there decode c) (stored_found 0 (stored_bytes (take p (j.rows s))) (j.rows s) p r q (omega arith) (omega arith))
      ∙ ap (λ (w : List ℕ). value_there decode c (Some w)) e
      ∙ there_stored decode enc v u d c

  -- after an append that was answered, at the place of the answer
  module _ (size : ℕ) (j : JournalMeaning K) (space : Bool) (s : ℕ) (k : K) (ns np : ℕ) (after : JournalMeaning K) (p o n : ℕ)
      (ok : Ok (p, o, n) ≡ append_answer size j space s enc) (so : after ≡ append_after size j space s k ns np enc) where
    abbrev new : Row K
    new = record { key = k; next_section = ns; next_position = np; stored = stored_of enc }

    went : (append_fault space size j s (length (stored_of enc)) ≡ None) × ◌≡◌ {A = ℕ × ℕ × ℕ} (p, o, n) (length (j.rows s), value_end j s, length (stored_of enc))
    went = no_fault _ (p, o, n) _ ok

    rows_now : after.rows s ≡ j.rows s ++ (new ∷ [])
    rows_now =
        ap (λ (m : JournalMeaning K). m.rows s) (so ∙ ap (λ (f : Option JournalFault). unless f j (apply size j (append s k ns np enc))) went.0)
        ∙ appended_here s new j.rows

    at_place : row_at (after.rows s) p ≡ Some new
    at_place = (λ i. row_at (rows_now i) (went.1 i).0) ∙ row_last (j.rows s) new

    before : stored_bytes (take p (after.rows s)) ≡ value_end j s
    before = (λ i. stored_bytes (take (went.1 i).0 (rows_now i))) ∙ ap stored_bytes (take_at (j.rows s) (new ∷ []) (length (j.rows s)) refl)

    got : get_answer after s p ≡ Ok (record_of (value_end j s) new)
    got = ap (λ (w : Option (Row K)). or_no_row s p (record_there (after.rows s) p w)) at_place ∙ ap (λ (w : ℕ). Ok (record_of w new)) before

    read : value_answer decode after (record { section = s; offset = o; size = n }) ≡ Ok v
    read =
        (λ i. value_answer decode after (record { section = s; offset = (ap (λ (w : ℕ × ℕ × ℕ). w.1) went.1 ∙ sym before) i; size = (went.1 i).2 }))
        ∙ value_found after s p new at_place refl

    pub got_back : (a : Result (Record K) JournalFault) → a ≡ get_answer after s p → is_ok a ≡ true
    got_back a e = ap is_ok (e ∙ got)

    pub read_back : (b : Result V JournalFault) → b ≡ value_answer decode after (record { section = s; offset = o; size = n }) → is_ok b ≡ true
    read_back b e = ap is_ok (e ∙ read)

    pub both_back : (a : Result (Record K) JournalFault) (b : Result V JournalFault) (r : Record K) (w : V) → a ≡ get_answer after s p → a ≡ Ok r →
        b ≡ value_answer decode after (record { section = s; offset = o; size = n }) → b ≡ Ok w → ◌≡◌ {A = Result (Record K × V) JournalFault} (Ok (r, w)) (append_and_read_lem size j space s k ns np enc v)
    both_back a b r w ea ra eb rb =
        let e : r ≡ record_of (value_end j s) new = cc (ea ∙ got) in
        let f : w ≡ v = cc (eb ∙ read) in
        (λ i. Ok (e i, f i)) ∙ ap (λ (z : Option JournalFault). answered z (record_of (value_end j s) new, v)) (sym went.0)
