-- The rows of a section, by the places of their values.
use Rattle.std.proofs.Common.{◌≡◌, ℕ, suc, ◌+◌, ◌-◌, ◌^◌, ◌<◌, ◌≤◌, ◌&&◌, eqb, List, [], ◌∷◌, ◌++◌, length, take, drop, is_some, Some, None, sym, refl, ap, ◌∙◌, ⊎_elim, append_assoc, arith}
use Rattle.std.proofs.lemmas.List.{drop-drop, drop_at, take_at}
use Rattle.std.proofs.lemmas.Bool.{and_parts, eqb-true, cond-true, cond-false, cases_Bool}
use Rattle.std.proofs.lemmas.Bool.Decides.{nat_tests}
use Rattle.std.proofs.lemmas.Grind.{common_steps}
use Rattle.journal.specs.Answers.{record_of}
use Rattle.journal.specs.Layouts.{record_encoding, record_read}
use Rattle.journal.specs.Rows.{Row, stored_at, stored_bytes}
use Rattle.journal.proofs.ReadRecord.{length_record, read_encoded}
use Rattle.split.specs.Directory.{Rising}
use Rattle.split.specs.Parts.{RowsFit, records_from, stored_of_rows}
use Rattle.split.specs.Places.{has_place, offsets, sizes}
use Rattle.split.proofs.Kind.{Kind}
use Rattle.split.proofs.Reread.{record_fits}

module _ {K : Type 0} where
  -- where the values of rows begin, from an offset on
  abbrev pub starts : ℕ → List (Row K) → List ℕ
  starts from [] = []
  starts from (r ∷ rs) = from ∷ starts (from + length r.stored) rs

  abbrev pub lengths : List (Row K) → List ℕ
  lengths [] = []
  lengths (r ∷ rs) = length r.stored ∷ lengths rs

  pub starts_rise : (low from : ℕ) (rows : List (Row K)) → RowsFit rows → low ≤ from → Rising low (starts from rows)
  starts_rise low from [] f l = tt
  starts_rise low from (r ∷ rs) f l = (l, starts_rise (suc from) (from + length r.stored) rs f.1 (omega (arith, f.0.has_check)))

  none_later : (from offset size : ℕ) (rows : List (Row K)) → offset < from → stored_at from rows offset size ≡ None
  none_later from offset size [] l = refl
  none_later from offset size (r ∷ rs) l = grind (arith, nat_tests, none_later (from + length r.stored) offset size rs)

  pub held : (from offset size : ℕ) (rows : List (Row K)) → RowsFit rows → has_place offset size (starts from rows) (lengths rows) ≡ is_some (stored_at from rows offset size)
  held from offset size [] f = refl
  held from offset size (r ∷ rs) f = grind (arith, nat_tests, common_steps, held (from + length r.stored) offset size rs f.1, none_later (from + length r.stored) offset size rs, f.0.has_check)

  -- where it lies among the stored values
  pub record Lies (from offset size : ℕ) (rows : List (Row K)) (x y : List ℕ) : Type 0 where
    pub behind : from ≤ offset
    pub within : offset - from + size ≤ stored_bytes rows
    pub slice : take size (drop (offset - from) (stored_of_rows rows ++ y)) ≡ x

  pub lies : (from offset size : ℕ) (rows : List (Row K)) (x y : List ℕ) → stored_at from rows offset size ≡ Some x → Lies from offset size rows x y
  lies from offset size [] x y e = absurd (cc)
  lies from offset size (r ∷ rs) x y e =
      let k = length r.stored in
      let values : List ℕ = stored_of_rows rs ++ y in
      let v : (r.stored ++ stored_of_rows rs) ++ y ≡ r.stored ++ values = append_assoc r.stored (stored_of_rows rs) y in
      ⊎_elim
      (λ t.
      let p = and_parts (eqb from offset) (eqb k size) t in
      let is : Some r.stored ≡ Some x = sym (cond-true (eqb from offset && eqb k size) _ _ t) ∙ e in
      let stored : r.stored ≡ x = cc in
      let none : offset - from ≡ 0 = omega (arith, eqb-true from offset p.0) in
      record {
        behind = omega (arith, eqb-true from offset p.0);
        within = omega (arith, none, eqb-true k size p.1);
        slice = (λ i. take size (drop (none i) (v i))) ∙ take_at r.stored values size (eqb-true k size p.1) ∙ stored;
      })
      (λ f.
      let rest = lies (from + k) offset size rs x y (sym (cond-false (eqb from offset && eqb k size) _ _ f) ∙ e) in
      let off : offset - from ≡ k + (offset - (from + k)) = omega (arith, rest.behind) in
      record {
        behind = omega (arith, rest.behind);
        within = omega (arith, rest.within, rest.behind);
        slice = (λ i. take size (drop (off i) (v i))) ∙ ap (take size) (sym (drop-drop (offset - (from + k)) k (r.stored ++ values)) ∙ ap (drop (offset - (from + k))) (drop_at r.stored values k refl)) ∙ rest.slice;
      })
      (cases_Bool (eqb from offset && eqb k size))

module _ {K : Type 0} {bytes : K → List ℕ} {w : ℕ} {decoding : List ℕ → K} (key : Kind bytes w decoding) where
  -- what the records of rows say
  pub records_say : (from : ℕ) (rows : List (Row K)) (x : List ℕ) → RowsFit rows → from + stored_bytes rows ≤ 2 ^ 63 →
      (offsets w (length rows) (records_from bytes from rows ++ x) ≡ starts from rows) × (sizes w (length rows) (records_from bytes from rows ++ x) ≡ lengths rows)
  records_say from [] x f h = (refl, refl)
  records_say from (r ∷ rs) x f h =
      let enc : List ℕ = record_encoding bytes (record_of from r) in
      let more : List ℕ = records_from bytes (from + length r.stored) rs in
      let e : (enc ++ more) ++ x ≡ enc ++ (more ++ x) = append_assoc enc more x in
      let read : record_read decoding w (enc ++ (more ++ x)) ≡ record_of from r =
      read_encoded bytes w key.sized decoding key.back (record_of from r) (record_fits from r f.0 (omega arith)) (more ++ x) in
      let behind : drop (w + 28) (enc ++ (more ++ x)) ≡ more ++ x = drop_at enc (more ++ x) (w + 28) (length_record bytes w key.sized (record_of from r)) in
      let rest = records_say (from + length r.stored) rs x f.1 (omega arith) in (
        ap (offsets w (suc (length rs))) e ∙ (λ i. (read i).value_offset ∷ offsets w (length rs) (behind i)) ∙ ap (λ l. from ∷ l) rest.0,
        ap (sizes w (suc (length rs))) e ∙ (λ i. (read i).value_size ∷ sizes w (length rs) (behind i)) ∙ ap (λ l. length r.stored ∷ l) rest.1,
      )
