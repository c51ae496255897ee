-- Good order has at most one proof, so a journal may carry it.
use Rattle.std.specs.Prelude.{ℕ, suc, List, [], ◌∷◌, refl}
use Rattle.std.specs.Coded.{Coded, Coded-set, code_by, coded×, coded_list, coded_ℕ, ×_prop, Unit-prop, le_prop}
use Rattle.journal.specs.Rows.{Row}
use Rattle.split.specs.declared.section.Section.{Section}
use Rattle.split.specs.Directory.{entry}
use Rattle.split.specs.Parts.{Part, RowFits, RowsFit, PartFits, Proper, Laid}

section_code : Coded Section
section_code =
    code_by (ℕ × (ℕ × (ℕ × (ℕ × ℕ)))) (coded× coded_ℕ (coded× coded_ℕ (coded× coded_ℕ (coded× coded_ℕ coded_ℕ))))
    (λ d. (d.number, (d.first_row, (d.first_byte, (d.rows, d.bytes))))) (λ t. entry t.0 t.1.0 t.1.1.0 t.1.1.1.0 t.1.1.1.1) (λ d. refl)

module _ {K : Type 0} where
  RowFits-prop : (r : Row K) → IsProp (RowFits r)
  RowFits-prop r a b = λ i. record {
    next_section_fits = le_prop a.next_section_fits b.next_section_fits i;
    next_position_fits = le_prop a.next_position_fits b.next_position_fits i;
    has_check = le_prop a.has_check b.has_check i;
    size_fits = le_prop a.size_fits b.size_fits i;
  }

  RowsFit-prop : (rows : List (Row K)) → IsProp (RowsFit rows)
  RowsFit-prop [] = Unit-prop
  RowsFit-prop (r ∷ rs) = ×_prop (RowFits-prop r) (RowsFit-prop rs)

  PartFits-prop : (p : Part K) → IsProp (PartFits p)
  PartFits-prop p a b = λ i. record {
    some = le_prop a.some b.some i;
    each = RowsFit-prop p.rows a.each b.each i;
    bounded = le_prop a.bounded b.bounded i;
  }

  Proper-prop : (low : ℕ) (ps : List (Part K)) → IsProp (Proper low ps)
  Proper-prop low [] a b = Unit-prop a b
  Proper-prop low (p ∷ ps) a b = λ i. (le_prop a.0 b.0 i, PartFits-prop p a.1 b.1 i, Proper-prop (suc p.number) ps a.2 b.2 i)

  pub Laid-prop : {bytes : K → List ℕ} {w used : ℕ} {directory : List Section} {records values : List ℕ} {ps : List (Part K)} → IsProp (Laid bytes w used directory records values ps)
  Laid-prop {ps = ps} a b = λ i. record {
    within = le_prop a.within b.within i;
    entries = Coded-set (coded_list section_code) _ _ a.entries b.entries i;
    recorded = Coded-set (coded_list coded_ℕ) _ _ a.recorded b.recorded i;
    kept = Coded-set (coded_list coded_ℕ) _ _ a.kept b.kept i;
    proper = Proper-prop 0 ps a.proper b.proper i;
  }
