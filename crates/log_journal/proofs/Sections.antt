-- The rows of one section among rows in a log, one row at a time.
use Rattle.std.proofs.Common.{◌≡◌, ℕ, suc, ◌+◌, ◌-◌, cond, eqb, ◌⊎◌, List, ◌∷◌, length, take, Some, None, Option, zero-add, arith}
use Rattle.std.specs.Option.{option_map}
use Rattle.std.proofs.lemmas.Bool.Decides.{nat_tests}
use Rattle.journal.specs.declared.record.Record.{Record}
use Rattle.journal.specs.Answers.{record_of, record_there}
use Rattle.journal.specs.Flat.{cut, rows_of}
use Rattle.journal.specs.Rows.{Row, row_at, stored_at, stored_bytes}
use Rattle.journal.specs.Log.{LogRow}
use Rattle.log_journal.specs.Kept.{keeps_row, kept_row, section_in}

-- the rows of section s
abbrev pub of_section : {K : Type 0} → (List ℕ → K) → ℕ → List LogRow → List (Row K)
of_section decoding s = rows_of section_in (kept_row decoding) s

-- where rows begin with r
module _ {K : Type 0} (decoding : List ℕ → K) {s : ℕ} {xs rs : List LogRow} {r : LogRow} (is : xs ≡ r ∷ rs) where
  pub row_here : r.section ≡ s → of_section decoding s xs ≡ kept_row decoding r ∷ of_section decoding s rs
  row_here e = grind (arith, nat_tests)

  pub row_else : (r.section ≡ s → ⊥) → of_section decoding s xs ≡ of_section decoding s rs
  row_else n = grind (arith, nat_tests)

-- and m more rows of the section are kept once it is
pub cut_on : (s n m : ℕ) {xs rs : List LogRow} {r : LogRow} → xs ≡ r ∷ rs → Some m ≡ keeps_row s n r.section → cut section_in s n xs ≡ r ∷ cut section_in s m rs
cut_on s n m is e = grind arith

module _ {K : Type 0} where
  -- the record at a position, where the rows begin at an offset
  abbrev pub record_from : ℕ → List (Row K) → ℕ → Option (Record K)
  record_from from rows p = option_map (record_of (from + stored_bytes (take p rows))) (row_at rows p)

  there : (offset : ℕ) (rows : List (Row K)) (p : ℕ) (o : Option (Row K)) → offset ≡ stored_bytes (take p rows) → option_map (record_of offset) o ≡ record_there rows p o
  there offset rows p o e = grind arith

  pub record_is : (rows : List (Row K)) (p : ℕ) → record_from 0 rows p ≡ record_there rows p (row_at rows p)
  record_is rows p = there _ rows p (row_at rows p) (zero-add (stored_bytes (take p rows)))

  -- where rows begin with r, whose stored value has n bytes
  module _ {rows rs : List (Row K)} {r : Row K} (is : rows ≡ r ∷ rs) {n : ℕ} (long : length r.stored ≡ n) (from : ℕ) where
    pub record_here : (p : ℕ) → p ≡ 0 → record_from from rows p ≡ Some (record_of from r)
    record_here p e = grind arith

    pub record_on : (p : ℕ) → (p ≡ 0 → ⊥) → record_from (from + n) rs (p - 1) ≡ record_from from rows p
    record_on p d = grind arith

    pub stored_here : (offset size : ℕ) → from ≡ offset → n ≡ size → stored_at from rows offset size ≡ Some r.stored
    stored_here offset size d e = grind (arith, nat_tests)

    pub stored_on : (offset size : ℕ) → (from ≡ offset → ⊥) ⊎ (n ≡ size → ⊥) → stored_at (from + n) rs offset size ≡ stored_at from rows offset size
    stored_on offset size other = grind (arith, nat_tests)

-- one more than a section, 0 where there is none
abbrev pub above : Option ℕ → ℕ
above None = 0
above (Some s) = suc s

pub highest_is : (o : Option ℕ) (n : ℕ) → above o ≡ n → o ≡ cond (eqb n 0) None (Some (n - 1))
highest_is o n e = grind (arith, nat_tests)
