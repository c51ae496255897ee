-- A journal whose rows stand one after the other, in sections that do not fall, as both journals here keep them.
use Rattle.std.specs.Prelude.{ℕ, suc, ◌-◌, ◌≤◌, true, cond, ◌&&◌, List, [], ◌∷◌, length, None, ◌==◌, nat_lt}
use Rattle.journal.specs.Rows.{Row, JournalMeaning}

module _ {A K : Type 0} (section : A → ℕ) (row : A → Row K) where
  -- the rows of a section
  abbrev pub rows_of : ℕ → List A → List (Row K)
  rows_of s [] = []
  rows_of s (x ∷ xs) = cond (section x == s) (row x ∷ rows_of s xs) (rows_of s xs)

  -- one more than the section of the last row, `n` where there is none
  abbrev pub sections_from : ℕ → List A → ℕ
  sections_from n [] = n
  sections_from n (x ∷ xs) = sections_from (suc (section x)) xs

  -- such a journal makes each append durable at once and keeps no record
  abbrev pub flat_means : List A → JournalMeaning K
  flat_means xs = record {
    rows = λ s. rows_of s xs;
    durable = λ s. length (rows_of s xs);
    sections = sections_from 0 xs;
    eager = true;
    asked = None;
  }

module _ {A : Type 0} (section : A → ℕ) where
  -- sections do not fall, and none is below `low`
  abbrev pub Ordered : ℕ → List A → Type 0
  Ordered low [] = Unit {0}
  Ordered low (x ∷ xs) = (low ≤ section x) × Ordered (section x) xs

  -- the rows that a restore keeps: earlier sections, and the first n rows of section s
  abbrev pub cut : ℕ → ℕ → List A → List A
  cut s n [] = []
  cut s n (x ∷ xs) =
      cond (nat_lt (section x) s)
      (x ∷ cut s n xs)
      (cond (section x == s && nat_lt 0 n) (x ∷ cut s (n - 1) xs) [])
