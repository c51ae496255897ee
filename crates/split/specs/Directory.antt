-- A directory of sections: its entries stand in rising order, each begins where the one before it ends.
use Rattle.std.specs.Prelude.{ℕ, suc, ◌+◌, ◌-◌, ◌≤◌, cond, List, [], ◌∷◌, map, Some, None, Option, ◌==◌, nat_lt}
use Rattle.std.specs.Coded.{×_prop, Unit-prop, le_prop}
use Rattle.split.specs.declared.section.Section.{Section}

-- an entry of its numbers
abbrev pub entry : ℕ → ℕ → ℕ → ℕ → ℕ → Section
entry number row byte rows bytes = record { number = number; first_row = row; first_byte = byte; rows = rows; bytes = bytes }

-- the numbers of the entries
abbrev pub numbers : List Section → List ℕ
numbers ds = map (λ d. d.number) ds

-- numbers rise strictly, from `low` on
abbrev pub Rising : ℕ → List ℕ → Type 0
Rising low [] = Unit {0}
Rising low (n ∷ ns) = (low ≤ n) × Rising (suc n) ns

-- which has at most one proof
pub Rising-prop : (low : ℕ) (ns : List ℕ) → IsProp (Rising low ns)
Rising-prop low [] = Unit-prop
Rising-prop low (n ∷ ns) = ×_prop le_prop (Rising-prop (suc n) ns)

-- how many of them stand before n
abbrev pub before : ℕ → List ℕ → ℕ
before n [] = 0
before n (m ∷ ms) = cond (nat_lt m n) (suc (before n ms)) 0

-- the row behind the last entry's, `row` where there is none
abbrev pub end_row : ℕ → List Section → ℕ
end_row row [] = row
end_row row (d ∷ ds) = end_row (d.first_row + d.rows) ds

-- the same for stored bytes
abbrev pub end_byte : ℕ → List Section → ℕ
end_byte byte [] = byte
end_byte byte (d ∷ ds) = end_byte (d.first_byte + d.bytes) ds

-- the entry of section s; one without rows, where its rows would stand, if it has none
abbrev pub entry_of : ℕ → ℕ → ℕ → List Section → Section
entry_of s row byte [] = entry s row byte 0 0
entry_of s row byte (d ∷ ds) =
    cond (nat_lt d.number s)
    (entry_of s (d.first_row + d.rows) (d.first_byte + d.bytes) ds)
    (cond (d.number == s) d (entry s d.first_row d.first_byte 0 0))

-- one more than the last entry's number, `n` where there is none
abbrev pub top : ℕ → List Section → ℕ
top n [] = n
top n (d ∷ ds) = top (suc d.number) ds

-- the last entry's number
abbrev pub highest_of : List Section → Option ℕ
highest_of ds = cond (top 0 ds == 0) None (Some (top 0 ds - 1))
