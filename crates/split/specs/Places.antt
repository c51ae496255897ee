-- Where the rows of a section have their values, as its records say.
use Rattle.std.specs.Prelude.{ℕ, zero, suc, ◌+◌, Bool, false, cond, ◌&&◌, List, [], ◌∷◌, drop, ◌==◌, nat_lt}
use Rattle.std.specs.List.{between}
use Rattle.codec.specs.Bytes.{number}

-- the value offset of the record in front, where keys have a width
abbrev pub offset_of : ℕ → List ℕ → ℕ
offset_of w records = number (between (w + 16) (w + 24) records)

-- its value size
abbrev pub size_of : ℕ → List ℕ → ℕ
size_of w records = number (between (w + 24) (w + 28) records)

-- a number of each of n records
abbrev pub each_of : (List ℕ → ℕ) → ℕ → ℕ → List ℕ → List ℕ
each_of f w zero records = []
each_of f w (suc n) records = f records ∷ each_of f w n (drop (w + 28) records)

-- their value offsets
abbrev pub offsets : ℕ → ℕ → List ℕ → List ℕ
offsets w n records = each_of (offset_of w) w n records

-- their value sizes
abbrev pub sizes : ℕ → ℕ → List ℕ → List ℕ
sizes w n records = each_of (size_of w) w n records

-- has a row this offset and size: the first that does not begin before the offset, since offsets rise
abbrev pub has_place : ℕ → ℕ → List ℕ → List ℕ → Bool
has_place offset size [] ks = false
has_place offset size (m ∷ ms) [] = false
has_place offset size (m ∷ ms) (k ∷ ks) = cond (nat_lt m offset) (has_place offset size ms ks) (m == offset && k == size)
