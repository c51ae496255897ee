-- The table that the rule gives, and what stands in it.
use Rattle.std.proofs.Common.{◌≡◌, ℕ, zero, suc, ◌+◌, ◌<◌, List, [], ◌∷◌, get_or, sym, ap, ◌∙◌, le_of_suc-le-suc, not-suc-le-zero, add-zero, zero-add, arith}
use Rattle.crc32c.specs.Crc.{eight_bits}

abbrev pub tabled : ℕ → ℕ → List ℕ
tabled f zero = []
tabled f (suc n) = eight_bits f ∷ tabled (suc f) n

from : (f n k : ℕ) → k < n → get_or (tabled f n) k 0 ≡ eight_bits (f + k)
from f zero k h = absurd (not-suc-le-zero h)
from f (suc n) zero h = ap eight_bits (sym (add-zero f))
from f (suc n) (suc k) h = let e : suc f + k ≡ f + suc k = omega arith in from (suc f) n k (le_of_suc-le-suc h) ∙ ap eight_bits e

pub at : (k : ℕ) → k < 256 → get_or (tabled 0 256) k 0 ≡ eight_bits k
at k h = from 0 256 k h ∙ ap eight_bits (zero-add k)
