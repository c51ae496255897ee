-- How long the parts of a row are.
use Rattle.std.proofs.Common.{◌≡◌, ℕ, ◌+◌, List, ◌∷◌, length, arith, length-append}
use Rattle.journal.specs.Log.{LogRow, head_bytes, tail_bytes, log_bytes, row_len}

pub length_head : (s n q : ℕ) (k : List ℕ) → length (head_bytes s k n q) ≡ 26 + length k
length_head s n q k = simp length-append (omega arith)

pub length_tail : (v : List ℕ) → length (tail_bytes v) ≡ 8 + length v
length_tail v = simp length-append (omega arith)

pub length_first : (w : ℕ) (r : LogRow) (rs : List LogRow) → length r.key ≡ w → length (log_bytes (r ∷ rs)) ≡ row_len w (length r.value) + length (log_bytes rs)
length_first w r rs k = simp length-append (omega arith)
