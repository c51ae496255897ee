-- A log of rows in sections that do not fall, then zeros, shows just those rows and then a blank.
use Rattle.std.proofs.Common.{◌≡◌, ℕ, zero, suc, ◌+◌, true, ltb, List, [], ◌∷◌, ◌++◌, length, replicate, sym, refl, ap, ◌∙◌, subst, append_assoc, add-zero, zero-add, arith, length-append}
use mathlib.Core.Path.{subst₃}
use Rattle.std.proofs.lemmas.List.{drop_at}
use Rattle.std.proofs.lemmas.Bool.{or_right, cond-true}
use Rattle.journal.specs.Log.{LogRow, Rising, Shows, blank, is_blank, log_bytes, look, row_bytes, row_len}
use Rattle.journal.proofs.Fields.{look_written, length_row}

zeros_blank : (n : ℕ) → is_blank (replicate n 0) ≡ true
zeros_blank zero = refl
zeros_blank (suc zero) = refl
zeros_blank (suc (suc n)) = or_right (ltb (length (replicate {A = ℕ} (suc (suc n)) 0)) 2) _ refl

pub look_zeros : (w last at n : ℕ) → look w last at (replicate n 0) ≡ blank at
look_zeros w last at n = cond-true (is_blank (replicate n 0)) _ _ (zeros_blank n)

-- the same behind what was read already
reads_on : (w zeros last : ℕ) (before : List ℕ) (rs : List LogRow) → Rising w last rs → Shows w (before ++ (log_bytes rs ++ replicate zeros 0)) last (length before) rs (blank (length before + length (log_bytes rs)))
reads_on w zeros last before [] h =
    ap (look w last (length before)) (drop_at before (replicate zeros 0) (length before) refl) ∙ look_zeros w last (length before) zeros ∙ ap blank (sym (add-zero (length before)))
reads_on w zeros last before (r ∷ rs) h =
    let behind : List ℕ = log_bytes rs ++ replicate zeros 0 in
    let apart : (row_bytes r ++ log_bytes rs) ++ replicate zeros 0 ≡ row_bytes r ++ behind = append_assoc (row_bytes r) (log_bytes rs) (replicate zeros 0) in
    let long : length (row_bytes r) ≡ row_len w (length r.value) = length_row w r h.0 [] in
    let here = ap (look w last (length before)) (drop_at before ((row_bytes r ++ log_bytes rs) ++ replicate zeros 0) (length before) refl ∙ apart) ∙ look_written w r h.0 behind last (length before) h.1 in
    let log : (before ++ row_bytes r) ++ behind ≡ before ++ ((row_bytes r ++ log_bytes rs) ++ replicate zeros 0) = append_assoc before (row_bytes r) behind ∙ ap (λ xs. before ++ xs) (sym apart) in
    let at : length (before ++ row_bytes r) ≡ length before + row_len w (length r.value) = length-append before (row_bytes r) ∙ ap (λ n. length before + n) long in
    let stop : length (before ++ row_bytes r) + length (log_bytes rs) ≡ length before + length (row_bytes r ++ log_bytes rs) = omega (arith, length-append before (row_bytes r), length-append (row_bytes r) (log_bytes rs)) in
    (here, subst₃ (λ xs a s. Shows w xs r.section a rs (blank s)) log at stop (reads_on w zeros r.section (before ++ row_bytes r) rs h.2))

pub reads_back : (w zeros : ℕ) (log : List ℕ) (rs : List LogRow) → Rising w 0 rs → log ≡ log_bytes rs ++ replicate zeros 0 → Shows w log 0 0 rs (blank (length (log_bytes rs)))
reads_back w zeros log rs h e = subst (λ xs. Shows w xs 0 0 rs (blank (length (log_bytes rs)))) (sym e) (subst (λ s. Shows w (log_bytes rs ++ replicate zeros 0) 0 0 rs (blank s)) (zero-add (length (log_bytes rs))) (reads_on w zeros 0 [] rs h))
