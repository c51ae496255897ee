-- A part of a slice that is filled with one value.
use Rattle.std.specs.Prelude.{slice_set}
use Rattle.std.proofs.Common.{◌≡◌, ℕ, zero, suc, ◌+◌, ◌-◌, ◌<◌, ◌≤◌, List, [], ◌∷◌, ◌++◌, length, take, drop, replicate, refl, ap, ◌∙◌, arith, length-drop}
use Rattle.std.proofs.lemmas.List.{length-take-le, drop-drop}

filled_suc : {A : Type 0} (n : ℕ) (ys : List A) (x : A) → n < length ys → slice_set (replicate n x ++ drop n ys) n x ≡ replicate (suc n) x ++ drop (suc n) ys
filled_suc zero [] x h = absurd (omega arith)
filled_suc zero (y ∷ ys) x h = refl
filled_suc (suc n) [] x h = absurd (omega arith)
filled_suc (suc n) (y ∷ ys) x h = ap (λ l. x ∷ l) (filled_suc n ys x (omega arith))

-- one place more is filled
pub filled_more : {A : Type 0} (n : ℕ) (ys : List A) (x : A) → n < length ys → slice_set (replicate n x ++ drop n ys) n x ≡ replicate (n + 1) x ++ drop (n + 1) ys
filled_more n ys x h =
    let more : suc n ≡ n + 1 = omega arith in
    filled_suc n ys x h ∙ ap (λ m. replicate m x ++ drop m ys) more

-- the part from a to e is filled
pub filled_part : {A : Type 0} (xs ys : List A) (a e : ℕ) (x : A) → a ≤ e → e ≤ length xs → ys ≡ replicate (length (take (e - a) (drop a xs))) x → take a xs ++ (ys ++ drop (e - a) (drop a xs)) ≡ take a xs ++ (replicate (e - a) x ++ drop e xs)
filled_part xs ys a e x h k f =
    let len : length (take (e - a) (drop a xs)) ≡ e - a = length-take-le (e - a) (drop a xs) (simp length-drop (omega arith)) in
    let rest : drop (e - a) (drop a xs) ≡ drop e xs = drop-drop (e - a) a xs ∙ ap (λ j. drop j xs) (omega arith) in
    (λ i. take a xs ++ ((f ∙ ap (λ j. replicate j x) len) i ++ rest i))
