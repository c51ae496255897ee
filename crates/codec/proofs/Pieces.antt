-- A slice that is written piece by piece, from its front.
use Rattle.std.proofs.Common.{◌≡◌, ℕ, ◌+◌, ◌-◌, ◌≤◌, List, [], ◌∷◌, ◌++◌, length, take, drop, sym, refl, ap, ◌∙◌, append_assoc, append-nil, arith, length-append, take-add}
use borrow.Rule.Slice.PartMut.{put_mid}
use Rattle.std.specs.List.{between}
use Rattle.std.proofs.lemmas.List.{take_at, drop_at, drop-drop, drop_all}

-- p is written, and z goes behind it
pub piece : (a k e : ℕ) (p out xs y z : List ℕ) → length p ≡ a → length z ≡ k → a + k ≡ e → xs ≡ p ++ drop a out → y ≡ z → put_mid a k xs y ≡ (p ++ z) ++ drop e out
piece a k e p out xs y z lp lz sum was is =
    let front : take a xs ≡ p = ap (take a) was ∙ take_at p (drop a out) a lp in
    let back : drop k (drop a xs) ≡ drop e out = ap (λ l. drop k (drop a l)) was ∙ ap (drop k) (drop_at p (drop a out) a lp) ∙ drop-drop k a out ∙ ap (λ n. drop n out) sum in
    (λ i. front i ++ (is i ++ back i)) ∙ sym (append_assoc p z (drop e out))

-- what was written last
pub middle : (a n e : ℕ) (p z out xs : List ℕ) → length p ≡ a → length z ≡ n → xs ≡ (p ++ z) ++ drop e out → take n (drop a xs) ≡ z
middle a n e p z out xs lp lz was =
    ap (λ l. take n (drop a l)) (was ∙ append_assoc p z (drop e out)) ∙ ap (take n) (drop_at p (z ++ drop e out) a lp) ∙ take_at z (drop e out) n lz

-- an encoding that fills its part
pub whole : (y z old : List ℕ) → length y ≡ length z → y ≡ z ++ drop (length z) old → y ≡ z
whole y z old l e =
    let none : drop (length z) old ≡ [] = nothing (drop (length z) old) (omega (arith, ap length e, length-append z (drop (length z) old))) in
    e ∙ ap (λ r. z ++ r) none ∙ append-nil z
  where
    nothing : (xs : List ℕ) → length xs ≡ 0 → xs ≡ []
    nothing [] h = refl
    nothing (x ∷ xs) h = absurd (omega arith)

pub ended : (e : ℕ) (p out : List ℕ) → length out ≤ e → p ++ drop e out ≡ p
ended e p out h = ap (λ r. p ++ r) (drop_all e out h) ∙ append-nil p

-- what stands behind `before` is read again
pub field : (i j : ℕ) (bs before part rest : List ℕ) → bs ≡ before ++ (part ++ rest) → length before ≡ i → i + length part ≡ j → between i j bs ≡ part
field i j bs before part rest e l m =
    let n : length part ≡ j - i = omega arith in
    ap (between i j) e ∙ ap (take (j - i)) (drop_at before (part ++ rest) i l) ∙ take_at part rest (j - i) n

-- two parts that stand one behind the other are read as one
pub joined_on : (n k e : ℕ) (bs p q : List ℕ) → n + k ≡ e → p ≡ take n bs → q ≡ take k (drop n bs) → p ++ q ≡ take e bs
joined_on n k e bs p q s hp hq = (λ i. hp i ++ hq i) ∙ sym (take-add n k bs) ∙ ap (λ m. take m bs) s
