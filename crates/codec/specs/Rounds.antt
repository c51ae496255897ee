-- The laws of `be` and `number`, once over the width, and lists of bytes.
use Rattle.std.specs.Prelude.{◌≡◌, ℕ, zero, suc, ◌+◌, ◌*◌, ◌/◌, ◌%◌, ◌^◌, ◌<◌, true, List, [], ◌∷◌, ◌++◌, length, take, drop, nat_lt, slice_index, refl}
use Rattle.std.proofs.Common.{sym, ap, subst, ◌∙◌, pow-suc, mod-eq_of_lt, mul_assoc, arith}
use Rattle.std.proofs.Math.Nat.{pow-succ', add-mul-div_right}
use Rattle.std.proofs.Math.Arith.{mod-mul, digits_lt, digits_div}
use Rattle.std.specs.Int.Digits.{AllBelowBase}
use Rattle.std.proofs.lemmas.Nat.{mod_below}
use Rattle.std.proofs.lemmas.Bool.{and_from, and_parts, lt-ltb, ltb-true}
use Rattle.codec.specs.Bytes.{be, number, all_bytes}

pub length-be : (k n : ℕ) → length (be k n) ≡ k
length-be zero n = refl
length-be (suc k) n = ap suc (length-be k n)

pow_256 : (k : ℕ) → 0 < 256 ^ k
pow_256 zero = omega arith
pow_256 (suc k) = let h = pow_256 k in let e = pow-suc 256 k in omega arith

-- what k bytes keep of n
kept : (k n : ℕ) → number (be k n) ≡ n % 256 ^ k
kept zero n = omega arith
kept (suc k) n =
    let here : n / 256 ^ k % 256 * 256 ^ length (be k n) ≡ n / 256 ^ k % 256 * 256 ^ k = ap (λ m. n / 256 ^ k % 256 * 256 ^ m) (length-be k n) in
    let cut : n % (256 * 256 ^ k) ≡ n / 256 ^ k % 256 * 256 ^ k + n % 256 ^ k = mod-mul n (omega arith) (pow_256 k) in
    (λ i. here i + kept k n i) ∙ sym cut ∙ ap (λ m. n % m) (sym (pow-succ' 256 k))

pub number-be : (k n : ℕ) → n < 256 ^ k → number (be k n) ≡ n
number-be k n h = kept k n ∙ mod-eq_of_lt h

pub be_same : (k m n : ℕ) → m < 256 ^ k → n < 256 ^ k → be k m ≡ be k n → m ≡ n
be_same k m n h l e = sym (number-be k m h) ∙ ap number e ∙ number-be k n l

pub number_lt : (bs : List ℕ) → AllBelowBase 256 bs → number bs < 256 ^ length bs
number_lt [] u = omega arith
number_lt (b ∷ bs) u =
    subst (λ m. b * 256 ^ length bs + number bs < m) (sym (pow-succ' 256 (length bs))) (digits_lt u.0 (number_lt bs u.1))

-- a multiple of 256 ^ k does not show in k bytes
be_low : (k a n : ℕ) → be k (a * 256 ^ k + n) ≡ be k n
be_low zero a n = refl
be_low (suc k) a n =
    let split : a * 256 ^ suc k + n ≡ n + a * 256 * 256 ^ k = ap (λ m. a * m + n) (pow-succ' 256 k) ∙ ap (λ m. m + n) (sym (mul_assoc a 256 (256 ^ k))) ∙ omega arith in
    let digit : (n + a * 256 * 256 ^ k) / 256 ^ k % 256 ≡ n / 256 ^ k % 256 =
    ap (λ m. m % 256) (add-mul-div_right n (a * 256) (pow_256 k)) ∙ omega arith in
    let rest : be k (n + a * 256 * 256 ^ k) ≡ be k n = ap (be k) (omega arith) ∙ be_low k (a * 256) n in
    ap (be (suc k)) split ∙ (λ i. digit i ∷ rest i)

be-number : (bs : List ℕ) → AllBelowBase 256 bs → be (length bs) (number bs) ≡ bs
be-number [] u = refl
be-number (b ∷ bs) u =
    let lt = number_lt bs u.1 in
    let digit : (b * 256 ^ length bs + number bs) / 256 ^ length bs % 256 ≡ b = ap (λ m. m % 256) (digits_div b lt) ∙ mod-eq_of_lt u.0 in
    let rest : be (length bs) (b * 256 ^ length bs + number bs) ≡ bs = be_low (length bs) b (number bs) ∙ be-number bs u.1 in
    λ i. digit i ∷ rest i

pub under_of : (bs : List ℕ) → ((i : ℕ) → slice_index bs i < 256) → AllBelowBase 256 bs
under_of [] h = tt
under_of (b ∷ bs) h = (h 0, under_of bs (λ i. h (suc i)))

pub be_back : (k : ℕ) (bs : List ℕ) → length bs ≡ k → AllBelowBase 256 bs → be k (number bs) ≡ bs
be_back k bs l u = subst (λ m. be m (number bs) ≡ bs) l (be-number bs u)

-- the number, digit by digit as `from_be_bytes` sums them: k digits from index i on
abbrev pub digits : ℕ → ℕ → List ℕ → ℕ
digits i zero bs = 0
digits i (suc k) bs = slice_index bs i * 256 ^ k + digits (suc i) k bs

digits_behind : (i k b : ℕ) (bs : List ℕ) → digits (suc i) k (b ∷ bs) ≡ digits i k bs
digits_behind i zero b bs = refl
digits_behind i (suc k) b bs = ap (λ n. slice_index bs i * 256 ^ k + n) (digits_behind (suc i) k b bs)

pub digits_number : (bs : List ℕ) → digits 0 (length bs) bs ≡ number bs
digits_number [] = refl
digits_number (b ∷ bs) = ap (λ n. b * 256 ^ length bs + n) (digits_behind 0 (length bs) b bs ∙ digits_number bs)

-- what a reading of k bytes answers: their number, which they write again
pub taken : (k n : ℕ) (bs : List ℕ) → length bs ≡ k → ((i : ℕ) → slice_index bs i < 256) → n ≡ digits 0 k bs → (n ≡ number bs) × (be k n ≡ bs)
taken k n bs l h e =
    let value : n ≡ number bs = e ∙ ap (λ m. digits 0 m bs) (sym l) ∙ digits_number bs in
    (value, ap (be k) value ∙ be_back k bs l (under_of bs h))

-- ---- lists of bytes

pub under_be : (k n : ℕ) → AllBelowBase 256 (be k n)
under_be zero n = tt
under_be (suc k) n = (mod_below (n / 256 ^ k) 256 (omega arith), under_be k n)

pub under_append : (xs ys : List ℕ) → AllBelowBase 256 xs → AllBelowBase 256 ys → AllBelowBase 256 (xs ++ ys)
under_append [] ys u v = v
under_append (x ∷ xs) ys u v = (u.0, under_append xs ys u.1 v)

pub under_take : (n : ℕ) (xs : List ℕ) → AllBelowBase 256 xs → AllBelowBase 256 (take n xs)
under_take zero xs u = tt
under_take (suc n) [] u = tt
under_take (suc n) (x ∷ xs) u = (u.0, under_take n xs u.1)

pub under_drop : (n : ℕ) (xs : List ℕ) → AllBelowBase 256 xs → AllBelowBase 256 (drop n xs)
under_drop zero xs u = u
under_drop (suc n) [] u = tt
under_drop (suc n) (x ∷ xs) u = under_drop n xs u.1

pub under_all : (bs : List ℕ) → all_bytes bs ≡ true → AllBelowBase 256 bs
under_all [] e = tt
under_all (b ∷ bs) e = let p = and_parts (nat_lt b 256) (all_bytes bs) e in (ltb-true b 256 p.0, under_all bs p.1)

pub all_under : (bs : List ℕ) → AllBelowBase 256 bs → all_bytes bs ≡ true
all_under [] u = refl
all_under (b ∷ bs) u = and_from (nat_lt b 256) (all_bytes bs) (lt-ltb b 256 u.0) (all_under bs u.1)
