-- Records by index, and one found by the place of its value.
use Rattle.std.proofs.Common.{◌≡◌, ℕ, zero, suc, ◌+◌, ◌-◌, ◌*◌, ◌<◌, ◌≤◌, false, ◌&&◌, eqb, List, [], ◌∷◌, length, get_or, take, drop, sym, refl, ap, ◌∙◌, suc-mul, zero-mul, arith}
use Rattle.std.proofs.lemmas.List.{drop-drop, drop-take, take-take}
use Rattle.std.specs.List.{between}
use Rattle.std.proofs.lemmas.Bool.Decides.{nat_tests}
use Rattle.codec.specs.Bytes.{number}
use Rattle.split.specs.Directory.{before}
use Rattle.split.specs.Places.{each_of, has_place}

-- ---- by index

pub length_each : (f : List ℕ → ℕ) (w n : ℕ) (records : List ℕ) → length (each_of f w n records) ≡ n
length_each f w zero records = refl
length_each f w (suc n) records = ap suc (length_each f w n (drop (w + 28) records))

pub get_or_each : (f : List ℕ → ℕ) (w n i d : ℕ) (records : List ℕ) → i < n → get_or (each_of f w n records) i d ≡ f (drop (i * (w + 28)) records)
get_or_each f w zero i d records l = absurd (omega arith)
get_or_each f w (suc n) zero d records l = ap (λ k. f (drop k records)) (sym (zero-mul (w + 28)))
get_or_each f w (suc n) (suc i) d records l =
    let k : w + 28 + i * (w + 28) ≡ suc i * (w + 28) = omega (arith, suc-mul i (w + 28)) in
    get_or_each f w n i d (drop (w + 28) records) (omega arith) ∙ ap f (drop-drop (i * (w + 28)) (w + 28) records ∙ ap (λ m. drop m records) k)

-- a number of the record at an index, read from the record alone
pub read_at : (a e w n row k : ℕ) (own records : List ℕ) → own ≡ take (w + 28) (drop (row * (w + 28)) records) → row < n → k ≡ e - a → a ≤ e → e ≤ w + 28 →
    number (take k (drop a own)) ≡ get_or (each_of (λ rs. number (between a e rs)) w n records) row 0
read_at a e w n row k own records is inside long order within =
    let rs : List ℕ = drop (row * (w + 28)) records in
    let all : w + 28 ≡ a + (w + 28 - a) = omega arith in
    ap number ((λ i. take (long i) (drop a (is i))) ∙ ap (λ m. take (e - a) (drop a (take m rs))) all ∙ ap (take (e - a)) (drop-take a (w + 28 - a) rs) ∙ take-take (e - a) (w + 28 - a) (drop a rs) (omega arith))
    ∙ sym (get_or_each (λ rs. number (between a e rs)) w n row 0 records inside)

-- ---- by place

pub has_none : (offset size : ℕ) (ms ks : List ℕ) → length ms ≤ before offset ms → has_place offset size ms ks ≡ false
has_none offset size [] ks l = refl
has_none offset size (m ∷ ms) [] l = refl
has_none offset size (m ∷ ms) (k ∷ ks) l = grind (arith, nat_tests, has_none offset size ms ks)

pub has_at : (offset size : ℕ) (ms ks : List ℕ) → length ms ≡ length ks → before offset ms < length ms →
    has_place offset size ms ks ≡ (eqb (get_or ms (before offset ms) 0) offset && eqb (get_or ks (before offset ms) 0) size)
has_at offset size [] ks e l = absurd (omega arith)
has_at offset size (m ∷ ms) [] e l = absurd (omega arith)
has_at offset size (m ∷ ms) (k ∷ ks) e l = grind (arith, nat_tests, has_at offset size ms ks)

pub ruleset places = (length_each, has_at, has_none)
