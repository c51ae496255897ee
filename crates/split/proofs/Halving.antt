-- Finding a number in a rising list by halving, what a directory has at the place found, and its last entry.
use Rattle.std.proofs.Common.{◌≡◌, ℕ, zero, suc, ◌+◌, ◌-◌, ◌<◌, ◌≤◌, cond, eqb, ltb, true, false, List, [], ◌∷◌, length, get_or, Some, None, Option, sym, refl, ap, ◌∙◌, subst, arith}
use Rattle.std.specs.List.{slice_get}
use Rattle.std.specs.Option.{option_map, unwrap_or}
use Rattle.std.proofs.lemmas.List.{get_or-map, length-map}
use Rattle.std.proofs.lemmas.Bool.Decides.{nat_tests}
use Rattle.std.proofs.lemmas.Option.{gets, slice_get-get_or, slice_get_within}
use Rattle.split.specs.declared.section.Section.{Section}
use Rattle.split.specs.Directory.{Rising, before, end_byte, end_row, entry, entry_of, numbers, top}

pub before_within : (n : ℕ) (ms : List ℕ) → before n ms ≤ length ms
before_within n [] = omega arith
before_within n (m ∷ ms) = grind (arith, nat_tests, before_within n ms)

-- a number below n at i: more than i stand before n
pub before_more : (n low i d : ℕ) (ms : List ℕ) → Rising low ms → i < length ms → get_or ms i d < n → i < before n ms
before_more n low i d [] h l b = absurd (omega arith)
before_more n low zero d (m ∷ ms) h l b = grind (arith, nat_tests)
before_more n low (suc i) d (m ∷ ms) h l b =
    let first = first_lower m i d ms h.1 (omega arith) in
    grind (arith, nat_tests, before_more n (suc m) i d ms h.1 (omega arith) b)
  where
    first_lower : (m i d : ℕ) (ms : List ℕ) → Rising (suc m) ms → i < length ms → m < get_or ms i d
    first_lower m i d [] h l = absurd (omega arith)
    first_lower m zero d (k ∷ ms) h l = h.0
    first_lower m (suc i) d (k ∷ ms) h l = omega (arith, first_lower k i d ms h.1 (omega arith), h.0)

-- one not below n at i: at most i stand before n
pub before_less : (n low i d : ℕ) (ms : List ℕ) → Rising low ms → i < length ms → n ≤ get_or ms i d → before n ms ≤ i
before_less n low i d [] h l b = absurd (omega arith)
before_less n low zero d (m ∷ ms) h l b = grind (arith, nat_tests)
before_less n low (suc i) d (m ∷ ms) h l b = grind (arith, nat_tests, before_less n (suc m) i d ms h.1 (omega arith) b)

-- the last entry
pub record Last (row byte n : ℕ) (ds : List Section) (d : Section) : Type 0 where
  pub rows : end_row row ds ≡ d.first_row + d.rows
  pub bytes : end_byte byte ds ≡ d.first_byte + d.bytes
  pub number : top n ds ≡ suc d.number

last_at : (row byte n i : ℕ) (ds : List Section) (d : Section) → suc i ≡ length ds → Some d ≡ slice_get ds i → Last row byte n ds d
last_at row byte n i [] d l e = absurd (omega arith)
last_at row byte n zero (x ∷ []) d l e = let same : x ≡ d = cc in subst (Last row byte n (x ∷ [])) same (record { rows = refl; bytes = refl; number = refl })
last_at row byte n zero (x ∷ (y ∷ ds)) d l e = absurd (omega arith)
last_at row byte n (suc i) (x ∷ ds) d l e =
    let rest = last_at (x.first_row + x.rows) (x.first_byte + x.bytes) (suc x.number) i ds d (omega arith) e in
    record { rows = rest.rows; bytes = rest.bytes; number = rest.number }

pub last_is : (ds : List Section) (d : Section) → Some d ≡ slice_get ds (length ds - 1) → Last 0 0 0 ds d
last_is ds d e = last_at 0 0 0 (length ds - 1) ds d (omega (arith, slice_get_within ds (length ds - 1) d (sym e))) e

pub none_last : (ds : List Section) → None ≡ slice_get ds (length ds - 1) → ds ≡ []
none_last [] e = refl
none_last (x ∷ ds) e = let some = slice_get-get_or (x ∷ ds) (length (x ∷ ds) - 1) x (omega arith) in cc

pub top_found : (ds : List Section) → top 0 ds ≡ unwrap_or (option_map (λ d. suc d.number) (slice_get ds (length ds - 1))) 0
top_found ds = go (slice_get ds (length ds - 1)) refl
  where
    go : (o : Option Section) → o ≡ slice_get ds (length ds - 1) → top 0 ds ≡ unwrap_or (option_map (λ (d : Section). suc d.number) (slice_get ds (length ds - 1))) 0
    go None e = ap (top 0) (none_last ds e) ∙ ap (λ o. unwrap_or (option_map (λ (d : Section). suc d.number) o) 0) e
    go (Some d) e = (last_is ds d e).number ∙ ap (λ o. unwrap_or (option_map (λ (d : Section). suc d.number) o) 0) e

-- the entry by what stands at the place found
abbrev pub entry_by : ℕ → Section → Option Section → Section
entry_by s end None = end
entry_by s end (Some d) = cond (eqb d.number s) d (entry s d.first_row d.first_byte 0 0)

pub entry_found : (s row byte : ℕ) (ds : List Section) → entry_of s row byte ds ≡ entry_by s (entry s (end_row row ds) (end_byte byte ds) 0 0) (slice_get ds (before s (numbers ds)))
entry_found s row byte [] = refl
entry_found s row byte (x ∷ ds) =
    let next = entry_of s (x.first_row + x.rows) (x.first_byte + x.bytes) ds in
    let end : Section = entry s (end_row row (x ∷ ds)) (end_byte byte (x ∷ ds)) 0 0 in
    elim (ltb x.number s) as (λ b. cond b next (entry_by s end (Some x)) ≡ entry_by s end (slice_get (x ∷ ds) (cond b (suc (before s (numbers ds))) 0)))
    [ true ↦ entry_found s (x.first_row + x.rows) (x.first_byte + x.bytes) ds | false ↦ refl ]

pub ruleset directory = (length-map, get_or-map, last_is, top_found, entry_found, gets, nat_tests)
