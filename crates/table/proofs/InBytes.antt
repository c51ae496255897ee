-- What a write into lent bytes makes of the entries in them.
use Rattle.std.proofs.Common.{◌≡◌, ℕ, ◌+◌, ◌-◌, ◌*◌, ◌<◌, ◌≤◌, List, ◌++◌, length, get_or, take, drop, set, replicate, sym, ap, ◌∙◌, ⊎_elim, arith, length-append, length-set, length-take}
use Rattle.std.proofs.lemmas.Grind.{common_steps, elements}
use Rattle.std.proofs.lemmas.List.{drop_at, drop-take, take_at, take-append-le, take-take, length-take-le, length-replicate, get_or-set_same, get_or-set_other}
use Rattle.std.proofs.lemmas.List.FromFn.{length-map-range_with_len, take-map-range_with_len, get_or-map-range_with_len, fill_by_all}
use Rattle.std.proofs.lemmas.Slice.{drop-put_mid}
use Rattle.std.proofs.lemmas.Bool.{cases_eq, cases_lt}
use borrow.Rule.Slice.PartMut.{put_mid}
use Rattle.table.specs.declared.entry.Entry.{Entry}
use Rattle.table.specs.Entries.{empty, entry_read}
use Rattle.table.specs.Store.{resized}
use Rattle.table.specs.Lent.{entry_at, entries_in}

-- how many they are
pub entries_length : (bs : List ℕ) (n : ℕ) → length (entries_in n bs) ≡ n
entries_length bs n = length-map-range_with_len (entry_at bs) 0 n

-- each of them
pub entry_of : (bs : List ℕ) (n i : ℕ) → i < n → get_or (entries_in n bs) i empty ≡ entry_at bs i
entry_of bs n i h = get_or-map-range_with_len (entry_at bs) 0 n i i empty h (omega arith)

-- a part before those that are written
before : (bs r : List ℕ) (a q w : ℕ) → a ≤ length bs → q + w ≤ a → take w (drop q (take a bs ++ r)) ≡ take w (drop q bs)
before bs r a q w fit b = sym (drop-take q w _) ∙ ap (drop q) (take-append-le (q + w) (take a bs) r (omega (arith, length-take-le a bs fit)) ∙ take-take (q + w) a bs b) ∙ drop-take q w bs

-- a part among zeros
zeros : (p r : List ℕ) (a z q w : ℕ) → length p ≡ a → a ≤ q → q + w ≤ a + z → take w (drop q (p ++ (replicate z 0 ++ r))) ≡ replicate w 0
zeros p r a z q w l lo hi = grind (arith, elements)

-- the part that is written
met : (bs ys : List ℕ) (a k : ℕ) → a ≤ length bs → length ys ≡ 29 → take 29 (drop a (put_mid a k bs ys)) ≡ ys
met bs ys a k fit long = ap (take 29) (drop_at (take a bs) _ a (length-take-le a bs fit)) ∙ take_at ys _ 29 long

-- one entry is written
pub entries_write : (bs ys : List ℕ) (n i a k : ℕ) → 29 * n ≤ length bs → i < n → a ≡ 29 * i → k ≡ 29 → length ys ≡ 29 → entries_in n (put_mid a k bs ys) ≡ set (entries_in n bs) i (entry_read ys)
unfolding entry_at
entries_write bs ys n i a k room here at w long =
    let old = entries_in n bs in
    let lo : length old ≡ n = entries_length bs n in
    sym (fill_by_all (entry_at (put_mid a k bs ys)) (set old i (entry_read ys)) n empty (length-set old i (entry_read ys) ∙ lo)
    (λ j lt. ⊎_elim
    (λ e. ap (λ x. get_or (set old i (entry_read ys)) x empty) e ∙ get_or-set_same old i (entry_read ys) empty (omega arith)
    ∙ ap entry_read (sym (met bs ys a k (omega arith) long) ∙ ap (λ x. take 29 (drop x (put_mid a k bs ys))) (omega arith)))
    (λ ne. get_or-set_other old i j (entry_read ys) empty ne ∙ entry_of bs n j lt
    ∙ ap entry_read (⊎_elim
    (λ b. sym (before bs _ a (29 * j) 29 (omega arith) (omega arith)))
    (λ b. ap (take 29) (sym (drop-put_mid a k bs ys (29 * j) (omega arith) (omega arith) (omega arith))))
    (cases_lt j i)))
    (cases_eq j i)))

-- entries are added
kept : (m k : ℕ) (xs : List Entry) → k < length xs → k < m → get_or (resized m xs) k empty ≡ get_or xs k empty
kept m k xs here lt = grind (arith, common_steps)

added : (m k : ℕ) (xs : List Entry) → length xs ≤ k → k < m → get_or (resized m xs) k empty ≡ empty
added m k xs past lt = grind (arith, common_steps)

pub entries_grow : (bs new : List ℕ) (n m : ℕ) → n < m → 29 * m ≤ length bs → new ≡ take (29 * n) bs ++ (replicate (29 * m - 29 * n) 0 ++ drop (29 * m) bs) → entries_in m new ≡ resized m (entries_in n bs)
unfolding entry_at
entries_grow bs new n m more room is =
    let old = entries_in n bs in
    let lo : length old ≡ n = entries_length bs n in
    let part : (k w : ℕ) → take w (drop (29 * k) (take (29 * n) bs ++ (replicate (29 * m - 29 * n) 0 ++ drop (29 * m) bs))) ≡ take w (drop (29 * k) new) = λ k w. ap (λ xs. take w (drop (29 * k) xs)) (sym is) in
    sym (fill_by_all (entry_at new) (resized m old) m empty (simp (length-append, length-take, length-replicate) (omega arith))
    (λ k lt. ⊎_elim
    (λ b. kept m k old (omega arith) lt ∙ entry_of bs n k b ∙ ap entry_read (sym (before bs _ (29 * n) (29 * k) 29 (omega arith) (omega arith)) ∙ part k 29))
    (λ b. added m k old (omega arith) lt ∙ ap entry_read (sym (zeros (take (29 * n) bs) _ (29 * n) (29 * m - 29 * n) (29 * k) 29 (length-take-le (29 * n) bs (omega arith)) (omega arith) (omega arith)) ∙ part k 29))
    (cases_lt k n)))

-- entries are dropped
pub entries_shrink : (bs : List ℕ) (n m : ℕ) → m ≤ n → entries_in m bs ≡ resized m (entries_in n bs)
entries_shrink bs n m less = grind (arith, common_steps, entries_length, take-map-range_with_len)

-- what the store over lent bytes stands on
pub ruleset in_bytes = (common_steps, entries_length, entry_of, entries_write, entries_grow, entries_shrink)
