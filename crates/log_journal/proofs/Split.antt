-- Bytes are the bytes of their good rows, and what stands behind them.
use Rattle.std.proofs.Common.{◌≡◌, ℕ, zero, suc, ◌+◌, ◌-◌, ◌^◌, ◌<◌, ◌≤◌, true, List, [], ◌∷◌, ◌++◌, length, get_or, take, drop, sym, refl, ap, ◌∙◌, subst, append_assoc, arith, length-drop, take-append-drop}
use Rattle.std.specs.List.{between}
use Rattle.std.specs.Int.Digits.{AllBelowBase}
use Rattle.std.proofs.lemmas.List.{drop_at, length-take-le}
use Rattle.std.proofs.lemmas.Bool.{cond_both}
use Rattle.std.proofs.lemmas.Bool.Decides.{nat_tests}
use Rattle.crc32c.specs.Crc.{crc}
use Rattle.codec.specs.Bytes.{be, number}
use Rattle.codec.proofs.Pieces.{joined_on}
use Rattle.codec.specs.Rounds.{be_back, number_lt, under_take, under_drop}
use Rattle.journal.specs.Log.{LogRow, Rising, Writable, check_of, head_bytes, is_row, log_bytes, log_rows, row_bytes, row_of, row_len, section_of, value_length, value_of}
use Rattle.log_journal.specs.Kept.{rows_in}

marked : (bs : List ℕ) → get_or bs 0 0 ≡ 0x46 → get_or bs 1 0 ≡ 0x5A → 0x46 ∷ 0x5A ∷ [] ≡ take 2 bs
marked bs d e = grind arith

-- a part of bytes
module _ (bs : List ℕ) (u : AllBelowBase 256 bs) (i j k : ℕ) (sum : i + k ≡ j) (fit : j ≤ length bs) where
  pub part_long : length (between i j bs) ≡ k
  part_long = length-take-le (j - i) (drop i bs) (omega (arith, length-drop i bs)) ∙ omega arith

  pub part_under : AllBelowBase 256 (between i j bs)
  part_under = under_take (j - i) (drop i bs) (under_drop i bs u)

  -- the number that it writes writes it again
  part_back : be k (number (between i j bs)) ≡ between i j bs
  part_back = be_back k (between i j bs) part_long part_under

  part_fits : number (between i j bs) < 256 ^ k
  part_fits = subst (λ n. number (between i j bs) < 256 ^ n) part_long (number_lt (between i j bs) part_under)

regroup : (h l v c : List ℕ) → h ++ ((l ++ v) ++ c) ≡ ((h ++ l) ++ v) ++ c
regroup h l v c = simp append_assoc

-- bytes that begin with a good row
module _ (w last : ℕ) (bs : List ℕ) (u : AllBelowBase 256 bs) (good : is_row w last bs ≡ true) where
  record Tests : Type 0 where
    first : get_or bs 0 0 ≡ 0x46
    second : get_or bs 1 0 ≡ 0x5A
    whole : row_len w 0 ≤ length bs
    order : last ≤ section_of bs
    most : value_length w bs ≤ 4096
    long : row_len w (value_length w bs) ≤ length bs
    check : check_of w bs ≡ crc (value_of w bs)

  tests : Tests
  tests = record {
    first = grind (arith, nat_tests);
    second = grind (arith, nat_tests);
    whole = grind (arith, nat_tests);
    order = grind (arith, nat_tests);
    most = grind (arith, nat_tests);
    long = grind (arith, nat_tests);
    check = grind (arith, nat_tests);
  }

  value_long : length (value_of w bs) ≡ value_length w bs
  value_long = part_long bs u (30 + w) (30 + w + value_length w bs) (value_length w bs) refl (omega (arith, tests.long))

  front_is : row_bytes (row_of w bs) ≡ take (row_len w (length (value_of w bs))) bs
  front_is =
      let n = value_length w bs in
      let t = tests in
      let r = row_of w bs in
      let l : List ℕ = be 4 (length r.value) in
      let c : List ℕ = be 4 (crc r.value) in
      let s1 = joined_on 2 8 10 bs (0x46 ∷ 0x5A ∷ []) (be 8 (section_of bs)) refl (marked bs t.first t.second) (part_back bs u 2 10 8 refl (omega arith)) in
      let s2 = joined_on 10 (10 + w - 10) (10 + w) bs _ r.key (omega arith) s1 refl in
      let s3 = joined_on (10 + w) (18 + w - (10 + w)) (18 + w) bs _ (be 8 r.next_section) (omega arith) s2 (part_back bs u (10 + w) (18 + w) 8 (omega arith) (omega arith)) in
      let s4 = joined_on (18 + w) (26 + w - (18 + w)) (26 + w) bs _ (be 8 r.next_position) (omega arith) s3 (part_back bs u (18 + w) (26 + w) 8 (omega arith) (omega arith)) in
      let s5 = joined_on (26 + w) (30 + w - (26 + w)) (30 + w) bs _ l (omega arith) s4 (ap (be 4) value_long ∙ part_back bs u (26 + w) (30 + w) 4 (omega arith) (omega arith)) in
      let s6 = joined_on (30 + w) (30 + w + n - (30 + w)) (30 + w + n) bs _ r.value (omega arith) s5 refl in
      let s7 = joined_on (30 + w + n) (34 + w + n - (30 + w + n)) (34 + w + n) bs _ c (omega arith) s6 (ap (be 4) (sym t.check) ∙ part_back bs u (30 + w + n) (34 + w + n) 4 (omega arith) (omega arith)) in
      regroup (head_bytes r.section r.key r.next_section r.next_position) l r.value c ∙ s7 ∙ ap (λ m. take (34 + w + m) bs) (sym value_long)

  pub begins : bs ≡ row_bytes (row_of w bs) ++ drop (row_len w (length (value_of w bs))) bs
  begins = sym (take-append-drop (row_len w (length (value_of w bs))) bs) ∙ ap (λ f. f ++ drop (row_len w (length (value_of w bs))) bs) (sym front_is)

  pub not_below : last ≤ section_of bs
  not_below = tests.order

  pub row_writable : Writable w (row_of w bs)
  row_writable =
      let t = tests in
      record {
        key_width = part_long bs u 10 (10 + w) w refl (omega arith);
        section_fits = part_fits bs u 2 10 8 refl (omega arith);
        next_section_fits = part_fits bs u (10 + w) (18 + w) 8 (omega arith) (omega arith);
        next_position_fits = part_fits bs u (18 + w) (26 + w) 8 (omega arith) (omega arith);
        value_most = omega (arith, value_long);
        value_bytes = part_under bs u (30 + w) (30 + w + value_length w bs) (value_length w bs) refl (omega arith);
      }

-- some rows at the front of bytes, and what stands behind them
record Fronted (w last : ℕ) (bs : List ℕ) (rs : List LogRow) : Type 0 where
  rest : List ℕ
  split : bs ≡ log_bytes rs ++ rest
  rising : Rising w last rs

fronted : (f w last : ℕ) (bs : List ℕ) → AllBelowBase 256 bs → Fronted w last bs (log_rows f w last bs)
unfolding log_rows
fronted zero w last bs u = record { rest = bs; split = refl; rising = tt }
fronted (suc f) w last bs u =
    let n = row_len w (length (value_of w bs)) in
    let b = drop n bs in
    cond_both (is_row w last bs) (row_of w bs ∷ log_rows f w (section_of bs) b) [] (Fronted w last bs)
    (λ good.
    let behind = fronted f w (section_of bs) b (under_drop n bs u) in
    record {
      rest = behind.rest;
      split = begins w last bs u good ∙ ap (λ xs. row_bytes (row_of w bs) ++ xs) behind.split ∙ sym (append_assoc (row_bytes (row_of w bs)) (log_bytes (log_rows f w (section_of bs) b)) behind.rest);
      rising = (row_writable w last bs u good, not_below w last bs u good, behind.rising);
    })
    (λ none. record { rest = bs; split = refl; rising = tt })

-- so it is with all the good rows
module _ (w : ℕ) (bs : List ℕ) (u : AllBelowBase 256 bs) where
  pub rows_front : (e : ℕ) → e ≡ length (log_bytes (rows_in w bs)) → bs ≡ log_bytes (rows_in w bs) ++ drop e bs
  rows_front e is =
      let f = fronted (length bs) w 0 bs u in
      let rest : drop e bs ≡ f.rest = ap (drop e) f.split ∙ drop_at (log_bytes (rows_in w bs)) f.rest e (sym is) in
      f.split ∙ ap (λ xs. log_bytes (rows_in w bs) ++ xs) (sym rest)

  pub rows_rising : Rising w 0 (rows_in w bs)
  rows_rising = (fronted (length bs) w 0 bs u).rising
