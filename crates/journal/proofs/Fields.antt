-- The parts of a row that stands in front of `rest`: where each lies, and what a reader makes of them.
use Rattle.std.proofs.Common.{◌≡◌, ℕ, ◌+◌, ◌≤◌, List, ◌∷◌, ◌++◌, length, sym, refl, ap, ◌∙◌, append_assoc, arith, length-append}
use Rattle.std.specs.List.{between}
use Rattle.std.proofs.lemmas.Bool.Decides.{nat_tests}
use Rattle.crc32c.specs.Crc.{crc}
use Rattle.crc32c.proofs.Fits.{crc_fits}
use Rattle.codec.specs.Bytes.{be, number}
use Rattle.codec.specs.Rounds.{number-be}
use Rattle.codec.proofs.Pieces.{field}
use Rattle.journal.specs.Log.{LogRow, Writable, row, row_bytes, row_len, row_of, log_row, section_of, value_length, value_of, check_of, look}

regroup : (a k n p l v c rest : List ℕ) → ((((a ++ k) ++ n) ++ p) ++ ((l ++ v) ++ c)) ++ rest ≡ a ++ (k ++ (n ++ (p ++ (l ++ (v ++ (c ++ rest))))))
regroup a k n p l v c rest = simp append_assoc

-- where the parts of a row lie: mark and section, key, next section, next position, value length, value, check
record Laid (w : ℕ) (k n p l v c rest bs : List ℕ) : Type 0 where
  key : between 10 (10 + w) bs ≡ k
  next_section : between (10 + w) (18 + w) bs ≡ n
  next_position : between (18 + w) (26 + w) bs ≡ p
  value_size : between (26 + w) (30 + w) bs ≡ l
  value : between (30 + w) (30 + w + length v) bs ≡ v
  check : between (30 + w + length v) (34 + w + length v) bs ≡ c
  all : length bs ≡ 34 + w + length v + length rest

laid : (w : ℕ) (a k n p l v c rest : List ℕ) → length a ≡ 10 → length k ≡ w → length n ≡ 8 → length p ≡ 8 → length l ≡ 4 → length c ≡ 4 → Laid w k n p l v c rest (((((a ++ k) ++ n) ++ p) ++ ((l ++ v) ++ c)) ++ rest)
laid w a k n p l v c rest la lk ln lp ll lc =
    let bs : List ℕ = ((((a ++ k) ++ n) ++ p) ++ ((l ++ v) ++ c)) ++ rest in
    let f1 : List ℕ = a ++ k in
    let f2 : List ℕ = f1 ++ n in
    let f3 : List ℕ = f2 ++ p in
    let f4 : List ℕ = f3 ++ l in
    let f5 : List ℕ = f4 ++ v in
    let e0 : bs ≡ a ++ (k ++ (n ++ (p ++ (l ++ (v ++ (c ++ rest)))))) = regroup a k n p l v c rest in
    let e1 : bs ≡ f1 ++ (n ++ (p ++ (l ++ (v ++ (c ++ rest))))) = e0 ∙ sym (append_assoc a k _) in
    let e2 : bs ≡ f2 ++ (p ++ (l ++ (v ++ (c ++ rest)))) = e1 ∙ sym (append_assoc f1 n _) in
    let e3 : bs ≡ f3 ++ (l ++ (v ++ (c ++ rest))) = e2 ∙ sym (append_assoc f2 p _) in
    let e4 : bs ≡ f4 ++ (v ++ (c ++ rest)) = e3 ∙ sym (append_assoc f3 l _) in
    let e5 : bs ≡ f5 ++ (c ++ rest) = e4 ∙ sym (append_assoc f4 v _) in
    let l1 : length f1 ≡ 10 + w = omega (arith, length-append a k) in
    let l2 : length f2 ≡ 18 + w = omega (arith, length-append f1 n) in
    let l3 : length f3 ≡ 26 + w = omega (arith, length-append f2 p) in
    let l4 : length f4 ≡ 30 + w = omega (arith, length-append f3 l) in
    let l5 : length f5 ≡ 30 + w + length v = omega (arith, length-append f4 v) in
    record {
      key = field 10 (10 + w) bs a k _ e0 la (omega arith);
      next_section = field (10 + w) (18 + w) bs f1 n _ e1 l1 (omega arith);
      next_position = field (18 + w) (26 + w) bs f2 p _ e2 l2 (omega arith);
      value_size = field (26 + w) (30 + w) bs f3 l _ e3 l3 (omega arith);
      value = field (30 + w) (30 + w + length v) bs f4 v _ e4 l4 (omega arith);
      check = field (30 + w + length v) (34 + w + length v) bs f5 c _ e5 l5 (omega arith);
      all = ap length e5 ∙ omega (arith, length-append f5 (c ++ rest), length-append c rest);
    }

-- a row that was written, and stands in front of `rest`, is read again
module _ (w : ℕ) (r : LogRow) (ok : Writable w r) (rest : List ℕ) where
  abbrev bs : List ℕ
  bs = row_bytes r ++ rest

  parts : Laid w r.key (be 8 r.next_section) (be 8 r.next_position) (be 4 (length r.value)) r.value (be 4 (crc r.value)) rest bs
  parts =
      laid w (0x46 ∷ 0x5A ∷ be 8 r.section) r.key (be 8 r.next_section) (be 8 r.next_position) (be 4 (length r.value)) r.value (be 4 (crc r.value)) rest
      refl ok.key_width refl refl refl refl

  section_back : section_of bs ≡ r.section
  section_back = number-be 8 r.section ok.section_fits

  length_back : value_length w bs ≡ length r.value
  length_back = ap number parts.value_size ∙ number-be 4 (length r.value) (omega (arith, ok.value_most))

  value_back : value_of w bs ≡ r.value
  value_back = ap (λ m. between (30 + w) (30 + w + m) bs) length_back ∙ parts.value

  check_back : check_of w bs ≡ crc (value_of w bs)
  check_back =
      ap (λ m. number (between (30 + w + m) (34 + w + m) bs)) length_back
      ∙ ap number parts.check
      ∙ number-be 4 (crc r.value) (crc_fits r.value ok.value_bytes)
      ∙ ap crc (sym value_back)

  row_back : row_of w bs ≡ r
  row_back = λ i. log_row (section_back i) (parts.key i)
      ((ap number parts.next_section ∙ number-be 8 r.next_section ok.next_section_fits) i)
      ((ap number parts.next_position ∙ number-be 8 r.next_position ok.next_position_fits) i)
      (value_back i)

  pub look_written : (last at : ℕ) → last ≤ r.section → look w last at bs ≡ row at r
  look_written last at h =
      let section = section_back in
      let length = length_back in
      let check = check_back in
      let all = parts.all in
      let row = row_back in
      let most = ok.value_most in
      grind (arith, nat_tests)

  pub length_row : length (row_bytes r) ≡ row_len w (length r.value)
  length_row = omega (arith, parts.all, length-append (row_bytes r) rest)
