-- A record's bytes are read again.
use Rattle.std.proofs.Common.{◌≡◌, ℕ, ◌+◌, List, ◌++◌, length, take, ap, ◌∙◌, append_assoc, arith, length-append}
use Rattle.std.specs.Int.Digits.{AllBelowBase}
use Rattle.std.proofs.lemmas.List.{take_at}
use Rattle.codec.specs.Bytes.{be, number}
use Rattle.codec.proofs.Pieces.{field}
use Rattle.codec.specs.Rounds.{number-be}
use Rattle.journal.specs.declared.record.Record.{Record}
use Rattle.journal.specs.Layouts.{RecordFits, record_encoding, record_read, record_with}

-- a kind's laws: keys are read back from their bytes
pub key_back : {K : Type 0} (bytes : K → List ℕ) (decoding : List ℕ → K) (w : ℕ) → ((k : K) → length (bytes k) ≡ w) → ((k : K) → AllBelowBase 256 (bytes k)) → ((j k : K) → bytes j ≡ bytes k → j ≡ k) →
    ((bs : List ℕ) → length bs ≡ w → AllBelowBase 256 bs → bytes (decoding bs) ≡ bs) → (k : K) → decoding (bytes k) ≡ k
key_back bytes decoding w sized octets same onto k = same (decoding (bytes k)) k (onto (bytes k) (sized k) (octets k))

module _ {K : Type 0} (bytes : K → List ℕ) (w : ℕ) (sized : (k : K) → length (bytes k) ≡ w) where
  pub length_record : (r : Record K) → length (record_encoding bytes r) ≡ w + 28
  length_record r =
      let p1 : List ℕ = bytes r.key in
      let p2 : List ℕ = p1 ++ be 8 r.next.section in
      let p3 : List ℕ = p2 ++ be 8 r.next.position in
      let p4 : List ℕ = p3 ++ be 8 r.value_offset in
      omega (arith, sized r.key, length-append p1 (be 8 r.next.section), length-append p2 (be 8 r.next.position), length-append p3 (be 8 r.value_offset), length-append p4 (be 4 r.value_size))

  pub read_encoded : (decoding : List ℕ → K) → ((k : K) → decoding (bytes k) ≡ k) → (r : Record K) → RecordFits r → (rest : List ℕ) → record_read decoding w (record_encoding bytes r ++ rest) ≡ r
  read_encoded decoding back r f rest =
      let k : List ℕ = bytes r.key in
      let a : List ℕ = be 8 r.next.section in
      let b : List ℕ = be 8 r.next.position in
      let o : List ℕ = be 8 r.value_offset in
      let z : List ℕ = be 4 r.value_size in
      let bs : List ℕ = ((((k ++ a) ++ b) ++ o) ++ z) ++ rest in
      let f1 : List ℕ = k ++ a in
      let f2 : List ℕ = f1 ++ b in
      let f3 : List ℕ = f2 ++ o in
      let lk : length k ≡ w = sized r.key in
      let l1 : length f1 ≡ w + 8 = omega (arith, length-append k a) in
      let l2 : length f2 ≡ w + 16 = omega (arith, length-append f1 b) in
      let l3 : length f3 ≡ w + 24 = omega (arith, length-append f2 o) in
      let e3 : bs ≡ f3 ++ (z ++ rest) = append_assoc f3 z rest in
      let e2 : bs ≡ f2 ++ (o ++ (z ++ rest)) = e3 ∙ append_assoc f2 o (z ++ rest) in
      let e1 : bs ≡ f1 ++ (b ++ (o ++ (z ++ rest))) = e2 ∙ append_assoc f1 b (o ++ (z ++ rest)) in
      let e0 : bs ≡ k ++ (a ++ (b ++ (o ++ (z ++ rest)))) = e1 ∙ append_assoc k a (b ++ (o ++ (z ++ rest))) in
      let key : decoding (take w bs) ≡ r.key = ap decoding (ap (take w) e0 ∙ take_at k _ w lk) ∙ back r.key in
      let ns = ap number (field w (w + 8) bs k a _ e0 lk (omega arith)) ∙ number-be 8 r.next.section f.0 in
      let np = ap number (field (w + 8) (w + 16) bs f1 b _ e1 l1 (omega arith)) ∙ number-be 8 r.next.position f.1 in
      let off = ap number (field (w + 16) (w + 24) bs f2 o _ e2 l2 (omega arith)) ∙ number-be 8 r.value_offset f.2 in
      let size = ap number (field (w + 24) (w + 28) bs f3 z _ e3 l3 (omega arith)) ∙ number-be 4 r.value_size f.3 in
      λ i. record_with (key i) (ns i) (np i) (off i) (size i)
