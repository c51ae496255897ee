-- A record's bytes are no other record's.
use Rattle.std.proofs.Common.{◌≡◌, ℕ, List, ◌++◌, length, take, drop, sym, refl, ap, ◌∙◌, arith, length-append}
use Rattle.std.proofs.lemmas.List.{take_at, drop_at}
use Rattle.codec.specs.Bytes.{be}
use Rattle.codec.specs.Rounds.{be_same}
use Rattle.journal.specs.declared.record.Record.{Record}
use Rattle.journal.specs.Layouts.{RecordFits, record_encoding}

apart : (p q r s : List ℕ) → length p ≡ length r → p ++ q ≡ r ++ s → (p ≡ r) × (q ≡ s)
apart p q r s l e = (
  sym (take_at p q (length p) refl) ∙ ap (take (length p)) e ∙ take_at r s (length p) (sym l),
  sym (drop_at p q (length p) refl) ∙ ap (drop (length p)) e ∙ drop_at r s (length p) (sym l),
)

pub one_record : {K : Type 0} (bytes : K → List ℕ) (w : ℕ) → ((k : K) → length (bytes k) ≡ w) → ((j k : K) → bytes j ≡ bytes k → j ≡ k) →
    (r s : Record K) → RecordFits r → RecordFits s → record_encoding bytes r ≡ record_encoding bytes s → r ≡ s
one_record bytes w sized same r s f g e =
    let a1 : List ℕ = bytes r.key in
    let b1 : List ℕ = bytes s.key in
    let a2 : List ℕ = a1 ++ be 8 r.next.section in
    let b2 : List ℕ = b1 ++ be 8 s.next.section in
    let a3 : List ℕ = a2 ++ be 8 r.next.position in
    let b3 : List ℕ = b2 ++ be 8 s.next.position in
    let a4 : List ℕ = a3 ++ be 8 r.value_offset in
    let b4 : List ℕ = b3 ++ be 8 s.value_offset in
    let l1 : length a1 ≡ length b1 = sized r.key ∙ sym (sized s.key) in
    let l2 : length a2 ≡ length b2 = omega (arith, length-append a1 (be 8 r.next.section), length-append b1 (be 8 s.next.section)) in
    let l3 : length a3 ≡ length b3 = omega (arith, length-append a2 (be 8 r.next.position), length-append b2 (be 8 s.next.position)) in
    let l4 : length a4 ≡ length b4 = omega (arith, length-append a3 (be 8 r.value_offset), length-append b3 (be 8 s.value_offset)) in
    let p4 = apart a4 (be 4 r.value_size) b4 (be 4 s.value_size) l4 e in
    let p3 = apart a3 (be 8 r.value_offset) b3 (be 8 s.value_offset) l3 p4.0 in
    let p2 = apart a2 (be 8 r.next.position) b2 (be 8 s.next.position) l2 p3.0 in
    let p1 = apart a1 (be 8 r.next.section) b1 (be 8 s.next.section) l1 p2.0 in
    λ i. record {
      key = same r.key s.key p1.0 i;
      next = record {
        section = be_same 8 r.next.section s.next.section f.0 g.0 p1.1 i;
        position = be_same 8 r.next.position s.next.position f.1 g.1 p2.1 i;
      };
      value_offset = be_same 8 r.value_offset s.value_offset f.2 g.2 p3.1 i;
      value_size = be_same 4 r.value_size s.value_size f.3 g.3 p4.1 i;
    }
