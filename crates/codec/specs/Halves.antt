-- Sixteen bytes as two numbers.
use Rattle.std.specs.Prelude.{◌≡◌, ℕ, ◌^◌, ◌<◌, List, ◌++◌, length, take, drop}
use Rattle.std.proofs.Common.{sym, ap, ◌∙◌, append_assoc, arith, length-drop, take-append-drop}
use Rattle.std.proofs.lemmas.List.{take_at, drop_at, take_all, drop-drop}
use Rattle.codec.specs.Bytes.{be}
use Rattle.codec.specs.Rounds.{be_same}

pub joined : (from a b : List ℕ) → length from ≡ 16 → a ≡ take 8 from → b ≡ take 8 (drop 8 from) → a ++ b ≡ from
joined from a b l p q =
    let rest : take 8 (drop 8 from) ≡ drop 8 from = take_all 8 (drop 8 from) (omega (arith, length-drop 8 from)) in
    (λ i. p i ++ q i) ∙ ap (λ xs. take 8 from ++ xs) rest ∙ take-append-drop 8 from

pub apart : (a b c d : ℕ) → a < 2 ^ 64 → b < 2 ^ 64 → c < 2 ^ 64 → d < 2 ^ 64 → be 8 a ++ be 8 b ≡ be 8 c ++ be 8 d → (a ≡ c) × (b ≡ d)
apart a b c d ha hb hc hd e = (be_same 8 a c ha hc (ap (take 8) e), be_same 8 b d hb hd (ap (drop 8) e))

pub both_written : (out x y a b : List ℕ) → length a ≡ 8 → length b ≡ 8 → x ≡ a → y ≡ b → take 8 (x ++ drop 8 out) ++ (y ++ drop 8 (drop 8 (x ++ drop 8 out))) ≡ (a ++ b) ++ drop 16 out
both_written out x y a b la lb p q =
    let front : take 8 (x ++ drop 8 out) ≡ a = ap (λ z. take 8 (z ++ drop 8 out)) p ∙ take_at a (drop 8 out) 8 la in
    let back : drop 8 (drop 8 (x ++ drop 8 out)) ≡ drop 16 out = ap (λ z. drop 8 (drop 8 (z ++ drop 8 out))) p ∙ ap (drop 8) (drop_at a (drop 8 out) 8 la) ∙ drop-drop 8 8 out in
    (λ i. front i ++ (q i ++ back i)) ∙ sym (append_assoc a b (drop 16 out))
