-- What `sealed_read` gives.
use Rattle.std.specs.Prelude.{◌≡◌, ℕ, ◌-◌, ◌≤◌, Bool, true, false, List, ◌++◌, length, take, drop, replicate, Some, nat_le, refl}
use Rattle.std.proofs.Common.{sym, ap, subst, ◌∙◌, arith, take-append-drop}
use mathlib.Core.HLevel.{is_prop→PathP}
use Rattle.std.specs.Int.Digits.{AllBelowBase}
use Rattle.std.proofs.lemmas.List.{take_at, drop-replicate, length-take-le}
use Rattle.std.proofs.lemmas.Bool.{both_ways, and_from, le-leb}
use Rattle.codec.specs.declared.sealed.Sealed.{Sealed}
use Rattle.codec.specs.contracts.sealed.Sealed.{the_ghost, the_propositions}
use Rattle.codec.specs.Kept.{sealed_most, sealable, padded, Padded, padded_keeps}
use Rattle.codec.specs.Seals.{sealed_bytes, sealed_if}
use Rattle.codec.specs.Rounds.{all_under, under_all, under_take}

same_sealed : (v w : Sealed) → v.len ≡ w.len → v.text ≡ w.text → v ≡ w
same_sealed v w p q =
    λ i. record {
      len = p i;
      text = q i;
      ok = (is_prop→PathP (λ i. the_ghost (p i, (q i, tt))) (λ i. the_propositions (p i, (q i, tt))) (v.ok, tt) (w.ok, tt) i).0;
    }

pub sealed_octets : (v : Sealed) → AllBelowBase 256 (sealed_bytes v)
sealed_octets v = under_take v.len v.text (under_all v.text v.ok.3)

pub sealed_length : (v : Sealed) → length (sealed_bytes v) ≡ v.len
sealed_length v = length-take-le v.len v.text (omega (arith, v.ok.0, v.ok.1))

sealable_when : (bs : List ℕ) → length bs ≤ sealed_most → AllBelowBase 256 bs → sealable bs ≡ true
sealable_when bs l u = and_from (nat_le (length bs) sealed_most) _ (le-leb _ _ l) (all_under bs u)

-- a value's bytes give the value
pub sealed_made : (v : Sealed) (bs : List ℕ) (fits : Bool) (h : sealable bs ≡ fits) → bs ≡ sealed_bytes v → sealed_if bs fits h ≡ Some v
sealed_made v bs true h e =
    let long : length bs ≡ v.len = ap length e ∙ sealed_length v in
    let text : padded bs ≡ v.text = (λ i. e i ++ replicate (sealed_most - long i) 0) ∙ ap (λ zs. sealed_bytes v ++ zs) (sym v.ok.2) ∙ take-append-drop v.len v.text in
    ap Some (same_sealed (record { len = length bs; text = padded bs; ok = padded_keeps bs h }) v long text)
sealed_made v bs false h e =
    let few : length (sealed_bytes v) ≤ sealed_most = omega (arith, sealed_length v, v.ok.0) in
    absurd (both_ways (sealable bs) h (ap sealable e ∙ sealable_when (sealed_bytes v) few (sealed_octets v)))

-- and it has the bytes that it was made of
pub sealed_back : (v : Sealed) (bs : List ℕ) (fits : Bool) (h : sealable bs ≡ fits) → sealed_if bs fits h ≡ Some v → sealed_bytes v ≡ bs
sealed_back v bs true h e =
    let made : Sealed = record { len = length bs; text = padded bs; ok = padded_keeps bs h } in
    let same : made ≡ v = cc in
    ap sealed_bytes (sym same) ∙ take_at bs (replicate (sealed_most - length bs) 0) (length bs) refl
sealed_back v bs false h e = let no_value : ◌≡◌ {A = ℕ} 0 1 = cc in absurd (omega arith)

-- ---- bytes copied to the front of zeros

module _ (from ys : List ℕ) (few : length from ≤ sealed_most) (e : ys ≡ from) where
  copied : ys ++ drop (length from - 0) (replicate sealed_most 0) ≡ padded from
  copied =
      let z : length from - 0 ≡ length from = omega arith in
      (λ i. e i ++ drop (z i) (replicate sealed_most 0)) ∙ ap (λ r. from ++ r) (drop-replicate (length from) sealed_most 0)

  pub copied_keeps : AllBelowBase 256 from → Padded (length from) (ys ++ drop (length from - 0) (replicate sealed_most 0))
  copied_keeps u = subst (Padded (length from)) (sym copied) (padded_keeps from (sealable_when from few u))

  pub copied_front : take (length from) (ys ++ drop (length from - 0) (replicate sealed_most 0)) ≡ from
  copied_front = ap (take (length from)) copied ∙ take_at from (replicate (sealed_most - length from) 0) (length from) refl
