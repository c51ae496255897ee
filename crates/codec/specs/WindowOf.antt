-- What `window_of` and `window_read` give.
use Rattle.std.specs.Prelude.{◌≡◌, ℕ, ◌^◌, ◌<◌, ◌≤◌, Bool, true, false, List, length, take, drop, Some, None, ◌==◌, ◌≢◌, nat_lt, refl}
use Rattle.std.proofs.Common.{sym, ap, ◌∙◌, ⊎_elim, arith, length-take, length-drop}
use mathlib.Core.HLevel.{is_prop→PathP}
use Rattle.std.proofs.lemmas.Bool.{both_ways, and_parts, ltb-true, eq-eqb, ne_eqb, cases_eq, cond-true, cond-false}
use Rattle.std.proofs.lemmas.List.{take_all}
use Rattle.std.specs.Int.Digits.{AllBelowBase}
use Rattle.codec.specs.Bytes.{be, number}
use Rattle.codec.specs.declared.window.Window.{Window}
use Rattle.codec.specs.contracts.window.Window.{the_ghost, the_propositions}
use Rattle.codec.specs.Kept.{in_order}
use Rattle.codec.specs.Windows.{window_bytes, window_if, window_of, window_read}
use Rattle.codec.specs.Rounds.{be_back, under_take, under_drop}
use Rattle.codec.specs.Halves.{joined}

same_window : (v w : Window) → v.first ≡ w.first → v.end ≡ w.end → v ≡ w
same_window v w p q =
    λ i. record {
      first = p i;
      end = q i;
      ok = (is_prop→PathP (λ i. the_ghost (p i, (q i, tt))) (λ i. the_propositions (p i, (q i, tt))) (v.ok, tt) (w.ok, tt) i).0;
    }

-- a window's days give the window
pub window_made : (v : Window) (first end : ℕ) (ordered : Bool) (h : in_order first end ≡ ordered) → first ≡ v.first → end ≡ v.end → window_if first end ordered h ≡ Some v
window_made v first end true h p q = ap Some (same_window (record { first = first; end = end; ok = h }) v p q)
window_made v first end false h p q = absurd (both_ways (in_order first end) h ((λ i. in_order (p i) (q i)) ∙ v.ok))

-- and it has the days that it was made of
pub window_days : (v : Window) (first end : ℕ) (ordered : Bool) (h : in_order first end ≡ ordered) → window_if first end ordered h ≡ Some v → (v.first ≡ first) × (v.end ≡ end)
window_days v first end true h e = let same : record { first = first; end = end; ok = h } ≡ v = cc in (ap (λ (w : Window). w.first) (sym same), ap (λ (w : Window). w.end) (sym same))
window_days v first end false h e = let no_window : ◌≡◌ {A = ℕ} 0 1 = cc in absurd (omega arith)

-- days out of order give none
pub window_none : (first end : ℕ) (ordered : Bool) (h : in_order first end ≡ ordered) → end ≤ first → window_if first end ordered h ≡ None
window_none first end true h l = absurd (omega (arith, ltb-true first end (and_parts (nat_lt first end) _ h).0))
window_none first end false h l = refl

-- 16 bytes are read as two halves
pub window_halves : (bs : List ℕ) → length bs ≡ 16 → window_read bs ≡ window_of (number (take 8 bs)) (number (take 8 (drop 8 bs)))
window_halves bs l =
    cond-true (length bs == 16) _ _ (eq-eqb _ _ l)
    ∙ ap (λ (rest : List ℕ). window_of (number (take 8 bs)) (number rest)) (sym (take_all 8 (drop 8 bs) (omega (arith, length-drop 8 bs))))

pub end_fits : (v : Window) → v.end < 256 ^ 8
end_fits v = ltb-true v.end (2 ^ 64) (and_parts (nat_lt v.first v.end) _ v.ok).1

pub first_fits : (v : Window) → v.first < 256 ^ 8
first_fits v = omega (arith, end_fits v, ltb-true v.first v.end (and_parts (nat_lt v.first v.end) _ v.ok).0)

-- bytes that are read as a window are the window's
pub window_back : (bs : List ℕ) (v : Window) → AllBelowBase 256 bs → window_read bs ≡ Some v → window_bytes v ≡ bs
window_back bs v u e = ⊎_elim sixteen other (cases_eq (length bs) 16)
  where
    sixteen : length bs ≡ 16 → window_bytes v ≡ bs
    sixteen l =
        let days = window_days v (number (take 8 bs)) (number (take 8 (drop 8 bs))) _ refl (sym (window_halves bs l) ∙ e) in
        let front : be 8 v.first ≡ take 8 bs = ap (be 8) days.0 ∙ be_back 8 (take 8 bs) (omega (arith, length-take 8 bs)) (under_take 8 bs u) in
        let rest : be 8 v.end ≡ take 8 (drop 8 bs) = ap (be 8) days.1 ∙ be_back 8 (take 8 (drop 8 bs)) (omega (arith, length-take 8 (drop 8 bs), length-drop 8 bs)) (under_take 8 (drop 8 bs) (under_drop 8 bs u)) in
        joined bs _ _ l front rest

    other : (length bs ≢ 16) → window_bytes v ≡ bs
    other n = let none : window_read bs ≡ None = cond-false (length bs == 16) _ _ (ne_eqb _ _ n) in let no_window : ◌≡◌ {A = ℕ} 0 1 = cc in absurd (omega arith)
