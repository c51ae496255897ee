use Rattle.std.proofs.Common.{◌≡◌, ◌≤◌, length, take, drop, sym, refl, ◌∙◌, arith}
use Rattle.codec.specs.Bytes.{number}
use Rattle.codec.specs.WindowOf.{window_made, window_none, window_halves}
use Rattle.codec.proofs.window.value.WindowValue.decode.Goals as goal

pub returns-then-first-end : goal.returns-then-first-end
returns-then-first-end c =
    let l : length c.args.from.now ≡ 16 = omega arith in
    sym (window_halves c.args.from.now l ∙ window_made _ _ _ _ refl (sym c.take-first.ensures.value) (sym c.take-end.ensures.value))

pub returns-else-first-end : goal.returns-else-first-end
returns-else-first-end c =
    let bs = c.args.from.now in
    let l : length bs ≡ 16 = omega arith in
    let late : number (take 8 (drop 8 bs)) ≤ number (take 8 bs) = omega (arith, c.take-first.ensures.value, c.take-end.ensures.value) in
    sym (window_halves bs l ∙ window_none (number (take 8 bs)) (number (take 8 (drop 8 bs))) _ refl late)
