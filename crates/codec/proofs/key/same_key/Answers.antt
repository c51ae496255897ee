use Rattle.std.specs.Str.{bytes_eq}
use Rattle.std.specs.Prelude.{Decides}
use Rattle.std.proofs.Common.{◌≡◌, ◌++◌, ℕ, take, drop, replicate, ◌-◌, arith, sym, ap, ◌∙◌}
use Rattle.std.proofs.lemmas.List.{take_at}
use Rattle.std.proofs.lemmas.Slice.Eq.{slice_eq-Decides, bytes_eq-Decides}
use Rattle.std.proofs.lemmas.Bool.Decides.{same_from_decides, Decides-eqb}
use Rattle.codec.proofs.key.same_key.Goals as goal

pub returns : goal.returns
returns g c =
    let a = c.args.a.now in
    let b = c.args.b.now in
    let w = c.WIDTH-width.result - 0 in
    let bytes = g.K.Key.bytes in
    let rest = drop w (replicate {A = ℕ} 64 0) in
    let left : take w (c.encode.new.out ++ rest) ≡ bytes a = ap (λ y. take w (y ++ rest)) c.encode.ensures ∙ take_at (bytes a) rest w (g.met.K.Key.sized a ∙ omega (arith, c.WIDTH-width.ensures)) in
    let right : take w (c.encode-2.new.out ++ rest) ≡ bytes b = ap (λ y. take w (y ++ rest)) c.encode-2.ensures ∙ take_at (bytes b) rest w (g.met.K.Key.sized b ∙ omega (arith, c.WIDTH-width.ensures)) in
    let parts : Decides c.eq.result (take w (c.encode.new.out ++ rest) ≡ take w (c.encode-2.new.out ++ rest)) = slice_eq-Decides Decides-eqb (take w (c.encode.new.out ++ rest)) (take w (c.encode-2.new.out ++ rest)) c.eq.result c.eq.ensures in
    let whole : Decides c.eq.result (bytes a ≡ bytes b) = (λ t. sym left ∙ parts.0 t ∙ right, λ e. parts.1 (left ∙ e ∙ sym right)) in
    record {
      bytes = same_from_decides c.eq.result (bytes_eq (bytes a) (bytes b)) whole (bytes_eq-Decides (bytes a) (bytes b));
      key = (λ t. g.met.K.Key.same a b (whole.0 t), λ e. whole.1 (ap bytes e));
    }
