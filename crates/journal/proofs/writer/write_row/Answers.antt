use Rattle.std.proofs.Common.{◌≡◌, ℕ, ◌+◌, ◌-◌, List, [], ◌++◌, length, sym, refl, ap, ◌∙◌, arith, rules}
use Rattle.journal.specs.Log.{head_bytes, tail_bytes}
use Rattle.codec.proofs.Pieces.{piece, ended}
use Rattle.journal.proofs.Lengths.{length_head, length_tail}
use Rattle.journal.proofs.writer.write_row.Goals as goal

pub returns : goal.returns
returns g c =
    let out = c.args.out.now in
    let w = c.WIDTH-head.result in
    let end = length out in
    let kb = g.K.Key.bytes c.args.key.now in
    let vb = g.V.Value.encoding c.args.value.now in
    let kw : length kb ≡ w = g.met.K.Key.sized c.args.key.now ∙ sym c.WIDTH-head.ensures in
    let head : List ℕ = head_bytes c.args.section kb c.args.next.section c.args.next.position in
    let lh : length head ≡ 26 + w = length_head c.args.section c.args.next.section c.args.next.position kb ∙ ap (λ m. 26 + m) kw in
    let all : end ≡ 34 + w + length vb = omega (arith, c.requires, c.WIDTH-head.ensures) in
    let s1 = piece 0 (26 + w - 0) (26 + w) [] out out _ head refl (omega arith) (omega arith) refl c.write_head.ensures in
    let s2 = piece (26 + w) (end - (26 + w)) end head out _ _ (tail_bytes vb) lh (omega (arith, length_tail vb)) (omega arith) s1 c.write_tail.ensures in
    record {
      written = s2 ∙ ended end (head ++ tail_bytes vb) out (omega arith);
      writable = record {
        key_width = g.met.K.Key.sized c.args.key.now;
        section_fits = search rules;
        next_section_fits = search rules;
        next_position_fits = search rules;
        value_most = omega (arith, g.met.V.Value.within c.args.value.now, g.met.V.Value.high);
        value_bytes = g.met.V.Value.octets c.args.value.now;
      };
    }
