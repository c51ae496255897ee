use Rattle.std.proofs.Common.{◌≡◌, ℕ, ◌+◌, ◌-◌, List, [], ◌∷◌, ◌++◌, length, sym, refl, ◌∙◌, arith, length-append}
use Rattle.codec.specs.Bytes.{be}
use Rattle.codec.proofs.Pieces.{piece, ended}
use Rattle.journal.proofs.writer.write_head.Goals as goal

pub returns : goal.returns
returns g c =
    let out = c.args.out.now in
    let w = c.WIDTH-wide.result in
    let kb = g.K.Key.bytes c.args.key.now in
    let kw : length kb ≡ w = g.met.K.Key.sized c.args.key.now ∙ sym c.WIDTH-wide.ensures in
    let p1 : List ℕ = 0x46 ∷ 0x5A ∷ [] in
    let p2 : List ℕ = p1 ++ be 8 c.args.section in
    let p3 : List ℕ = p2 ++ kb in
    let p4 : List ℕ = p3 ++ be 8 c.args.next.section in
    let l3 : length p3 ≡ 10 + w = omega (arith, length-append p2 kb) in
    let l4 : length p4 ≡ 18 + w = omega (arith, length-append p3 (be 8 c.args.next.section)) in
    let s1 = piece 0 2 2 [] out out _ p1 refl refl refl refl c.copy_from_slice.ensures.after in
    let s2 = piece 2 8 10 p1 out _ _ (be 8 c.args.section) refl refl refl s1 c.put.ensures.written in
    let s3 = piece 10 (10 + w - 10) (10 + w) p2 out _ _ kb refl (omega arith) (omega arith) s2 c.encode.ensures in
    let s4 = piece (10 + w) (18 + w - (10 + w)) (18 + w) p3 out _ _ (be 8 c.args.next.section) l3 (omega arith) (omega arith) s3 c.put-2.ensures.written in
    let s5 = piece (18 + w) (26 + w - (18 + w)) (26 + w) p4 out _ _ (be 8 c.args.next.position) l4 (omega arith) (omega arith) s4 c.put-3.ensures.written in
    s5 ∙ ended (26 + w) (p4 ++ be 8 c.args.next.position) out (omega (arith, c.requires, c.WIDTH-wide.ensures))
