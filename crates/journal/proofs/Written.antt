-- A record that is written part by part: the key, three numbers of 8 bytes and one of 4.
use Rattle.std.proofs.Common.{◌≡◌, ℕ, ◌+◌, ◌-◌, List, [], ◌++◌, length, refl, ◌∙◌, arith, length-append}
use borrow.Rule.Slice.PartMut.{put_mid}
use Rattle.codec.specs.Bytes.{be}
use Rattle.codec.proofs.Pieces.{piece, ended}

pub record_written : (w n p o s : ℕ) (k out y1 y2 y3 y4 y5 : List ℕ) → length k ≡ w → length out ≡ w + 28 →
    y1 ≡ k → y2 ≡ be 8 n → y3 ≡ be 8 p → y4 ≡ be 8 o → y5 ≡ be 4 s →
    put_mid (w + 24) (w + 28 - (w + 24)) (put_mid (w + 16) (w + 24 - (w + 16)) (put_mid (w + 8) (w + 16 - (w + 8)) (put_mid w (w + 8 - w) (put_mid 0 (w - 0) out y1) y2) y3) y4) y5
    ≡ (((k ++ be 8 n) ++ be 8 p) ++ be 8 o) ++ be 4 s
record_written w n p o s k out y1 y2 y3 y4 y5 wide long e1 e2 e3 e4 e5 =
    let p2 : List ℕ = k ++ be 8 n in
    let p3 : List ℕ = p2 ++ be 8 p in
    let p4 : List ℕ = p3 ++ be 8 o in
    let l2 : length p2 ≡ w + 8 = omega (arith, length-append k (be 8 n)) in
    let l3 : length p3 ≡ w + 16 = omega (arith, length-append p2 (be 8 p)) in
    let l4 : length p4 ≡ w + 24 = omega (arith, length-append p3 (be 8 o)) in
    let s1 = piece 0 (w - 0) w [] out out _ k refl (omega arith) (omega arith) refl e1 in
    let s2 = piece w (w + 8 - w) (w + 8) k out _ _ (be 8 n) wide (omega arith) (omega arith) s1 e2 in
    let s3 = piece (w + 8) (w + 16 - (w + 8)) (w + 16) p2 out _ _ (be 8 p) l2 (omega arith) (omega arith) s2 e3 in
    let s4 = piece (w + 16) (w + 24 - (w + 16)) (w + 24) p3 out _ _ (be 8 o) l3 (omega arith) (omega arith) s3 e4 in
    let s5 = piece (w + 24) (w + 28 - (w + 24)) (w + 28) p4 out _ _ (be 4 s) l4 (omega arith) (omega arith) s4 e5 in
    s5 ∙ ended (w + 28) (p4 ++ be 4 s) out (omega arith)
