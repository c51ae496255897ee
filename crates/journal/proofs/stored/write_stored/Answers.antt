use Rattle.std.proofs.Common.{◌≡◌, ℕ, ◌+◌, ◌-◌, List, [], ◌++◌, length, Some, sym, refl, ap, ◌∙◌, arith, rules}
use Rattle.crc32c.specs.Crc.{crc}
use Rattle.codec.specs.Bytes.{be}
use Rattle.codec.proofs.Pieces.{piece, middle, whole, ended}
use Rattle.journal.specs.Rows.{value_check, value_there}
use Rattle.journal.proofs.StoredBack.{there_stored}
use Rattle.journal.proofs.stored.write_stored.Goals as goal

pub returns : goal.returns
unfolding value_check
returns g c =
    let out = c.args.out.now in
    let v = c.args.value.now in
    let n = c.encode_size-size.result in
    let vb = g.V.Value.encoding v in
    let vw : length vb ≡ n = sym c.encode_size-size.ensures in
    let fit : length c.encode.new.out ≡ length vb = search rules in
    let filled : c.encode.new.out ≡ vb = whole c.encode.new.out vb _ fit c.encode.ensures.written in
    let s1 = piece 0 (n - 0) n [] out out _ vb refl (omega arith) (omega arith) refl filled in
    let check : c.checksum-check.result ≡ crc vb = c.checksum-check.ensures ∙ ap crc (middle 0 (n - 0) n [] vb out _ refl (omega arith) s1) in
    let s2 = piece n (n + 4 - n) (n + 4) vb out _ _ (be 4 (crc vb)) vw (omega arith) (omega arith) s1 (c.put.ensures.written ∙ ap (be 4) check) in
    let written = s2 ∙ ended (n + 4) (vb ++ be 4 (crc vb)) out (omega (arith, c.requires)) in
    record { written = written; back = λ p. ap (λ (bs : List ℕ). value_there g.V.Value.decoding p (Some bs)) written ∙ there_stored g.V.Value.decoding vb v (g.met.V.Value.octets v) (g.met.V.Value.decodes v) p }
