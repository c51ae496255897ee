use Rattle.std.proofs.Common.{◌≡◌, ◌+◌, get_or, drop, sym, ap, ◌∙◌}
use lib.Bits.{bit_xor}
use Rattle.std.proofs.lemmas.List.{at_drop_more, at_drop_all}
use Rattle.crc32c.specs.Crc.{eight_bits, register}
use Rattle.crc32c.proofs.update.Goals as goal

pub loop-byte-preserved : goal.loop-byte-preserved
loop-byte-preserved c =
    let bs = c.args.bytes.now in
    let i = c.loop-byte.byte-index in
    let s = c.loop-byte.state in
    let more : register s (drop i bs) ≡ register (eight_bits (bit_xor s (get_or bs i 0))) (drop (i + 1) bs) = at_drop_more (register s) bs i 0 c.loop-byte-test.true in
    ap (λ t. register t (drop (i + 1) bs)) c.update_byte-state.ensures ∙ sym more ∙ c.loop-byte.invariant

pub returns : goal.returns
returns c = sym (at_drop_all (register c.loop-byte.state) c.args.bytes.now c.loop-byte.byte-index c.loop-byte-test.false) ∙ c.loop-byte.invariant
