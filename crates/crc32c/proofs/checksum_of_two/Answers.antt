use Rattle.std.proofs.Common.{◌≡◌, ◌++◌, sym, ap, ◌∙◌}
use lib.Bits.{bit_xor}
use Rattle.crc32c.specs.Crc.{register, ones}
use Rattle.crc32c.proofs.Joined.{register_append}
use Rattle.crc32c.proofs.checksum_of_two.Goals as goal

pub returns : goal.returns
returns c =
    let one = c.args.first.now in
    let two = c.args.second.now in
    let both : c.update-2.result ≡ register ones (one ++ two) =
    c.update-2.ensures ∙ ap (λ s. register s two) c.update.ensures ∙ sym (register_append ones one two) in
    c.finish.ensures ∙ ap (λ s. bit_xor s ones) both
