use Rattle.std.proofs.Common.{◌≡◌, ◌∙◌, rules}
use Rattle.codec.specs.Bytes.{all_bytes}
use Rattle.codec.specs.Rounds.{all_under, under_of}
use Rattle.codec.proofs.fingerprint.FingerprintKey.decode.Goals as goal

pub invariant_of-result : goal.invariant_of-result
invariant_of-result c =
    let from = c.args.from.now in
    record { ok = (search rules, (let e : all_bytes c.unwrap.result ≡ all_bytes from = search rules in e) ∙ all_under from (under_of from (λ i. (c.type_inv.from i).fits))) }
