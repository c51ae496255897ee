use Rattle.std.proofs.Common.{◌≤◌, length, rules}
use Rattle.codec.specs.Rounds.{under_of}
use Rattle.codec.specs.SealedOf.{copied_keeps, copied_front}
use Rattle.codec.proofs.sealed.Sealed.new.Goals as goal

pub invariant_of-result : goal.invariant_of-result
invariant_of-result c =
    let from = c.args.bytes.now in
    let few : length from ≤ 512 = search rules in
    record { ok = copied_keeps from c.copy_from_slice.new.self few c.copy_from_slice.ensures.after (under_of from (λ i. (c.type_inv.bytes i).fits)) }

pub returns : goal.returns
returns c =
    let from = c.args.bytes.now in
    let few : length from ≤ 512 = search rules in
    copied_front from c.copy_from_slice.new.self few c.copy_from_slice.ensures.after
