use Rattle.std.proofs.Common.{Some, ap, ◌∙◌}
use Rattle.std.specs.Option.{ok_or}
use Rattle.journal.specs.declared.fault.JournalFault.TheVariants.{Kind}
use Rattle.journal.proofs.StoredBack.{there_decoded}
use Rattle.log_journal.proofs.Walks.{octets}
use Rattle.log_journal.proofs.walk.read_value.Goals as goal

pub returns : goal.returns
returns g c =
    let bs = c.args.value.now in
    c.ok_or.ensures.value ∙ ap (λ o. ok_or o (Kind (Some c.args.place))) c.decode.ensures ∙ there_decoded g.V.Value.decoding bs (octets bs c.type_inv.value) c.args.place
