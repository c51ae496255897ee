use Rattle.std.specs.Prelude.{slice_set}
use Rattle.std.proofs.Common.{ap, ◌∙◌, rules}
use Rattle.codec.proofs.Filled.{filled_more}
use Rattle.codec.proofs.bytes.fill_part.Goals as goal

pub loop-slot-preserved : goal.loop-slot-preserved
loop-slot-preserved g c =
    let i = c.loop-slot.slot-index in
    ap (λ l. slice_set l i c.args.item) c.loop-slot.invariant ∙ filled_more i _ c.args.item (search rules)
