use Rattle.table.proofs.Spared.{choices}
use Rattle.table.proofs.pair.choices_stand.Goals as goal

pub returns : goal.returns
returns c = choices
