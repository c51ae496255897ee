use Rattle.model.proofs.Doubling.{doubles}
use Rattle.model.proofs.Events.{happens}
use Rattle.model.proofs.runs_there_are.Goals as goal

pub returns : goal.returns
returns c = record { doubles = doubles; happens = happens }
