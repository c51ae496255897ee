use Rattle.model.proofs.Edges.{edge_cases_lem}
use Rattle.model.proofs.edge_cases.Goals as goal

pub returns : goal.returns
returns c = edge_cases_lem
