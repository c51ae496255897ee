use Rattle.std.proofs.Common.{◌+◌, ◌∙◌, arith}
use Rattle.split.proofs.Found.{read_at}
use Rattle.split.proofs.records.Records.offset.Goals as goal

pub returns : goal.returns
returns c = let r = c.args.self.now in c.take.ensures.value ∙ read_at (r.width + 16) (r.width + 24) r.width r.rows c.args.row _ _ r.bytes.now c.at.ensures c.requires (omega arith) (omega arith) (omega arith)
