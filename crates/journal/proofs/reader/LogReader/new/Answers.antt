use Rattle.journal.proofs.ReadBack.{reads_back}
use Rattle.journal.proofs.reader.LogReader.new.Goals as goal

pub returns-clause-rows : goal.returns-clause-rows
returns-clause-rows g c = λ rows zeros h e. reads_back g.K.Key.WIDTH zeros c.args.log.now rows h e
