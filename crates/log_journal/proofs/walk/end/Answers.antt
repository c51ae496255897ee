use Rattle.std.proofs.Common.{◌≡◌, sym, ◌∙◌, arith, rules}
use Rattle.std.proofs.lemmas.Iterator.{YieldsList-from_map}
use Rattle.std.proofs.lemmas.Iterator.Consumers.{YieldsList-at, fits_by_from_yields_list, sum_by_from_yields_List}
use Rattle.codec.specs.Rounds.{under_of}
use Rattle.journal.proofs.Turns.{rows_come}
use Rattle.log_journal.specs.Kept.{log_end, rows_in}
use Rattle.log_journal.proofs.Walks.{end_within, size_in, sizes}
use Rattle.log_journal.proofs.Split.{rows_front, rows_rising}
use Rattle.log_journal.proofs.walk.end.Goals as goal

pub sum-requires-clause-fits : goal.sum-requires-clause-fits
sum-requires-clause-fits g c =
    let w = g.K.Key.WIDTH in
    let log = c.args.log.now in
    let within = end_within w log c.type_inv.log in
    fits_by_from_yields_list size_in (rows_in w log) c.map.result _
    (YieldsList-from_map _ size_in (YieldsList-at c.map.ensures.source (rows_come w (rows_in w log) c.new.ensures.left)) c.map.ensures.closure (λ x r q k. search rules))
    (omega (arith, sizes (rows_in w log)))

pub returns : goal.returns
returns g c =
    let w = g.K.Key.WIDTH in
    let log = c.args.log.now in
    let u = under_of log (λ i. (c.type_inv.log i).fits) in
    let end : c.sum.result ≡ log_end w log =
    sum_by_from_yields_List size_in (rows_in w log) c.map.result c.sum.result c.sum.ensures.ran
    (YieldsList-from_map _ size_in (YieldsList-at c.map.ensures.source (rows_come w (rows_in w log) c.new.ensures.left)) c.map.ensures.closure (λ x r q k. search rules))
    ∙ sym (sizes (rows_in w log)) in
    record { end = end; front = rows_front w log u c.sum.result end; rising = rows_rising w log u }
