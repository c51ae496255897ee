use Rattle.std.proofs.Common.{◌≡◌, ◌+◌, ◌-◌, take, sym, ap, ◌∙◌, arith, rules}
use Rattle.std.proofs.lemmas.List.{take_all}
use Rattle.codec.proofs.Pieces.{joined_on}
use Rattle.journal.proofs.OneRecord.{one_record}
use Rattle.journal.proofs.record.Record.decode.Goals as goal

pub returns : goal.returns
returns g c =
    let bs = c.args.from.now in
    let w = c.WIDTH-wide.result in
    let p1 : g.K.Key.bytes c.decode.result ≡ take w bs = c.decode.ensures ∙ ap (λ m. take m bs) (omega arith) in
    let p2 = joined_on w (w + 8 - w) (w + 8) bs _ _ (omega arith) p1 c.take.ensures.back in
    let p3 = joined_on (w + 8) (w + 16 - (w + 8)) (w + 16) bs _ _ (omega arith) p2 c.take-2.ensures.back in
    let p4 = joined_on (w + 16) (w + 24 - (w + 16)) (w + 24) bs _ _ (omega arith) p3 c.take-3.ensures.back in
    let p5 = joined_on (w + 24) (w + 28 - (w + 24)) (w + 28) bs _ _ (omega arith) p4 c.take-4.ensures.back in
    let back = p5 ∙ take_all (w + 28) bs (omega (arith, c.requires, c.WIDTH-wide.ensures)) in
    record {
      back = back;
      one = λ s f e. one_record g.K.Key.bytes g.K.Key.WIDTH g.met.K.Key.sized g.met.K.Key.same _ s (search rules, search rules, search rules, search rules) f (back ∙ sym e);
    }
