use Rattle.std.proofs.Common.{◌≡◌, Some, sym, ap, subst, ◌∙◌, arith}
use Rattle.std.specs.Int.Digits.{AllBelowBase}
use Rattle.std.specs.Result.{result_ok}
use Rattle.codec.specs.Rounds.{under_of, under_take}
use Rattle.journal.proofs.StoredBack.{reads_wrong, reads_right, reads_back}
use Rattle.journal.proofs.stored.read_stored.Goals as goal

pub returns-then-stored-lt4-clause-back : goal.returns-then-stored-lt4-clause-back
returns-then-stored-lt4-clause-back g c v e = cc

pub returns-then-own-check : goal.returns-then-own-check
returns-then-own-check g c = record {
  answer = reads_wrong g.V.Value.decoding c.args.place c.args.stored.now (omega arith) c.split_at.ensures.front c.split_at.ensures.back c.checksum-own.ensures c.take-check.ensures.value c.if-own-check.true;
  back = λ v e. cc;
}

pub returns : goal.returns
returns g c =
    let parts = c.split_at.ensures in
    record {
      answer = c.ok_or.ensures.value ∙ reads_right g.V.Value.decoding c.args.place c.args.stored.now (omega arith) parts.front parts.back c.checksum-own.ensures c.take-check.ensures.value c.if-own-check.false c.decode.ensures;
      back = λ v e.
          let some : c.decode.result ≡ Some v = c.ok_or.ensures.ok_part ∙ ap result_ok e in
          let octets = subst (AllBelowBase 256) (sym parts.front) (under_take _ c.args.stored.now (under_of c.args.stored.now (λ i. (c.type_inv.stored i).fits))) in
          let read = g.met.V.Value.accepted _ v octets (sym c.decode.ensures ∙ some) in
          reads_back g.V.Value.decoding c.args.place c.args.stored.now (omega arith) parts.front parts.back c.checksum-own.ensures c.take-check.ensures.value c.take-check.ensures.back c.if-own-check.false read;
    }
