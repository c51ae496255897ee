use Rattle.std.proofs.Common.{◌≡◌, Some, sym, ap, subst, ◌∙◌, arith, rules}
use Rattle.std.specs.Int.Digits.{AllBelowBase}
use Rattle.journal.specs.Left.{rows_left}
use Rattle.journal.specs.Rows.{stored_bytes}
use Rattle.journal.proofs.StoredBack.{length_stored}
use Rattle.log_journal.specs.Kept.{rows_in}
use Rattle.log_journal.proofs.Sections.{of_section, record_from, record_here, record_is, record_on, row_here}
use Rattle.log_journal.proofs.Walks.{section_within}
use Rattle.log_journal.proofs.walk.record_at.Goals as goal

pub loop-row-init : goal.loop-row-init
loop-row-init g c =
    let w = g.K.Key.WIDTH in
    let log = c.args.log.now in
    let d = g.K.DecodedKey.decoding in
    let s = c.args.place.section in
    let p = c.args.place.position in
    let start : rows_left w c.into_iter-row-iterator.result ≡ rows_in w log = ap (rows_left w) c.into_iter-row-iterator.ensures.into_iter_gives ∙ c.new-row-items.ensures.left in
    record {
      bytes = search rules;
      found = ap (λ rs. record_from 0 (of_section d s rs) p) start ∙ record_is (of_section d s (rows_in w log)) p;
    }

pub returns-then-left-eq0 : goal.returns-then-left-eq0
returns-then-left-eq0 g c =
    let here = row_here g.K.DecodedKey.decoding c.in-Some.ensures.steps.rows c.if-row-place.false in
    let long = length_stored c.in-Some.row.value.now in
    let octets : AllBelowBase 256 c.in-Some.row.key.now = subst (AllBelowBase 256) c.decode.ensures (g.met.K.Key.octets c.decode.result) in
    let key : c.decode.result ≡ g.K.DecodedKey.decoding c.in-Some.row.key.now = g.met.K.Key.same _ _ (c.decode.ensures ∙ sym (g.met.K.DecodedKey.decoded c.in-Some.row.key.now c.in-Some.ensures.steps.key octets)) in
    (λ i. Some (record { key = key i; next = c.in-Some.row.next; value_offset = c.loop-row.offset; value_size = sym long i }))
    ∙ sym (record_here here long c.loop-row.offset c.loop-row.left c.if-left-eq0.true)
    ∙ c.loop-row.invariant.found

pub overflow_add-offset : goal.overflow_add-offset
overflow_add-offset g c =
    let within = section_within g.K.DecodedKey.decoding c.args.place.section g.K.Key.WIDTH c.args.log.now c.type_inv.log in
    let here = row_here g.K.DecodedKey.decoding c.in-Some.ensures.steps.rows c.if-row-place.false in
    record { fits = omega (arith, ap stored_bytes here, length_stored c.in-Some.row.value.now) }

pub loop-row-preserved : goal.loop-row-preserved
loop-row-preserved g c =
    let here = row_here g.K.DecodedKey.decoding c.in-Some.ensures.steps.rows c.if-row-place.false in
    let long = length_stored c.in-Some.row.value.now in
    record {
      bytes = omega (arith, ap stored_bytes here);
      found = record_on here long c.loop-row.offset c.loop-row.left c.if-left-eq0.false ∙ c.loop-row.invariant.found;
    }
