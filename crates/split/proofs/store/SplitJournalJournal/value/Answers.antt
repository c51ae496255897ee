use Rattle.std.proofs.Common.{ap, ◌∙◌, arith}
use Rattle.journal.specs.Rows.{value_there}
use Rattle.split.proofs.Kind.{Kind, kind}
use Rattle.split.proofs.Looks.{absent, present}
use Rattle.split.proofs.store.SplitJournalJournal.value.Goals as goal
use Rattle.split.proofs.store.SplitJournalJournal.value.Given.{Over}

key : (g : Over) → Kind g.K.Key.bytes g.K.Key.WIDTH g.K.DecodedKey.decoding
key g = kind g.met.K.Key.sized g.met.K.Key.octets g.met.K.Key.same g.met.K.DecodedKey.decoded

pub returns-then-not-has_place : goal.returns-then-not-has_place
returns-then-not-has_place g c =
    ap (value_there g.V.Value.decoding c.args.cursor) (absent (key g) c.args.self.now.ok c.entry-entry.ensures.own c.entry-entry.ensures.number c.records.ensures.bytes c.records.ensures.width c.records.ensures.rows c.args.cursor.offset c.args.cursor.size c.has_place.ensures c.if-not-has_place.true)

pub overflow_add-at : goal.overflow_add-at
overflow_add-at g c = omega (arith, present (key g) c.args.self.now.ok c.entry-entry.ensures.own c.entry-entry.ensures.number c.records.ensures.bytes c.records.ensures.width c.records.ensures.rows c.args.cursor.offset c.args.cursor.size c.has_place.ensures c.if-not-has_place.false)

pub overflow_add-end : goal.overflow_add-end
overflow_add-end g c = omega (arith, present (key g) c.args.self.now.ok c.entry-entry.ensures.own c.entry-entry.ensures.number c.records.ensures.bytes c.records.ensures.width c.records.ensures.rows c.args.cursor.offset c.args.cursor.size c.has_place.ensures c.if-not-has_place.false)

pub slice_bounds-read_stored-end : goal.slice_bounds-read_stored-end
slice_bounds-read_stored-end g c = (present (key g) c.args.self.now.ok c.entry-entry.ensures.own c.entry-entry.ensures.number c.records.ensures.bytes c.records.ensures.width c.records.ensures.rows c.args.cursor.offset c.args.cursor.size c.has_place.ensures c.if-not-has_place.false).within

pub returns : goal.returns
returns g c =
    c.read_stored.ensures.answer ∙ ap (value_there g.V.Value.decoding c.args.cursor) (present (key g) c.args.self.now.ok c.entry-entry.ensures.own c.entry-entry.ensures.number c.records.ensures.bytes c.records.ensures.width c.records.ensures.rows c.args.cursor.offset c.args.cursor.size c.has_place.ensures c.if-not-has_place.false).stored
