use Rattle.std.proofs.Common.{◌<◌, length, refl, arith, rules}
use Rattle.split.proofs.Kind.{Kind, kind}
use Rattle.split.proofs.Appends.{good_kept, good_recorded, left, placed}
use Rattle.split.proofs.store.SplitJournalJournal.append.Goals as goal
use Rattle.split.proofs.store.SplitJournalJournal.append.Given.{Over}

key : (g : Over) → Kind g.K.Key.bytes g.K.Key.WIDTH g.K.DecodedKey.decoding
key g = kind g.met.K.Key.sized g.met.K.Key.octets g.met.K.Key.same g.met.K.DecodedKey.decoded

pub invariant_of-self : goal.invariant_of-self
invariant_of-self g c = record { ok = good_recorded (key g) c.args.self.now.ok c.args.section c.encode_size-len.result c.in_ok-at.ensures _ c.record_size-size.ensures (omega arith) }

pub invariant_of-self-2 : goal.invariant_of-self-2
invariant_of-self-2 g c = record { ok = good_kept (key g) c.args.self.now.ok c.args.section c.encode_size-len.result c.in_ok-at.ensures _ _ c.record_size-size.ensures (omega arith) (omega arith) }

pub overflow_cast-result : goal.overflow_cast-result
overflow_cast-result g c = omega (arith, c.encode_size-len.ensures, g.met.V.Value.within c.args.value.now, g.met.V.Value.high)

pub overflow_add-self : goal.overflow_add-self
overflow_add-self g c = omega (arith, placed (key g) c.args.self.now.ok c.args.section c.encode_size-len.result c.in_ok-at.ensures)

pub overflow_add-self-2 : goal.overflow_add-self-2
overflow_add-self-2 g c = omega (arith, placed (key g) c.args.self.now.ok c.args.section c.encode_size-len.result c.in_ok-at.ensures)

pub bounds-self-at : goal.bounds-self-at
bounds-self-at g c = omega (arith, placed (key g) c.args.self.now.ok c.args.section c.encode_size-len.result c.in_ok-at.ensures)

pub overflow_add-self-3 : goal.overflow_add-self-3
overflow_add-self-3 g c = omega (arith, placed (key g) c.args.self.now.ok c.args.section c.encode_size-len.result c.in_ok-at.ensures)

pub offset_bounds-self-at : goal.offset_bounds-self-at
offset_bounds-self-at g c = let l : c.in_ok-at.field-0.at < length c.args.self.now.directory.now = (placed (key g) c.args.self.now.ok c.args.section c.encode_size-len.result c.in_ok-at.ensures).at in search rules

pub invariant_of-self-3 : goal.invariant_of-self-3
invariant_of-self-3 g c =
    let l = left (key g) c.args.self.now.ok c.args.section c.encode_size-len.result c.in_ok-at.ensures
    c.args.key.now c.args.next.section c.args.next.position (g.V.Value.encoding c.args.value.now) (search rules) (search rules) (omega (arith, c.encode_size-len.ensures, g.met.V.Value.within c.args.value.now, g.met.V.Value.high)) c.encode_size-len.ensures
    c.record_size-size.ensures c.write_record.ensures c.write_stored.ensures.written in
    record { ok = l.good }

pub returns : goal.returns
returns g c =
    let l = left (key g) c.args.self.now.ok c.args.section c.encode_size-len.result c.in_ok-at.ensures
    c.args.key.now c.args.next.section c.args.next.position (g.V.Value.encoding c.args.value.now) (search rules) (search rules) (omega (arith, c.encode_size-len.ensures, g.met.V.Value.within c.args.value.now, g.met.V.Value.high)) c.encode_size-len.ensures
    c.record_size-size.ensures c.write_record.ensures c.write_stored.ensures.written in
    record { answer = l.answer; after = l.after; same = refl }
