use Rattle.std.proofs.Common.{◌≡◌, ◌+◌, length, sym, ◌∙◌, arith}
use Rattle.journal.proofs.Written.{record_written}
use Rattle.journal.proofs.record.write_record.Goals as goal

pub returns : goal.returns
returns g c =
    let a = c.args in
    let w = c.WIDTH-wide.result in
    let wide : length (g.K.Key.bytes a.key.now) ≡ w = g.met.K.Key.sized a.key.now ∙ sym c.WIDTH-wide.ensures in
    let long : length a.out.now ≡ w + 28 = omega (arith, c.requires, c.WIDTH-wide.ensures) in
    record_written w a.next.section a.next.position a.value_offset a.value_size (g.K.Key.bytes a.key.now) a.out.now _ _ _ _ _ wide long c.encode.ensures c.put.ensures.written c.put-2.ensures.written c.put-3.ensures.written c.put-4.ensures.written
