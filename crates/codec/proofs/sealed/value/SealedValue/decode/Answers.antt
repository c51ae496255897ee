use Rattle.std.proofs.Common.{sym, refl}
use Rattle.codec.specs.SealedOf.{sealed_made}
use Rattle.codec.proofs.sealed.value.SealedValue.decode.Goals as goal

pub returns : goal.returns
returns c = sym (sealed_made c.new.result c.args.from.now _ refl (sym c.new.ensures))
