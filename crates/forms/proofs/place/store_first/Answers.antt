use Rattle.std.proofs.Common.{arith}
use Rattle.forms.proofs.Written.{first_stored, none_stored}
use Rattle.forms.proofs.place.store_first.Goals as goal

pub returns-then-at-out : goal.returns-then-at-out
returns-then-at-out c = first_stored c.args.bytes.now c.store_bytes.ensures c.if-at-out.true c.requires

pub returns-else-at-out : goal.returns-else-at-out
returns-else-at-out c = none_stored c.args.at c.args.bytes.now c.args.out.now (omega (arith, c.if-at-out.false))
