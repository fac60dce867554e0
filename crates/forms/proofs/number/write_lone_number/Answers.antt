use Rattle.std.proofs.Common.{arith}
use Rattle.forms.proofs.Written.{wrote_number}
use Rattle.forms.proofs.number.write_lone_number.Goals as goal

pub returns : goal.returns
returns c = wrote_number c.args.most (omega arith) c.store_number.ensures
