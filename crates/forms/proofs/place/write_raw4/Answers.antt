use Rattle.std.proofs.Common.{arith}
use Rattle.forms.proofs.RawLaws.{four_put}
use Rattle.forms.proofs.place.write_raw4.Goals as goal

pub returns : goal.returns
returns c = four_put c.to_be_bytes.ensures (omega arith) c.put_bytes.ensures
