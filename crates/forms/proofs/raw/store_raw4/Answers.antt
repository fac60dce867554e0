use Rattle.std.proofs.Common.{arith}
use Rattle.forms.proofs.RawLaws.{four_bytes}
use Rattle.forms.proofs.raw.store_raw4.Goals as goal

pub returns : goal.returns
returns c = four_bytes c.to_be_bytes.ensures (omega arith) c.store_bytes.ensures
