use Rattle.std.proofs.Common.{arith}
use Rattle.forms.proofs.RawLaws.{two_bytes}
use Rattle.forms.proofs.raw.store_raw2.Goals as goal

pub returns : goal.returns
returns c = two_bytes c.to_be_bytes.ensures (omega arith) c.store_bytes.ensures
