use Rattle.std.proofs.Common.{arith}
use Rattle.forms.proofs.RawLaws.{eight_bytes}
use Rattle.forms.proofs.raw.store_raw8.Goals as goal

pub returns : goal.returns
returns c = eight_bytes c.to_be_bytes.ensures (omega arith) c.store_bytes.ensures
