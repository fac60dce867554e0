use Rattle.forms.proofs.Written.{writes_then}
use Rattle.forms.specs.Form.{over, pair, follow, with_first, choice}
use Rattle.key.specs.KeyForm.{address}
use Rattle.key.proofs.parts.AddressByteForm.write.Goals as goal

pub returns-in-V4 : goal.returns-in-V4
unfolding address choice over
returns-in-V4 c = rw c.in-V4.is (writes_then c.store_byte-at.ensures c.store_raw4.ensures)

pub returns-in-V6 : goal.returns-in-V6
unfolding address choice over pair follow with_first
returns-in-V6 c = rw c.in-V6.is (writes_then c.store_byte-at-in-V6.ensures (writes_then c.store_raw8-at.ensures c.store_raw8.ensures))
