use Rattle.forms.proofs.Written.{writes_then}
use Rattle.forms.specs.Form.{over, pair, follow, with_first, choice}
use Rattle.key.specs.KeyForm.{vlan}
use Rattle.key.proofs.parts.VlanTagsByteForm.write.Goals as goal

pub returns-in-Single : goal.returns-in-Single
unfolding vlan choice over
returns-in-Single c = rw c.in-Single.is (writes_then c.store_byte-at.ensures c.write.ensures)

pub returns-in-Double : goal.returns-in-Double
unfolding vlan choice over pair follow with_first
returns-in-Double c = rw c.in-Double.is (writes_then c.store_byte-at-in-Double.ensures (writes_then c.write-at.ensures c.write-in-Double.ensures))
