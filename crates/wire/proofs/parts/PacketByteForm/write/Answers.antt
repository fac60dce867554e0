use Rattle.forms.proofs.Written.{writes_then}
use Rattle.forms.specs.Form.{over, pair, follow, with_first}
use Rattle.wire.specs.PacketForm.{packet}
use Rattle.wire.proofs.parts.PacketByteForm.write.Goals as goal

pub returns : goal.returns
unfolding packet over pair follow with_first
returns c = writes_then c.store_facts-at.ensures c.write.ensures
