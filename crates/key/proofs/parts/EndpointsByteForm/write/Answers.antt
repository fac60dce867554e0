use Rattle.forms.proofs.Written.{writes_then}
use Rattle.forms.specs.Form.{over, pair, follow, with_first, choice}
use Rattle.key.specs.KeyForm.{endpoints}
use Rattle.key.proofs.parts.EndpointsByteForm.write.Goals as goal

pub returns-in-Ports : goal.returns-in-Ports
unfolding endpoints choice over pair follow with_first
returns-in-Ports c = rw c.in-Ports.is (writes_then c.store_byte-at.ensures (writes_then c.write-at.ensures c.write.ensures))

pub returns-in-SecurityAssociation : goal.returns-in-SecurityAssociation
unfolding endpoints choice over
returns-in-SecurityAssociation c =
    rw c.in-SecurityAssociation.is (writes_then c.store_byte-at-in-SecurityAssociation.ensures c.write-in-SecurityAssociation.ensures)

pub returns-in-GreProtocol : goal.returns-in-GreProtocol
unfolding endpoints choice over
returns-in-GreProtocol c = rw c.in-GreProtocol.is (writes_then c.store_byte-at-in-GreProtocol.ensures c.write-in-GreProtocol.ensures)
