use Rattle.forms.proofs.Written.{writes_then}
use Rattle.forms.specs.Optional.{optional32_writes}
use Rattle.key.specs.KeyWrite.{tunnel_writes}
use Rattle.key.proofs.parts.store_encapsulation.Goals as goal

pub returns-in-Some : goal.returns-in-Some
returns-in-Some c = rw (c.in-Some.is, tunnel_writes) (writes_then c.store_number-at.ensures (rw optional32_writes at c.write.ensures))
