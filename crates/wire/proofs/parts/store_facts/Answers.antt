use Rattle.forms.proofs.Written.{writes_then}
use Rattle.forms.specs.Form.{over, pair, follow, with_first}
use Rattle.forms.specs.Number.{number}
use Rattle.forms.specs.Optional.{optional16}
use Rattle.wire.specs.PacketForm.{facts}
use Rattle.wire.proofs.parts.store_facts.Goals as goal

pub returns : goal.returns
unfolding facts over pair follow with_first number optional16
returns c =
    writes_then c.write-at.ensures (writes_then c.write-at-2.ensures (writes_then c.write-at-3.ensures (writes_then c.write-at-4.ensures (writes_then c.write-at-5.ensures
    (writes_then c.write-at-6.ensures (writes_then c.write-at-7.ensures c.write.ensures))))))
