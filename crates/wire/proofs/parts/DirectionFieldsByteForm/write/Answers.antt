use Rattle.forms.proofs.Written.{writes_then}
use Rattle.forms.specs.Form.{over, pair, follow, with_first}
use Rattle.wire.specs.RecordForm.{direction}
use Rattle.wire.proofs.parts.DirectionFieldsByteForm.write.Goals as goal

pub returns : goal.returns
unfolding direction over pair follow with_first
returns c =
    writes_then c.write-at.ensures (writes_then c.write-at-2.ensures (writes_then c.write-at-3.ensures (writes_then c.write-at-4.ensures c.store_flags.ensures)))
