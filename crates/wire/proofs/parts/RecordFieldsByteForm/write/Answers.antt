use Rattle.forms.proofs.Written.{writes_then}
use Rattle.forms.specs.Form.{over, pair, follow, with_first}
use Rattle.wire.specs.RecordForm.{fields}
use Rattle.wire.proofs.parts.RecordFieldsByteForm.write.Goals as goal

pub returns : goal.returns
unfolding fields over pair follow with_first
returns c =
    writes_then c.write-at.ensures (writes_then c.write-at-2.ensures (writes_then c.write-at-3.ensures (writes_then c.write-at-4.ensures c.write.ensures)))
