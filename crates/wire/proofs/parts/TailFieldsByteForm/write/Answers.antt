use Rattle.forms.proofs.Written.{writes_then}
use Rattle.forms.specs.Form.{over, pair, follow, with_first}
use Rattle.forms.specs.Number.{number}
use Rattle.wire.specs.RecordForm.{tail, truncated}
use Rattle.wire.proofs.parts.TailFieldsByteForm.write.Goals as goal

pub returns : goal.returns
unfolding tail truncated over pair follow with_first number
returns c =
    writes_then c.write-at.ensures (writes_then c.write-at-2.ensures (writes_then c.write-at-3.ensures (writes_then c.write-at-4.ensures (writes_then c.write-at-5.ensures
    (writes_then c.write-at-6.ensures (rw c.bit_number.ensures at c.store_number.ensures))))))
