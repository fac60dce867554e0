use Rattle.forms.proofs.Written.{writes_then}
use Rattle.forms.specs.Number.{number}
use Rattle.wire.specs.RecordWrite.{head_writes}
use Rattle.wire.proofs.parts.HeadFieldsByteForm.write.Goals as goal

pub returns : goal.returns
unfolding number
returns c =
    rw (head_writes, ← c.reason_number.ensures, ← c.state_number.ensures, ← c.resolution_number.ensures)
    (writes_then c.store_byte-at.ensures (writes_then c.store_number-at.ensures (writes_then c.store_number-at-2.ensures (writes_then c.store_number-at-3.ensures
    (writes_then c.write-at.ensures c.write.ensures)))))
