use Rattle.forms.proofs.Written.{writes_then}
use Rattle.forms.specs.Form.{over, pair, follow, with_first}
use Rattle.wire.specs.RecordForm.{flags}
use Rattle.wire.proofs.parts.store_flags.Goals as goal

pub returns : goal.returns
unfolding flags over pair follow with_first
returns c =
    writes_then c.write-at.ensures (writes_then c.write-at-2.ensures (writes_then c.write-at-3.ensures (writes_then c.write-at-4.ensures (writes_then c.write-at-5.ensures
    (writes_then c.write-at-6.ensures (writes_then c.write-at-7.ensures (writes_then c.write-at-8.ensures c.write.ensures)))))))
