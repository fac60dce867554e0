use Rattle.forms.proofs.Written.{writes_then}
use Rattle.forms.specs.Form.{over, pair, follow, with_first}
use Rattle.key.specs.KeyForm.{mac}
use Rattle.key.proofs.parts.MacAddressByteForm.write.Goals as goal

pub returns : goal.returns
unfolding mac over pair follow with_first
returns c = writes_then c.store_raw2-at.ensures c.store_raw4.ensures
