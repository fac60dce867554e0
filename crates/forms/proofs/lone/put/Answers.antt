use Rattle.forms.proofs.Written.{writes_put}
use Rattle.forms.proofs.lone.put.Goals as goal

pub returns-then-len-out : goal.returns-then-len-out
returns-then-len-out g c = rw (c.in_ok-at.was) (writes_put c.write.ensures)
