use Rattle.forms.proofs.Written.{writes_put}
use Rattle.forms.proofs.place.put_bytes.Goals as goal

pub returns-then-bytes-out : goal.returns-then-bytes-out
returns-then-bytes-out c = rw (c.in_ok-at.was) (writes_put c.store_bytes.ensures)
