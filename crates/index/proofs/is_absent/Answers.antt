-- `index::is_absent` meets its contract. Assumes nothing.
use Rattle.index.proofs.Look.{scan_ends}
use Rattle.index.proofs.is_absent.Goals as goal

pub returns : goal.returns
returns c = scan_ends c.requires c.loop-place.invariant c.loop-place-test.false
