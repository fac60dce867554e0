use Rattle.state.specs.SlotTest.{whole_read, part_read, refused_read}
use Rattle.state.proofs.slot.whole_key.Goals as goal

pub returns-in_default : goal.returns-in_default
returns-in_default c = refused_read _ _ c.read_key.ensures _ c.in_default.is

pub returns-then-used-bytes : goal.returns-then-used-bytes
returns-then-used-bytes c = whole_read _ _ c.read_key.ensures _ _ c.in-Ok.is c.if-used-bytes.true

pub returns-else-used-bytes : goal.returns-else-used-bytes
returns-else-used-bytes c = part_read _ _ c.read_key.ensures _ _ c.in-Ok.is c.if-used-bytes.false
