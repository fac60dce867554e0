-- `packet::plan_packet` meets its contract. Assumes nothing.
use Rattle.packet.proofs.Done.{planned_at}
use Rattle.packet.proofs.plan_packet.Goals as goal

pub returns : goal.returns
returns c = planned_at _ _ _ _ _ _ _ _ c.load_header-header.ensures _ c.clock_at-clock.ensures _ c.plan_at-count.ensures
