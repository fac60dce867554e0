-- `packet::perform::settle_clocked` meets its contract. Assumes nothing.
use Rattle.packet.proofs.Performing.{step_clocked}
use borrow.Author.Rules.{rules}
use Rattle.packet.proofs.perform.settle_clocked.Goals as goal

pub returns : goal.returns
returns c =
    let small = c.well_formed.1.1.1.0 in
    record {
      stepped = step_clocked _ _ _ _ _ _ _ _ _ c.settle-n.ensures.acted (search (small, rules)) c.store_clock.ensures;
      filled = c.settle-n.ensures.filled;
    }
