-- `queue::set_due` meets its contract. Assumes nothing.
use borrow.Author.Rules.{rules}
use Rattle.queue.proofs.Laws.{climb_goes_on, climb_ends}
use Rattle.queue.proofs.set_due.Goals as goal

pub loop-k-preserved : goal.loop-k-preserved
loop-k-preserved c =
    climb_goes_on _ _ _ _ _ (search rules) c.refresh.ensures c.loop-k.invariant

pub returns : goal.returns
returns c =
    climb_ends _ _ _ _ _ _ _ (search rules) (search rules) (search rules) c.requires.sound c.store_node.ensures c.loop-k.invariant
