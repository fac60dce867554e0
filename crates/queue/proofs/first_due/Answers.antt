-- `queue::first_due` meets its contract. Assumes nothing.
use native.Mathlib.Omega.{arith}
use Prim.Native.Nat.{◌+◌}
use Rattle.queue.proofs.Laws.{walk_ends, root_least}
use borrow.Author.Rules.{rules}
use Rattle.queue.proofs.first_due.Goals as goal

pub returns-then-limit-least : goal.returns-then-limit-least
returns-then-limit-least c =
    let a = c.args in
    λ j h. omega (arith, root_least a.tree.now a.capacity c.requires.sound (a.capacity + j) (omega arith) (omega arith))

pub returns : goal.returns
returns c =
    walk_ends _ _ _ _ _ c.requires.sound (search rules) (search rules) c.loop-k.invariant.2 c.load_node-least.ensures (search rules)
