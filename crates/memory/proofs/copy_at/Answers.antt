-- `memory::copy_at` meets its contract. Assumes nothing.
use mathlib.Core.Path.{◌≡◌, refl}
use Rattle.memory.proofs.Laws.{Copied, copied_none, copied_more, copied_all}
use borrow.Author.Rules.{rules}
use Rattle.memory.proofs.copy_at.Goals as goal

pub loop-k-init : goal.loop-k-init
loop-k-init c = (refl, copied_none _ _ _)

pub loop-k-preserved : goal.loop-k-preserved
loop-k-preserved c =
    (c.loop-k.invariant.0, copied_more _ _ _ _ _ (search rules) (search rules) c.loop-k.invariant.1)

pub returns : goal.returns
returns c = copied_all _ _ _ _ _ (search rules) c.loop-k.invariant.1
