-- `plan::order::bytes_before` meets its contract. Assumes nothing.
use mathlib.Core.Path.{sym, ◌∙◌}
use Rattle.plan.proofs.Before.{ended, shorter, less, more, alike}
use Rattle.plan.proofs.order.bytes_before.Goals as goal

pub returns-then-a-k : goal.returns-then-a-k
returns-then-a-k c = sym (c.loop-k.invariant ∙ shorter _ _ _ c.if-a-k.true c.loop-k-test.true)

pub returns-then-a-k-2 : goal.returns-then-a-k-2
returns-then-a-k-2 c =
    sym (c.loop-k.invariant ∙ less _ _ _ c.if-a-k.false c.loop-k-test.true c.if-a-k-2.true)

pub returns-then-b-k : goal.returns-then-b-k
returns-then-b-k c =
    sym (c.loop-k.invariant ∙ more _ _ _ c.if-a-k.false c.loop-k-test.true c.if-b-k.true)

pub loop-k-preserved : goal.loop-k-preserved
loop-k-preserved c =
    c.loop-k.invariant ∙ alike _ _ _ c.if-a-k.false c.loop-k-test.true c.if-a-k-2.false c.if-b-k.false

pub returns : goal.returns
returns c = sym (c.loop-k.invariant ∙ ended _ _ _ c.loop-k-test.false)
