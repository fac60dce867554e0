use Prim.Native.Nat.{◌-◌}
use lib.ListN.{length}
use Rattle.engine.specs.FeedLoop.{Looping}
use Rattle.engine.proofs.batch.feed_all.Given as goal

abbrev pub invariant-loop-answer : goal.invariant-loop-answer
invariant-loop-answer l =
    Looping l.batch l.initial.state l.initial.out l.initial.index l.initial.free l.initial.leaving l.capacity l.idle l.resolution l.answer l.state l.out l.index l.free l.leaving

abbrev pub decreases-loop-answer : goal.decreases-loop-answer
decreases-loop-answer l =
    length l.batch - l.answer.used
