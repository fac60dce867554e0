-- `replay::feed::feed_all` meets its contract. Assumes nothing.
use Rattle.replay.specs.Input.{Inside}
use Rattle.replay.proofs.feed.feed_all.Given as goal

abbrev pub invariant-loop : goal.invariant-loop
invariant-loop l = Inside l.run.input l.window
