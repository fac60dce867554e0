-- `replay::run::read_to_head` meets its contract. Assumes nothing.
use Rattle.std.specs.Prelude.{◌-◌}
use Rattle.replay.specs.Input.{Inside}
use Rattle.replay.specs.Head.{Reaching}
use Rattle.replay.proofs.run.read_to_head.Given as goal

abbrev pub invariant-loop : goal.invariant-loop
invariant-loop l = Inside l.input l.window × Reaching l.input (11 - l.counter)
