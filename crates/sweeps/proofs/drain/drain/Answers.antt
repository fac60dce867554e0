-- `sweeps::drain::drain` meets its contract. Assumes nothing.
use Rattle.sweeps.specs.StateLaws.{checked_ready}
use Rattle.sweeps.specs.DrainLaws.{drain_sound, drain_damaged}
use borrow.Author.Rules.{rules}
use Rattle.sweeps.proofs.drain.drain.Goals as goal

pub drain_sound-requires : goal.drain_sound-requires
drain_sound-requires c =
    checked_ready _ _ _ _ c.check.ensures c.if-check.true

pub returns-then-check : goal.returns-then-check
returns-then-check c = search (drain_sound, rules)

pub returns : goal.returns
returns c = search (drain_damaged, rules)
