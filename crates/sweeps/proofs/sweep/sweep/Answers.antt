-- `sweeps::sweep::sweep` meets its contract. Assumes nothing.
use Rattle.sweeps.specs.StateLaws.{checked_ready}
use Rattle.sweeps.specs.SweepLaws.{sweep_sound, sweep_damaged}
use borrow.Author.Rules.{rules}
use Rattle.sweeps.proofs.sweep.sweep.Goals as goal

pub sweep_sound-requires : goal.sweep_sound-requires
sweep_sound-requires c =
    checked_ready _ _ _ _ c.check.ensures c.if-check.true

pub returns-then-check : goal.returns-then-check
returns-then-check c = search (sweep_sound, rules)

pub returns : goal.returns
returns c = search (sweep_damaged, rules)
