-- `sweeps::sweep::sweep_sound` meets its contract. Assumes nothing.
use Rattle.sweeps.specs.SweepLaws.{sweep_plans, sweep_planned, sweep_told}
use borrow.Author.Rules.{rules}
use Rattle.sweeps.proofs.sweep.sweep_sound.Goals as goal

pub plan_at-n-requires : goal.plan_at-n-requires
plan_at-n-requires c = search (sweep_plans, rules)

pub hand_swept-requires : goal.hand_swept-requires
hand_swept-requires c = search (sweep_planned, rules)

pub returns : goal.returns
returns c =
    sweep_told _ _ _ c.requires _ c.load_header-header.ensures _ _ c.clock_at-clock.ensures _ _ _ c.plan_at-n.ensures _ _ _ _ _ _ c.hand_swept.ensures
