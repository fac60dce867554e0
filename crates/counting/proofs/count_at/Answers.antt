-- `counting::count_at` meets its contract. Assumes nothing.
use native.Mathlib.Omega.{arith}
use Rattle.counting.proofs.Counted.{run_low, shared_asked, own_asked, counted_there}
use borrow.Author.Rules.{rules}
use Rattle.counting.proofs.count_at.Goals as goal

pub counted_shared-after-requires : goal.counted_shared-after-requires
counted_shared-after-requires c = search (shared_asked, rules)

pub load_run-requires-2 : goal.load_run-requires-2
load_run-requires-2 c = record { ws_bound = search (run_low, rules); i_in_bounds = search rules }

pub counted_direction-counted-requires : goal.counted_direction-counted-requires
counted_direction-counted-requires c =
    own_asked _ _ _ _ c.requires _ c.load_run.ensures _ _ c.counted_shared-after.ensures c.store_run.ensures
    c.args.direction _ _ c.first_word-from.ensures c.load_run-2.ensures

pub store_run-requires-2 : goal.store_run-requires-2
store_run-requires-2 c =
    record { capacity_in_bounds = search rules; i_lt_capacity = search rules; ws_bound = omega (arith, run_low c.args.direction _ c.first_word-from.ensures) }

pub returns : goal.returns
returns c =
    counted_there _ _ _ _ c.requires _ c.load_run.ensures _ _ c.counted_shared-after.ensures c.store_run.ensures
    c.args.direction _ _ c.first_word-from.ensures c.load_run-2.ensures (λ k. omega (arith, c.slice_known-1.given k)) _ _
    c.counted_direction-counted.ensures c.store_run-2.ensures
