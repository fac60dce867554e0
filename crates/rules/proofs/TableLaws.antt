-- Document 01's "Examples on each side", P1 to P11, as one statement over a table, `examples_hold`; and rows of ours, `further_hold`. Each row opens an
-- engine, makes calls, and says after each call what was answered and which flows are open. Assumes nothing.
use Rattle.std.proofs.Common.{subst}
use Rattle.std.specs.Prelude.{Bool, true, false, ◌&&◌, List, [], ◌∷◌, ℕ, T}
use Rattle.forms.specs.Number.{number_bytes, groups}
use Rattle.key.specs.declared.key.FlowKey.{FlowKey}
use Rattle.flow.specs.Counting.{opened_of, counted_rest, taken, counted_of, has_room, closed}
use Rattle.flow.specs.declared.time.EndReason.{EndReason}
use Rattle.flow.specs.declared.record.FlowRecord.{FlowRecord}
use Rattle.rules.specs.Totals.{All}
use Rattle.rules.specs.Rules.{one_packet, feed_all, sweep_at, drain_all}
use Rattle.rules.specs.Engine.{key_bytes}
use Rattle.rules.specs.Spelled.{key_spelled, keys_spelled, size_spelled, sizes_spelled}
use Rattle.rules.specs.Table.{Row, all_by, passes, all_pass, examples, further}

-- ## They hold

examples_computed : T (all_by key_spelled size_spelled examples)
unfolding examples one_packet feed_all sweep_at drain_all opened_of counted_rest taken counted_of has_room closed number_bytes groups
examples_computed = tt

further_computed : T (all_by key_spelled size_spelled further)
unfolding further one_packet feed_all sweep_at drain_all opened_of counted_rest taken counted_of has_room closed number_bytes groups
further_computed = tt

-- the key form and the record form are what they are spelled
as_spelled : (rows : List Row) → T (all_by key_spelled size_spelled rows) → T (all_pass rows)
as_spelled rows t =
    subst (λ (size : FlowKey → EndReason → FlowRecord → ℕ). T (all_by key_bytes size rows)) sizes_spelled
    (subst (λ (bytes : FlowKey → List ℕ). T (all_by bytes size_spelled rows)) keys_spelled t)

-- P1 to P11: every row plays out on the engine as it says
pub examples_hold : T (all_pass examples)
examples_hold = as_spelled examples examples_computed

-- and so do ours
pub further_hold : T (all_pass further)
further_hold = as_spelled further further_computed

pub both_hold : (a b : Bool) → T (a && b) → T a × T b
both_hold true b t = (tt, t)
both_hold false b t = absurd t

-- where all of a table's rows pass, each does
pub each_row : (rows : List Row) → T (all_pass rows) → All (λ r. T (passes r)) rows
each_row [] t = tt
each_row (r ∷ rs) t = let h = both_hold (passes r) (all_pass rs) t in (h.0, each_row rs h.1)
