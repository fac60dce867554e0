-- `packet::perform::perform` meets its contract. Assumes nothing.
use Rattle.packet.proofs.Performing.{few_freed, few_ending, perform_leaves, perform_behind, perform_settles, perform_sum, performed}
use native.Mathlib.Omega.{arith}
use borrow.Author.Rules.{rules}
use Rattle.packet.proofs.perform.perform.Goals as goal

pub hand_leaving-first-requires : goal.hand_leaving-first-requires
hand_leaving-first-requires c = search (perform_leaves, rules)

pub slice_bounds-settle_clocked-count : goal.slice_bounds-settle_clocked-count
slice_bounds-settle_clocked-count c = search (perform_behind, rules)

pub slice_bounds-settle_clocked-start : goal.slice_bounds-settle_clocked-start
slice_bounds-settle_clocked-start c = search (perform_behind, rules)

pub settle_clocked-rest-requires : goal.settle_clocked-rest-requires
settle_clocked-rest-requires c = search (perform_settles, rules)

pub overflow_add-result : goal.overflow_add-result
overflow_add-result c =
    omega (arith, few_freed c.args.decision.ended, c.freed_by.ensures, c.requires.carry.stands.few, c.requires.carry.stands.most)

pub overflow_add-result-2 : goal.overflow_add-result-2
overflow_add-result-2 c =
    let d = c.args.decision in
    omega (
      arith,
      few_freed d.ended,
      few_ending d.reason,
      c.ending_count.ensures,
      c.freed_by.ensures,
      c.requires.carry.stands.few,
      c.requires.carry.stands.most,
    )

pub overflow_add-result-3 : goal.overflow_add-result-3
overflow_add-result-3 c =
    let sum =
    perform_sum _ _ _ _ _ _ _ _ _ _ _ _ c.requires _ _ _ _ _ c.hand_leaving-first.ensures _ _ _ _ _ c.settle_clocked-rest.ensures.stepped
    c.settle_clocked-rest.ensures.filled in
    omega (arith, sum, c.out-1.given, c.well_formed.1.1.1.1.1.1.1.1.1.1.0)

pub returns : goal.returns
returns c =
    performed _ _ _ _ _ _ _ _ _ _ _ _ c.requires _ _ _ _ _ c.hand_leaving-first.ensures _ _ _ _ _ c.settle_clocked-rest.ensures.stepped
    c.settle_clocked-rest.ensures.filled _ _ _ c.is_some.ensures c.freed_by.ensures c.ending_count.ensures
