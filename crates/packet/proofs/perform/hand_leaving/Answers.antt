-- `packet::perform::hand_leaving` meets its contract. Assumes nothing.
use Rattle.packet.proofs.Leaving.{leaving_hands, leaving_ends, leaving_sum, left_handed}
use native.Mathlib.Omega.{arith}
use borrow.Author.Rules.{rules}
use Rattle.packet.proofs.perform.hand_leaving.Goals as goal

pub hand_out-swept-requires : goal.hand_out-swept-requires
hand_out-swept-requires c = search (leaving_hands, rules)

pub end_ended-rest-requires : goal.end_ended-rest-requires
end_ended-rest-requires c = search (leaving_ends, rules)

pub overflow_add-result : goal.overflow_add-result
overflow_add-result c =
    let sum =
    leaving_sum _ _ _ _ _ _ _ _ _ _ _ c.requires _ _ _ _ _ c.hand_out-swept.ensures.handed c.hand_out-swept.ensures.ready _ _ _ _ _
    c.end_ended-rest.ensures.acted c.end_ended-rest.ensures.filled in
    omega (arith, sum, c.out-1.given, c.well_formed.1.1.1.1.1.1.1.1.1.0)

pub returns : goal.returns
returns c =
    left_handed _ _ _ _ _ _ _ _ _ _ _ c.requires _ _ _ _ _ c.hand_out-swept.ensures.handed c.hand_out-swept.ensures.ready _ _ _ _ _
    c.end_ended-rest.ensures.acted c.end_ended-rest.ensures.filled
