-- `hand::out::hand_out` meets its contract. Assumes nothing.
use native.Mathlib.Omega.{arith}
use Rattle.hand.proofs.Hand.{hand_begins, hand_room, one_asked, hand_goes, hand_ends}
use borrow.Author.Rules.{rules}
use Rattle.hand.proofs.out.hand_out.Goals as goal

pub loop-slot-init : goal.loop-slot-init
loop-slot-init c = search (hand_begins, rules)

pub hand_one-used-requires : goal.hand_one-used-requires
hand_one-used-requires c = search (one_asked, rules)

pub overflow_add-used : goal.overflow_add-used
overflow_add-used c =
    let a = c.args in
    let here = c.loop-slot in
    let room =
    hand_room a.capacity a.other a.state.now a.leaving.now a.n a.index.now a.free.now a.out.now c.requires
    here.state here.index here.free here.out here.used here.slot-index here.invariant c.loop-slot-test.true in
    omega (arith, room, c.hand_one-used.ensures.wrote.bytes)

pub loop-slot-preserved : goal.loop-slot-preserved
loop-slot-preserved c = search (hand_goes, rules)

pub returns : goal.returns
returns c = search (hand_ends, rules)
