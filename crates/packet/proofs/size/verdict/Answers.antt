-- `packet::size::verdict` meets its contract. Assumes nothing.
use Rattle.std.proofs.Common.{ap, take}
use Rattle.forms.specs.Refusals.{stop_number}
use Rattle.packet.proofs.Sizes.{verdict_given, verdict_taken, verdict_room}
use borrow.Author.Rules.{rules}
use Rattle.packet.proofs.size.verdict.Goals as goal

pub returns-in-Some : goal.returns-in-Some
returns-in-Some c = search (verdict_given, rules)

pub returns-then-fits : goal.returns-then-fits
returns-then-fits c =
    let a = c.args in
    verdict_taken a.state.now a.capacity (take a.n a.leaving.now) a.decision a.room (ap stop_number c.in_default.is) _ _ _ c.sizes_of-first.ensures c.ended_size-second.ensures c.ending_size-third.ensures _ c.fits.ensures c.if-fits.true

pub returns : goal.returns
returns c =
    let a = c.args in
    verdict_room a.state.now a.capacity (take a.n a.leaving.now) a.decision a.room (ap stop_number c.in_default.is) _ _ _ c.sizes_of-first.ensures c.ended_size-second.ensures c.ending_size-third.ensures _ c.fits.ensures c.if-fits.false
