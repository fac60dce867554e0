-- `state::check::check_place` meets its contract. Assumes nothing.
use Rattle.state.specs.Check.{place_used, place_free, place_asks, place_pushes}
use Rattle.state.proofs.check.check_place.Goals as goal

pub check_used-requires : goal.check_used-requires
check_used-requires c = place_asks _ _ _ _ c.requires

pub returns-then-state-i-eq1 : goal.returns-then-state-i-eq1
returns-then-state-i-eq1 c = place_used _ _ _ _ c.requires c.if-state-i-eq1.true _ _ c.check_used.ensures

pub push-requires : goal.push-requires
push-requires c = place_pushes _ _ _ _ c.requires

pub returns : goal.returns
returns c = place_free _ _ _ _ c.requires c.if-state-i-eq1.false _ c.push.ensures
