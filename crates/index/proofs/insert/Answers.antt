-- `index::insert` meets its contract. Assumes nothing.
use Rattle.index.proofs.Look.{look_goes_on}
use Rattle.index.proofs.insert.Goals as goal

pub loop-place-preserved : goal.loop-place-preserved
loop-place-preserved c =
    let same = c.loop-place.invariant.0 in
    (same, look_goes_on c.requires.index_len c.requires.index_bound c.loop-place.invariant.1 (rw same at c.if-index-place-eq0.false))
