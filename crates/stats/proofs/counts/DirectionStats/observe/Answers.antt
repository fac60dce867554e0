-- `stats::counts::DirectionStats::observe` meets its contract: no sum wraps by what is required, and range and flags are what the callees answer. Assumes nothing.
use Rattle.stats.proofs.Numbers.{widened_is}
use Rattle.stats.proofs.counts.DirectionStats.observe.Goals as goal

pub returns : goal.returns
returns c = rw (c.observe.ensures, c.count.ensures, widened_is)
