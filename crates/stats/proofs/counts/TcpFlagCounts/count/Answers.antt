-- `stats::counts::TcpFlagCounts::count` meets its contract: nine sums, each of which fits by what is required. Assumes nothing.
use mathlib.Core.Path.{refl}
use Rattle.stats.proofs.counts.TcpFlagCounts.count.Goals as goal

pub returns : goal.returns
returns c = refl
