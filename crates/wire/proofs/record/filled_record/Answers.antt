-- `wire::record::filled_record` meets its contract. Assumes nothing.
use Rattle.wire.specs.RecordWrite.{filled_inside, filled_is}
use mathlib.Core.Path.{sym}
use lib.Seq.{length-take-le}
use borrow.Author.Rules.{rules}
use Rattle.wire.proofs.record.filled_record.Goals as goal

pub slice_bounds-result-end : goal.slice_bounds-result-end
slice_bounds-result-end c = sym (length-take-le _ _ (search (filled_inside, rules)))

pub returns : goal.returns
returns c = search (filled_is, rules)
