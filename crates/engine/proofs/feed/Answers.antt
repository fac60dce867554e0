-- `engine::feed` meets its contract. Assumes nothing.
use Rattle.sweeps.specs.StateLaws.{checked_ready}
use Rattle.engine.specs.FeedCall.{fed_sound, fed_damaged}
use borrow.Author.Rules.{rules}
use Rattle.engine.proofs.feed.Goals as goal

pub feed_sound-requires : goal.feed_sound-requires
feed_sound-requires c = checked_ready _ _ _ _ c.check.ensures c.if-check.true

pub returns-then-check : goal.returns-then-check
returns-then-check c = search (fed_sound, rules)

pub returns : goal.returns
returns c = search (fed_damaged, rules)
