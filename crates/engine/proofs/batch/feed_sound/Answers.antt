-- `engine::batch::feed_sound` meets its contract. Assumes nothing.
use Rattle.engine.specs.FeedCall.{call_asked}
use borrow.Author.Rules.{rules}
use Rattle.engine.proofs.batch.feed_sound.Goals as goal

pub feed_all-requires : goal.feed_all-requires
feed_all-requires c = search (call_asked, rules)
