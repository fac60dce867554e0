use Rattle.std.specs.Prelude.{None, Option, Some}
use Rattle.words.specs.FieldLaws.{present_at}
-- `words::fields::opt_u8_at` meets its contract. Assumes nothing.
use borrow.Author.Rules.{rules}
use Rattle.words.proofs.fields.opt_u8_at.Goals as goal

pub returns : goal.returns
returns c = search (present_at None Some, rules)
