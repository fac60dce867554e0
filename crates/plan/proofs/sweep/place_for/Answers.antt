-- `plan::sweep::place_for` meets its contract. Assumes nothing.
use Rattle.plan.specs.Steps.{Fits}
use Rattle.plan.proofs.Looking.{asked_back}
use borrow.Author.Rules.{rules}
use Rattle.plan.proofs.sweep.place_for.Goals as goal

pub rposition-last-requires-clause-callable : goal.rposition-last-requires-clause-callable
rposition-last-requires-clause-callable c =
    asked_back (Fits c.args.state.now) (search rules) (λ x q k. search rules) (λ x h. search rules)
