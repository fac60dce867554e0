-- `braidpuddle_forms::facts::facts_fit` meets its contract. Assumes nothing.
use Rattle.braidpuddle_forms.specs.Facts.{facts_fit}
use Rattle.braidpuddle_forms.proofs.facts.facts_fit.Goals as goal

pub returns : goal.returns
unfolding facts_fit
returns c = cc
