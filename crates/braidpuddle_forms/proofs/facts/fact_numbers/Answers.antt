-- `braidpuddle_forms::facts::fact_numbers` meets its contract. Assumes nothing.
use Rattle.braidpuddle_forms.proofs.facts.fact_numbers.Goals as goal

pub returns : goal.returns
returns c = cc
