use Rattle.std.specs.Prelude.{ℕ, List}
use Rattle.std.proofs.Common.{ap, ◌∙◌}
use Rattle.std.proofs.lemmas.List.Edits.{sets}
use Rattle.forms.proofs.Written.{buffered}
use Rattle.forms.proofs.lone.put_short.Goals as goal

pub returns : goal.returns
returns g c = c.store_first.ensures ∙ ap (λ (l : List ℕ). sets c.args.out.now c.args.at l) (buffered c.write-len.ensures)
