use Rattle.forms.proofs.Written.{wrote_whole}
use Rattle.forms.proofs.lone.write_lone.Goals as goal

pub returns : goal.returns
returns g c = wrote_whole 4 c.write.ensures
