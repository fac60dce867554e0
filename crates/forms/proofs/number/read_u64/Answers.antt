use Rattle.forms.specs.Nine.{is_nine_lem}
use borrow.Author.Rules.{rules}
use Rattle.forms.proofs.number.read_u64.Goals as goal

pub nine_groups-requires : goal.nine_groups-requires
nine_groups-requires c = search (is_nine_lem, rules)
