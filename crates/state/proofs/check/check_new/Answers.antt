-- `state::check::check_new` meets its contract. Assumes nothing.
use Rattle.state.specs.Check.{new_room, new_checked, new_unsound}
use borrow.Author.Rules.{rules}
use Rattle.state.proofs.check.check_new.Goals as goal

pub insert-requires : goal.insert-requires
insert-requires c =
    let r = new_room _ _ _ _ c.requires.used_asked c.requires.hash_spelt in
    record { index_len = r.0; index_bound = r.1; i_bound = r.2 }

pub returns-then-record_is_sound : goal.returns-then-record_is_sound
returns-then-record_is_sound c = search (new_checked, rules)

pub returns : goal.returns
returns c = search (new_unsound, rules)
