-- `replay::input::read_more` meets its contract. Assumes nothing.
use native.Mathlib.Omega.{arith}
use Rattle.replay.specs.Input.{came_within, brought}
use Rattle.replay.proofs.Laws.{refilled}
use borrow.Author.Rules.{rules}
use Rattle.replay.proofs.input.read_more.Goals as goal

pub returns : goal.returns
returns c =
    let moved = c.move_to_front-kept in
    let inside = came_within c.read-got.result c.unwrap_or-came.result c.read-got.new.buf c.read-got.ensures.bound c.unwrap_or-came.ensures in
    refilled _ _ _ c.read-got.new.buf _ _ _ c.requires moved.ensures.0 moved.ensures.1 (search rules) (omega arith) (search rules)
    (λ g.
    let some = brought c.read-got.result _ _ c.source_after-source.ensures c.unwrap_or-came.ensures g in
    omega arith)
