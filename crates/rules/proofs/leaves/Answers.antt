-- `rules::leaves` meets its contract. Each answer cites a law of `specs/Due.antt`. Assumes nothing.
use mathlib.Core.Logic.{inl, inr}
use mathlib.Core.Path.{sym}
use native.Mathlib.Omega.{arith}
use Rattle.rules.specs.Due.{not_idle, idle_left}
use Rattle.rules.proofs.leaves.Goals as goal

pub returns-then-t-eq0 : goal.returns-then-t-eq0
returns-then-t-eq0 c = sym (not_idle _ _ _ _ (inl c.if-t-eq0.true))

pub returns-then-clock-end : goal.returns-then-clock-end
returns-then-clock-end c =
    let a = c.args in
    sym (not_idle a.end a.t a.l a.clock (inr (omega arith)))

pub returns-then-since-t : goal.returns-then-since-t
returns-then-since-t c =
    let a = c.args in
    sym (not_idle a.end a.t a.l a.clock (inr (omega arith)))

pub returns : goal.returns
returns c =
    let a = c.args in
    idle_left a.end a.t a.l a.clock c.if-t-eq0.false (omega arith)
