-- `packet::steady::take_steady` meets its contract. Assumes nothing.
use Rattle.packet.proofs.Counted.{steady_size, steady_due, steady_found_in, steady_counts, due_left, other_left, counted_steady}
use native.Mathlib.Omega.{arith}
use borrow.Author.Rules.{rules}
use Rattle.packet.proofs.steady.take_steady.Goals as goal

pub nothing_due-requires : goal.nothing_due-requires
nothing_due-requires c =
    steady_due _ _ _ _ _ _ _ _ c.requires

pub returns-then-not-nothing_due : goal.returns-then-not-nothing_due
returns-then-not-nothing_due c =
    due_left _ _ _ _ _ _ c.load_header-header.ensures _ c.clock_at-clock.ensures _ c.nothing_due.ensures c.if-not-nothing_due.true

pub stays_open-requires : goal.stays_open-requires
stays_open-requires c =
    steady_found_in _ _ _ _ _ _ _ _ c.requires _ _ _ _ _ _ _ c.choose_plain-choice.ensures

pub returns-in_default : goal.returns-in_default
returns-in_default c =
    other_left _ _ _ _ _ _ c.load_header-header.ensures _ c.clock_at-clock.ensures _ c.nothing_due.ensures _ _ _
    c.choose_plain-choice.ensures _ c.stays_open.ensures c.in_default.is

pub count_at-requires : goal.count_at-requires
count_at-requires c =
    steady_counts _ _ _ _ _ _ _ _ c.requires _ _ _ _ _ _ _ c.choose_plain-choice.ensures _ c.stays_open.ensures _
    c.in-Some.is

pub store_clock-requires : goal.store_clock-requires
store_clock-requires c =
    omega (arith, c.state-1.given, steady_size _ _ _ _ _ _ _ _ c.requires)

pub returns : goal.returns
returns c =
    counted_steady _ _ _ _ _ _ c.load_header-header.ensures _ c.clock_at-clock.ensures _ c.nothing_due.ensures _ _ _
    c.choose_plain-choice.ensures _ c.stays_open.ensures _ c.in-Some.is c.if-not-nothing_due.false c.requires.in_range
    (search (c.clock_at-clock.type_inv, rules)) _ _ c.count_at.ensures c.store_clock.ensures
