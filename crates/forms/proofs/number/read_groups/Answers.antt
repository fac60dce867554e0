-- `forms::number::read_groups` meets its contract. The invariant is `Reading`: what is read so far, and the bounds on what is still to come. Assumes nothing.
use Prim.Native.Nat.{◌-◌}
use native.Mathlib.Omega.{arith}
use borrow.Author.Rules.{rules}
use Rattle.forms.specs.Number.{number_reads}
use Rattle.forms.specs.Loop.{reading_start, reading_end, reading_room, reading_low, reading_high, reading_last, reading_next}
use Rattle.forms.proofs.number.read_groups.Goals as goal

pub loop-i-init : goal.loop-i-init
loop-i-init c = reading_start _ _ _

pub returns-then-b-least : goal.returns-then-b-least
returns-then-b-least c = rw number_reads (search (reading_low, rules))

pub returns-then-room-b : goal.returns-then-room-b
returns-then-room-b c = rw number_reads (search (reading_high, rules))

pub overflow_mul-result : goal.overflow_mul-result
overflow_mul-result c =
    let l = c.loop-i in
    let b = c.wide-b.result in
    omega (arith, reading_room l.invariant b (omega arith))

pub overflow_add-result : goal.overflow_add-result
overflow_add-result c =
    let l = c.loop-i in
    let b = c.wide-b.result in
    omega (arith, reading_room l.invariant b (omega arith))

pub returns-then-b-lt128 : goal.returns-then-b-lt128
returns-then-b-lt128 c = rw number_reads (search (reading_last, rules))

pub overflow_mul-value : goal.overflow_mul-value
overflow_mul-value c =
    let l = c.loop-i in
    let b = c.wide-b.result in
    omega (arith, reading_room l.invariant (b - 128) (omega arith))

pub overflow_add-value : goal.overflow_add-value
overflow_add-value c =
    let l = c.loop-i in
    let b = c.wide-b.result in
    omega (arith, reading_room l.invariant (b - 128) (omega arith))

pub overflow_mul-scale : goal.overflow_mul-scale
overflow_mul-scale c =
    let l = c.loop-i in
    omega (arith, reading_room l.invariant 128 (omega arith))

pub loop-i-preserved : goal.loop-i-preserved
loop-i-preserved c = search (reading_next, rules)

pub returns : goal.returns
returns c = rw number_reads (search (reading_end, rules))
