-- `plain::plain_at` meets its contract: a plain key passes each test, and what passes them all is one. Assumes nothing.
use Rattle.plain.proofs.Seeing.{other_head, other_first, other_second, other_tail, plain_made}
use Rattle.plain.proofs.Seeing.{head_says, tail_says, value_read, value_fits, value_inside}
use native.Mathlib.Omega.{arith}
use mathlib.Core.Path.{◌∙◌}
use Rattle.plain.proofs.plain_at.Goals as goal

pub returns-then-not-head_is_plain : goal.returns-then-not-head_is_plain
returns-then-not-head_is_plain c = other_head _ _ c.head_is_plain.ensures c.if-not-head_is_plain.true

pub returns-in_err-first : goal.returns-in_err-first
returns-in_err-first c =
    c.from_residual.ensures
    ∙ other_first _ _ c.read_number.result c.read_number.ensures c.ok.ensures.value c.in_err-first.was

pub returns-in_err-second : goal.returns-in_err-second
returns-in_err-second c =
    c.from_residual-in_err-second.ensures
    ∙ other_second _ _ _ _ (value_read _ _ c.read_number.result c.read_number.ensures c.ok.ensures.value c.in_ok-first.was)
    c.read_number-2.result
    c.read_number-2.ensures
    c.ok-2.ensures.value
    c.in_err-second.was

pub tail_is_plain-requires : goal.tail_is_plain-requires
tail_is_plain-requires c =
    value_inside _ _ c.read_number-2.result c.read_number-2.ensures c.ok-2.ensures.value c.in_ok-second.was

pub returns-then-not-tail_is_plain : goal.returns-then-not-tail_is_plain
returns-then-not-tail_is_plain c =
    other_tail _ _ _ _ (value_read _ _ c.read_number.result c.read_number.ensures c.ok.ensures.value c.in_ok-first.was) _ _
    (value_read _ _ c.read_number-2.result c.read_number-2.ensures c.ok-2.ensures.value c.in_ok-second.was)
    c.tail_is_plain.ensures
    c.if-not-tail_is_plain.true

pub overflow_cast-first : goal.overflow_cast-first
overflow_cast-first c =
    omega (arith, value_fits _ _ c.read_number.result c.read_number.ensures c.ok.ensures.value c.in_ok-first.was)

pub overflow_cast-second : goal.overflow_cast-second
overflow_cast-second c =
    omega (arith, value_fits _ _ c.read_number-2.result c.read_number-2.ensures c.ok-2.ensures.value c.in_ok-second.was)

pub returns : goal.returns
returns c =
    plain_made _ (λ k h. omega (arith, c.type_inv.s k)) _ _ _ _ _ _ _
    (head_says _ _ c.head_is_plain.ensures c.if-not-head_is_plain.false)
    (value_read _ _ c.read_number.result c.read_number.ensures c.ok.ensures.value c.in_ok-first.was)
    (value_read _ _ c.read_number-2.result c.read_number-2.ensures c.ok-2.ensures.value c.in_ok-second.was)
    (tail_says _ _ c.tail_is_plain.ensures c.if-not-tail_is_plain.false)
    c.address_at-source.ensures
    c.address_at-destination.ensures
    c.hash_of.ensures
