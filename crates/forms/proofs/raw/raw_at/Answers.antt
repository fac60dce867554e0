-- `forms::raw::raw_at` meets its contract. Assumes nothing.
use native.Mathlib.Omega.{arith}
use mathlib.Core.Path.{◌≡◌}
use Rattle.forms.specs.Field.{raw_fits}
use Rattle.forms.specs.Raw.{raw_at_first, raw_at_more}
use Rattle.forms.proofs.raw.raw_at.Goals as goal

pub loop-i-init : goal.loop-i-init
loop-i-init c = (omega arith, omega arith, raw_at_first (omega arith) c.wide-value.ensures.0 c.wide-value.ensures.1)

pub overflow_mul-value : goal.overflow_mul-value
overflow_mul-value c =
    let l = c.loop-i in
    omega (arith, raw_fits l.value 0 l.i l.invariant.2.below (omega arith) (omega arith))

pub overflow_add-value : goal.overflow_add-value
overflow_add-value c =
    let l = c.loop-i in
    record { fits = raw_fits l.value c.wide.result l.i l.invariant.2.below (omega arith) (omega arith) }

pub loop-i-preserved : goal.loop-i-preserved
loop-i-preserved c =
    let l = c.loop-i in
    (omega arith, omega arith, raw_at_more l.invariant.2 (omega arith) (omega arith) c.wide.ensures.0 c.wide.ensures.1)

pub returns : goal.returns
returns c =
    let l = c.loop-i in
    let all : l.i ≡ c.args.n = omega arith in
    rw all at l.invariant.2
