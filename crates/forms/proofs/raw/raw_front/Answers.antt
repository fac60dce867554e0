use Rattle.std.proofs.Common.{arith}
use Rattle.forms.specs.Raw.{raw_short}
use Rattle.forms.proofs.raw.raw_front.Goals as goal

pub returns-then-s-n-clause-form : goal.returns-then-s-n-clause-form
returns-then-s-n-clause-form c = raw_short c.args.s.now (λ k h. omega (arith, c.type_inv.s k)) 0 c.args.n (omega arith) (omega arith)
