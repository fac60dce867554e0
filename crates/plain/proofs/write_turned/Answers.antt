-- `plain::write_turned` meets its contract: each copy goes behind the one before. Assumes nothing.
use Rattle.plain.proofs.Turned.{turned}
use Rattle.plain.proofs.write_turned.Goals as goal

pub returns : goal.returns
returns c =
    turned _ _ _ c.requires.plain_value _ c.requires.in_bounds c.copy_at.ensures c.copy_at-2.ensures c.copy_at-3.ensures
    c.copy_at-4.ensures c.copy_at-5.ensures c.copy_at-6.ensures c.copy_at-7.ensures c.copy_at-8.ensures
