-- Writing a number by a loop: what is written so far ends at `at`, and `rest` is still to come.
use Rattle.std.specs.Prelude.{ℕ, ◌+◌, ◌/◌, ◌%◌, ◌≤◌, ◌<◌, ◌≡◌, refl, List, length, set}
use Rattle.std.proofs.Common.{ap, ◌∙◌, arith}
use Rattle.std.proofs.lemmas.List.{length-set}
use Rattle.forms.specs.Put.{written, Writes}
use Rattle.forms.specs.Number.{number_bytes, bytes_small, bytes_large}
use Rattle.forms.specs.Length.{number_at_least}
use Rattle.forms.proofs.Written.{written_byte, written_more}

pub record Writing (start value : ℕ) (old : List ℕ) (at rest : ℕ) (out : List ℕ) : Type 0 where
  pub count : at + length (number_bytes rest) ≡ start + length (number_bytes value)
  pub room : at + length (number_bytes rest) ≤ length out
  pub ends : written at (number_bytes rest) out ≡ written start (number_bytes value) old

pub writing_start : (start value : ℕ) (old : List ℕ) → start + length (number_bytes value) ≤ length old → Writing start value old start value old
writing_start start value old h = record { count = refl; room = h; ends = refl }

module _ {start value at rest : ℕ} {old out : List ℕ} (w : Writing start value old at rest out) where
  pub writing_inside : at < length out
  writing_inside = omega (arith, w.room, number_at_least rest)

  pub writing_next : 128 ≤ rest → Writing start value old (at + 1) (rest / 128) (set out at (rest % 128 + 128))
  writing_next h =
      let is = bytes_large rest h in
      record {
        count = omega (arith, w.count, ap length is);
        room = rw length-set (omega (arith, w.room, ap length is));
        ends = written_more at (rest % 128 + 128) (number_bytes (rest / 128)) out writing_inside ∙ rw is at w.ends;
      }

  pub writing_last : rest < 128 → start + length (number_bytes value) ≤ length old → Writes start (number_bytes value) old (set out at rest) (at + 1)
  writing_last h room =
      let is = bytes_small rest h in
      record { room = room; stored = written_byte at rest out writing_inside ∙ rw is at w.ends; ends = omega (arith, w.count, ap length is) }
