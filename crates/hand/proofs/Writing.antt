-- One record at the front of the output. Assumes nothing.
use Rattle.std.specs.Prelude.{Option, Some}
use Rattle.std.specs.Option.{unwrap_or}
use Prim.Native.Nat.{ℕ, ◌≤◌}
use mathlib.Core.Path.{◌≡◌, refl, ap, ◌∙◌}
use mathlib.Core.List.{List}
use native.Mathlib.Nat.{zero-add}
use borrow.Author.Tests.{le-leb}
use lib.ListN.{length}
use Rattle.memory.proofs.Laws as Memory
use Rattle.forms.specs.Put.{Put, put_front}
use Rattle.wire.specs.declared.record.Flow.{Flow}
use Rattle.wire.specs.RecordForm.{record_bytes}
use Rattle.hand.specs.Act.{Wrote}

module _ (f : Flow) (room out : List ℕ) (place : Option ℕ) (fits : length (record_bytes f) ≤ length room) (put : Put room (Some 0) (record_bytes f) out place) where
  -- the place behind the record
  is_behind : place ≡ Some (length (record_bytes f))
  is_behind = put.next ∙ rw (zero-add (length (record_bytes f)), le-leb (length (record_bytes f)) (length room) fits)

  pub wrote_flow : (n : ℕ) → n ≡ unwrap_or place 0 → Wrote f room out n
  wrote_flow n e = record {
    output = put_front put fits ∙ Memory.put_front room (record_bytes f) (length (record_bytes f)) refl;
    bytes = e ∙ ap (λ (p : Option ℕ). unwrap_or p 0) is_behind;
  }
