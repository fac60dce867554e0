-- The schema, and the length of a record's tail.
use Rattle.std.specs.Prelude.{ℕ, ◌+◌, ◌≡◌, refl, List, length, cond}
use Rattle.std.proofs.Common.{◌∙◌, arith, length-append, ne_eqb}
use Rattle.forms.specs.Form.{got, stop, and_then, byte, one, one_of_byte, over_reads}
use Rattle.forms.specs.Number.{number, number_writes}
use Rattle.forms.specs.Optional.{optional8, optional16, optional8_writes, optional16_writes}
use Rattle.forms.specs.declared.stop.Stop.{Stop}
use Rattle.wire.specs.RecordForm.{is_schema, schema, schema_undo, tail}
use Rattle.wire.specs.RecordWrite.{bit_one, tail_writes}
use Rattle.wire.specs.declared.record.TailFields.{TailFields}

schema_is : (s : List ℕ) → schema.read s ≡ and_then (and_then (byte.read s) (λ b rest. cond (is_schema b) (got b rest) (stop Stop.Refused))) (λ b rest. got tt rest)
unfolding schema
schema_is s = over_reads (λ b. tt) (λ u. 1) (one is_schema 1 refl) schema_undo s ∙ rw (one_of_byte is_schema 1 refl s) refl

module _ (s : List ℕ) where
  pub schema_one : (rest : List ℕ) → got 1 rest ≡ byte.read s → got tt rest ≡ schema.read s
  schema_one rest e = rw (schema_is s, ← e) refl

  pub schema_other : (t : ℕ) (rest : List ℕ) → got t rest ≡ byte.read s → (t ≡ 1 → ⊥) → stop Stop.Refused ≡ schema.read s
  schema_other t rest e h = rw (schema_is s, ← e, ne_eqb t 1 h) refl

  pub schema_stop : (why : Stop) → stop why ≡ byte.read s → stop why ≡ schema.read s
  schema_stop why e = rw (schema_is s, ← e) refl

pub tail_length : (t : TailFields) → length (tail.write t)
    ≡ length (optional8.write t.least_ttl) + length (optional8.write t.greatest_ttl) + length (optional8.write t.dscp) + length (optional8.write t.ecn)
    + length ((optional16 65535).write t.icmp) + length ((number 18446744073709551615).write t.captured_octets) + 1
tail_length t = rw tail_writes (simp (length-append, optional8_writes, optional16_writes, number_writes) (omega (arith, bit_one t.truncated)))
