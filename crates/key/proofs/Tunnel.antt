-- The bytes of an encapsulation.
use Rattle.std.specs.Prelude.{◌+◌, ◌≡◌, length, Option, Some}
use Rattle.std.proofs.Common.{length-append}
use Rattle.forms.specs.Number.{number_bytes}
use Rattle.forms.specs.Optional.{number32, optional32, optional32_writes}
use Rattle.key.specs.KeyForm.{encapsulation}
use Rattle.key.specs.KeyWrite.{tunnel_writes}
use Rattle.key.specs.declared.encapsulation.Encapsulation.{Encapsulation}

pub tunnel_length : {c : Option Encapsulation} {e : Encapsulation} → c ≡ Some e
    → length (encapsulation.write c) ≡ length (number_bytes (e.kind + 1)) + length (optional32.write e.id)
tunnel_length {c} {e} h = rw (h, tunnel_writes, optional32_writes) (length-append (number_bytes (e.kind + 1)) (number_bytes (number32 e.id)))
