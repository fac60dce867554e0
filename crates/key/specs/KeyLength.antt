-- How many bytes a key takes, part by part.
use Rattle.std.specs.Prelude.{ℕ, ◌≡◌, length}
use Rattle.std.proofs.Common.{arith, length-append}
use Rattle.forms.specs.Form.{raw, raw_length}
use Rattle.forms.specs.Length.{Sized}
use Rattle.key.specs.KeyForm.{address, mac}
use Rattle.key.specs.KeyWrite.{v4_writes, v6_writes, mac_writes}
use Rattle.key.specs.declared.key.Address.{Address}
use Rattle.key.specs.declared.key.Address.TheVariants.{V4, V6}
use Rattle.key.specs.declared.link.MacAddress.{MacAddress}

module _ {a : Address} where
  pub v4_sized : {w : ℕ} → a ≡ V4 w → Sized (address.write a) 17 5
  v4_sized {w} h = record { length_is = rw (h, v4_writes) (omega (arith, raw_length 4 w)); fits = omega arith }

  pub v6_sized : {x y : ℕ} → a ≡ V6 x y → Sized (address.write a) 17 17
  v6_sized {x} {y} h =
      record { length_is = rw (h, v6_writes) (omega (arith, length-append ((raw 8).write x) ((raw 8).write y), raw_length 8 x, raw_length 8 y)); fits = omega arith }

pub mac_sized : (m : MacAddress) → length (mac.write m) ≡ 6
mac_sized m = rw mac_writes (omega (arith, length-append ((raw 2).write m.high) ((raw 4).write m.low), raw_length 2 m.high, raw_length 4 m.low))
