-- What holds of a plain key, for those who build on it. Assumes nothing.
use Rattle.std.specs.Prelude.{ℕ, ◌-◌, ◌≤◌, ◌≡◌, List, true, length, take, drop, Some}
use Rattle.std.proofs.Common.{sym, ap, ◌∙◌, arith}
use Rattle.forms.specs.Form.{got}
use Rattle.forms.specs.At.{read_at}
use Rattle.key.specs.Endpoints.{has_reverse_direction}
use Rattle.key.specs.Key.{reversed_key}
use Rattle.key.specs.KeyForm.{key}
use Rattle.key.specs.Shard.{shard_of}
use Rattle.plain.specs.Plain.{plain_at, key_read}
use Rattle.key.specs.KeyOr.{key_or}
use Rattle.plain.specs.Tests.{plain_key}
use Rattle.plain.specs.Laid.{plain_writes, plain_length, Seen, seen, part_is}
use Rattle.plain.specs.declared.Plain.{Plain}

-- the key of one that was seen
pub key_seen : {s : List ℕ} {at : ℕ} {p : Plain} (h : Seen s at p)
    → key_read s at ≡ plain_key h.protocol h.first h.second h.source h.destination h.source_mac_lem h.destination_mac_lem
unfolding key_read
key_seen h = ap key_or h.reads

module _ (s : List ℕ) (at : ℕ) {p : Plain} (plain : plain_at s at ≡ Some p) where
  h : Seen s at p
  h = seen s at p plain

  -- it is read there, and ends at `next`
  pub plain_read : read_at key s at ≡ got (key_read s at) p.next
  plain_read = rw (key_seen h) h.reads

  pub plain_hash_lem : p.hash ≡ shard_of (key_read s at) 524288
  plain_hash_lem = rw (key_seen h) (ap (λ (x : Plain). x.hash) h.is)

  -- traffic the other way belongs to the same flow
  pub plain_two_way : has_reverse_direction (key_read s at).endpoints ≡ true
  plain_two_way = rw (key_seen h)

  pub plain_order : at ≤ p.next
  plain_order = omega (arith, h.long)

  pub plain_inside : p.next ≤ length s
  plain_inside = h.inside

  -- its bytes
  pub plain_bytes_lem : take (p.next - at) (drop at s) ≡ key.write (key_read s at)
  plain_bytes_lem =
      let rest = drop p.next s in
      let m = h.source_mac_lem in
      let n = h.destination_mac_lem in
      let size = plain_length h.protocol h.first h.second h.source h.destination m n h.small in
      let bytes = plain_writes h.protocol h.first h.second h.source h.destination m n h.small rest in
      rw (key_seen h) (part_is s at _ rest (h.bytes ∙ sym bytes) (p.next - at) (omega (arith, h.long)))

  -- the reversed key has as many
  pub turned_length : length (key.write (reversed_key (key_read s at))) ≡ p.next - at
  turned_length =
      let m = h.destination_mac_lem in
      let n = h.source_mac_lem in
      let size = plain_length h.protocol h.second h.first h.destination h.source m n h.small in
      rw (key_seen h) (omega (arith, h.long))
