-- The shard: key.rs's formula, bit for bit, and that a key and its reverse agree.
use Rattle.std.specs.Prelude.{ℕ, ◌*◌, ◌%◌, ◌^◌, ◌≡◌, List, [], ◌∷◌, cond, leb, None, Option, Some, unwrap_or}
use Rattle.std.specs.Int.Bits.{bit_xor}
use Rattle.std.proofs.lemmas.Nat.{xor_comm}
use Rattle.key.specs.Words.{wrapping_mul, rotate_left, shift_right}
use Rattle.key.specs.Endpoints.{port_pair, pair_turned}
use Rattle.key.specs.Key.{reversed_key}
use Rattle.key.specs.declared.key.Address.{Address}
use Rattle.key.specs.declared.key.FlowKey.{FlowKey}
use Rattle.key.specs.declared.vlan.VlanTags.{VlanTags}
use Rattle.key.specs.declared.encapsulation.Encapsulation.{Encapsulation}

-- an address as one number
abbrev pub address_hash : Address → ℕ
address_hash (Address.V4 a) = a
address_hash (Address.V6 high low) = bit_xor high (rotate_left low 17)

-- one endpoint as one number
unfoldable pub endpoint_hash : Address → ℕ → ℕ
endpoint_hash a port = bit_xor (wrapping_mul (address_hash a) 0xC2B2AE3D27D4EB4F) (rotate_left port 48)

-- the tags, outermost first
abbrev pub tags_of : VlanTags → List ℕ
tags_of VlanTags.Untagged = []
tags_of (VlanTags.Single t) = t ∷ []
tags_of (VlanTags.Double t u) = t ∷ u ∷ []

-- the tags folded in order
abbrev pub fold_tags : ℕ → List ℕ → ℕ
fold_tags acc [] = acc
fold_tags acc (t ∷ ts) = fold_tags (bit_xor (rotate_left acc 16) t) ts

unfoldable pub vlan_hash : VlanTags → ℕ
vlan_hash v = fold_tags 0 (tags_of v)

unfoldable pub tunnel_hash : ℕ → Option Encapsulation → ℕ
tunnel_hash value None = value
tunnel_hash value (Some e) = bit_xor (bit_xor value (rotate_left (unwrap_or e.id 0) 32)) e.kind

-- the two endpoints, unordered
unfoldable pub pair_hash : FlowKey → ℕ
pair_hash k = bit_xor (endpoint_hash k.source (port_pair k.endpoints).source) (endpoint_hash k.destination (port_pair k.endpoints).destination)

-- with protocol, EtherType, tags and tunnel
unfoldable pub symmetric_hash : FlowKey → ℕ
symmetric_hash k =
    tunnel_hash
    (bit_xor (bit_xor (bit_xor (wrapping_mul (pair_hash k) 0x9E3779B97F4A7C15) k.protocol) (unwrap_or k.ethertype 0 * 2 ^ 8)) (vlan_hash k.vlan))
    k.encapsulation

unfoldable pub spread : ℕ → ℕ
spread value = wrapping_mul (bit_xor value (shift_right value 33)) 0xFF51AFD7ED558CCD

unfoldable pub final_mix : ℕ → ℕ
final_mix value = bit_xor (spread value) (shift_right (spread value) 29)

-- one shard, or none: 0; else the mix by its remainder
unfoldable pub shard_of : FlowKey → ℕ → ℕ
shard_of k shards = cond (leb shards 1) 0 (final_mix (symmetric_hash k) % shards)

-- ---- a key and its reverse have the same shard, associations included

pair_symmetric : (k : FlowKey) → pair_hash (reversed_key k) ≡ pair_hash k
unfolding pair_hash
pair_symmetric k =
    rw (pair_turned k.endpoints)
    (xor_comm (endpoint_hash k.destination (port_pair k.endpoints).destination) (endpoint_hash k.source (port_pair k.endpoints).source))

pub same_shard : (k : FlowKey) (shards : ℕ) → shard_of (reversed_key k) shards ≡ shard_of k shards
unfolding shard_of symmetric_hash
same_shard k shards = rw (pair_symmetric k)
