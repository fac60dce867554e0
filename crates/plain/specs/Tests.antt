-- What plain_at looks at: the bytes that every plain key has, and the numbers that its hash is made of. Assumes nothing.
use Rattle.std.specs.Prelude.{ℕ, ◌+◌, Bool, ◌&&◌, List, ltb, leb, eqb, length, get_or, None}
use Rattle.key.specs.Shard.{shard_of}
use Rattle.key.specs.declared.key.Address.{Address}
use Rattle.key.specs.declared.key.Endpoints.{Endpoints}
use Rattle.key.specs.declared.key.FlowKey.{FlowKey}
use Rattle.key.specs.declared.link.MacAddress.{MacAddress}
use Rattle.key.specs.declared.vlan.VlanTags.{VlanTags}
use Rattle.key.specs.KeyOr.{no_mac}

-- there is room for a plain key, of at least 29 bytes, and its first three stand here: protocol, no EtherType, ports
unfoldable pub head_is_plain : List ℕ → ℕ → Bool
head_is_plain s at = leb (at + 29) (length s) && (ltb (get_or s at 0) 128 && eqb (get_or s (at + 1) 0) 0 && eqb (get_or s (at + 2) 0) 1)

-- the 24 bytes behind a plain key's ports stand here: two IPv4 addresses, two MACs, no VLAN tag, no tunnel
unfoldable pub tail_is_plain : List ℕ → ℕ → Bool
tail_is_plain s at =
    leb (at + 24) (length s)
    && (eqb (get_or s at 0) 4 && eqb (get_or s (at + 5) 0) 4 && eqb (get_or s (at + 22) 0) 0 && eqb (get_or s (at + 23) 0) 0)

-- the plain key of a protocol, two ports, two addresses and two MACs
abbrev pub plain_key : ℕ → ℕ → ℕ → ℕ → ℕ → MacAddress → MacAddress → FlowKey
plain_key p f g a b m n =
    record {
      source = Address.V4 a;
      destination = Address.V4 b;
      endpoints = Endpoints.Ports f g;
      protocol = p;
      ethertype = None;
      source_mac = m;
      destination_mac = n;
      vlan = VlanTags.Untagged;
      encapsulation = None;
    }

-- its hash, in the order in which the code hands over its numbers; whatever the MACs are, it is this one
unfoldable pub plain_hash : ℕ → ℕ → ℕ → ℕ → ℕ → ℕ
plain_hash p a f b g = shard_of (plain_key p f g a b no_mac no_mac) 524288
