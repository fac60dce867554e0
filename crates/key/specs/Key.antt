-- Key (document 01, and key.rs where it says "as key.rs gives"), with the laws of reversal.
use Rattle.std.specs.Prelude.{ℕ, ◌≡◌, refl, List, [], ◌∷◌, cond, eqb, None, Option, Some}
use Rattle.std.proofs.Common.{ap}
use Rattle.key.specs.Endpoints.{has_reverse_direction, reversed_endpoints, endpoints_twice, endpoints_both}
use Rattle.key.specs.declared.key.Address.{Address}
use Rattle.key.specs.declared.key.Endpoints.{Endpoints}
use Rattle.key.specs.declared.key.FlowKey.{FlowKey}

-- "Reversal changes over addresses, ports and MACs only."
abbrev pub reversed_key : FlowKey → FlowKey
reversed_key k = record {
  source = k.destination;
  destination = k.source;
  endpoints = reversed_endpoints k.endpoints;
  protocol = k.protocol;
  ethertype = k.ethertype;
  source_mac = k.destination_mac;
  destination_mac = k.source_mac;
  vlan = k.vlan;
  encapsulation = k.encapsulation;
}

-- "Forgetting link addresses sets both MACs to zero."
abbrev pub forgotten : FlowKey → FlowKey
forgotten k = record {
  source = k.source;
  destination = k.destination;
  endpoints = k.endpoints;
  protocol = k.protocol;
  ethertype = k.ethertype;
  source_mac = record { high = 0; low = 0 };
  destination_mac = record { high = 0; low = 0 };
  vlan = k.vlan;
  encapsulation = k.encapsulation;
}

-- ---- the protocol's name

-- the number of a protocol's name, as key.rs tells them apart
abbrev pub name_of : ℕ → ℕ
name_of p =
    cond (eqb p 1) 2
    (cond (eqb p 2) 3
    (cond (eqb p 6) 4
    (cond (eqb p 17) 5
    (cond (eqb p 41) 6
    (cond (eqb p 47) 7
    (cond (eqb p 50) 8
    (cond (eqb p 51) 9
    (cond (eqb p 58) 10
    (cond (eqb p 89) 11
    (cond (eqb p 112) 12
    (cond (eqb p 132) 13 0)))))))))))

-- the bytes of the name that a number stands for; 0 has none
pub name_bytes : ℕ → List ℕ
name_bytes n =
    cond (eqb n 1) (0x61 ∷ 0x72 ∷ 0x70 ∷ [])  -- arp
    (cond (eqb n 2) (0x69 ∷ 0x63 ∷ 0x6d ∷ 0x70 ∷ [])  -- icmp
    (cond (eqb n 3) (0x69 ∷ 0x67 ∷ 0x6d ∷ 0x70 ∷ [])  -- igmp
    (cond (eqb n 4) (0x74 ∷ 0x63 ∷ 0x70 ∷ [])  -- tcp
    (cond (eqb n 5) (0x75 ∷ 0x64 ∷ 0x70 ∷ [])  -- udp
    (cond (eqb n 6) (0x69 ∷ 0x70 ∷ 0x76 ∷ 0x36 ∷ [])  -- ipv6
    (cond (eqb n 7) (0x67 ∷ 0x72 ∷ 0x65 ∷ [])  -- gre
    (cond (eqb n 8) (0x65 ∷ 0x73 ∷ 0x70 ∷ [])  -- esp
    (cond (eqb n 9) (0x61 ∷ 0x68 ∷ [])  -- ah
    (cond (eqb n 10) (0x69 ∷ 0x63 ∷ 0x6d ∷ 0x70 ∷ 0x76 ∷ 0x36 ∷ [])  -- icmpv6
    (cond (eqb n 11) (0x6f ∷ 0x73 ∷ 0x70 ∷ 0x66 ∷ [])  -- ospf
    (cond (eqb n 12) (0x76 ∷ 0x72 ∷ 0x72 ∷ 0x70 ∷ [])  -- vrrp
    (cond (eqb n 13) (0x73 ∷ 0x63 ∷ 0x74 ∷ 0x70 ∷ []) []))))))))))))

-- ARP's name by its EtherType, else that of the protocol number
abbrev pub name_under : ℕ → Option ℕ → ℕ
name_under p None = name_of p
name_under p (Some t) = cond (eqb t 0x0806) 1 (name_of p)

abbrev pub key_name : FlowKey → ℕ
key_name k = name_under k.protocol k.ethertype

-- ---- the IP version: none where there is an EtherType, else by the source address

abbrev pub family_of : Address → Option ℕ
family_of (Address.V4 a) = Some 4
family_of (Address.V6 h l) = Some 6

abbrev pub version_under : Address → Option ℕ → Option ℕ
version_under a None = family_of a
version_under a (Some t) = None

abbrev pub version_of : FlowKey → Option ℕ
version_of k = version_under k.source k.ethertype

-- ---- laws of reversal

-- a key with other endpoints
with_endpoints : FlowKey → Endpoints → FlowKey
with_endpoints k e = record {
  source = k.source;
  destination = k.destination;
  endpoints = e;
  protocol = k.protocol;
  ethertype = k.ethertype;
  source_mac = k.source_mac;
  destination_mac = k.destination_mac;
  vlan = k.vlan;
  encapsulation = k.encapsulation;
}

-- reversing twice is the identity
pub reversed_twice : (k : FlowKey) → reversed_key (reversed_key k) ≡ k
unfolding with_endpoints
reversed_twice k = ap (with_endpoints k) (endpoints_twice k.endpoints)

-- reversal leaves protocol, EtherType, VLAN and encapsulation alone
pub record SameSegment (k r : FlowKey) : Type 0 where
  pub protocol : r.protocol ≡ k.protocol
  pub ethertype : r.ethertype ≡ k.ethertype
  pub vlan : r.vlan ≡ k.vlan
  pub encapsulation : r.encapsulation ≡ k.encapsulation

pub reversal_stays : (k : FlowKey) → SameSegment k (reversed_key k)
reversal_stays k = record { protocol = refl; ethertype = refl; vlan = refl; encapsulation = refl }

-- a key and its reverse are both associations or neither
pub reversal_both : (k : FlowKey) → has_reverse_direction (reversed_key k).endpoints ≡ has_reverse_direction k.endpoints
reversal_both k = endpoints_both k.endpoints
