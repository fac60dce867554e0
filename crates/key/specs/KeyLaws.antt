-- What each `return` of key.rt answers, from what its match, its tests and its calls give. Assumes nothing.
use Rattle.std.specs.Prelude.{ℕ, ◌%◌, ◌≤◌, ◌<◌, ◌≡◌, refl, None, Option, Some, unwrap_or}
use Rattle.std.proofs.Common.{le-leb, ne_eqb}
use Rattle.std.proofs.lemmas.Bool.{lt-leb}
use Rattle.std.specs.Int.Bits.{bit_xor, xor_zero_l}
use Rattle.key.specs.Words.{rotate_left}
use Rattle.key.specs.Endpoints.{ports_of, port_pair, security_association_of, gre_protocol_of, reversed_endpoints}
use Rattle.key.specs.Key.{reversed_key, name_of, name_under}
use Rattle.key.specs.Shard.{address_hash, endpoint_hash, vlan_hash, tunnel_hash, pair_hash, symmetric_hash, final_mix, shard_of}
use Rattle.key.specs.declared.encapsulation.Encapsulation.{Encapsulation}
use Rattle.key.specs.declared.key.Address.{Address}
use Rattle.key.specs.declared.key.Endpoints.{Endpoints}
use Rattle.key.specs.declared.key.Endpoints.TheVariants.{Ports, SecurityAssociation, GreProtocol, None}
use Rattle.key.specs.declared.key.FlowKey.{FlowKey}
use Rattle.key.specs.declared.key.PortPair.{PortPair}
use Rattle.key.specs.declared.vlan.VlanTags.{VlanTags}

-- ---- endpoints

pub ports_of_lem : {e : Endpoints} {s d : ℕ} → e ≡ Ports s d → Some (record { source = s; destination = d }) ≡ ports_of e
ports_of_lem e = rw e

pub association_of : {e : Endpoints} {spi : ℕ} → e ≡ SecurityAssociation spi → Some spi ≡ security_association_of e
association_of e = rw e

pub gre_of : {e : Endpoints} {p : ℕ} → e ≡ GreProtocol p → Some p ≡ gre_protocol_of e
gre_of e = rw e

pub reversed_ports : {e : Endpoints} {s d : ℕ} → e ≡ Ports s d → Ports d s ≡ reversed_endpoints e
reversed_ports e = rw e

pub reversed_association : {e : Endpoints} {spi : ℕ} → e ≡ SecurityAssociation spi → SecurityAssociation spi ≡ reversed_endpoints e
reversed_association e = rw e

pub reversed_gre : {e : Endpoints} {p : ℕ} → e ≡ GreProtocol p → GreProtocol p ≡ reversed_endpoints e
reversed_gre e = rw e

-- the ports that are there, and 0 and 0 where there are none
pub pair_present : (e : Endpoints) {p : Option PortPair} {q : PortPair} → p ≡ ports_of e → p ≡ Some q → q ≡ port_pair e
pair_present (Ports s d) f g = cc
pair_present (SecurityAssociation spi) f g = cc
pair_present (GreProtocol n) f g = cc
pair_present None f g = cc

pub pair_absent : (e : Endpoints) {p : Option PortPair} → p ≡ ports_of e → p ≡ None → record { source = 0; destination = 0 } ≡ port_pair e
pair_absent (Ports s d) f g = cc
pair_absent (SecurityAssociation spi) f g = refl
pair_absent (GreProtocol n) f g = refl
pair_absent None f g = refl

-- the key, with what `Endpoints::reversed` gives
pub reversed_key_lem : (k : FlowKey) {e : Endpoints} → e ≡ reversed_endpoints k.endpoints
    → record {
      source = k.destination;
      destination = k.source;
      endpoints = e;
      protocol = k.protocol;
      ethertype = k.ethertype;
      source_mac = k.destination_mac;
      destination_mac = k.source_mac;
      vlan = k.vlan;
      encapsulation = k.encapsulation;
    } ≡ reversed_key k
reversed_key_lem k e = rw e

-- ---- the protocol's name

-- a number that is none of those with a name
pub unnamed : (p : ℕ) → (p ≡ 1 → ⊥) → (p ≡ 2 → ⊥) → (p ≡ 6 → ⊥) → (p ≡ 17 → ⊥) → (p ≡ 41 → ⊥) → (p ≡ 47 → ⊥) → (p ≡ 50 → ⊥) → (p ≡ 51 → ⊥) → (p ≡ 58 → ⊥)
    → (p ≡ 89 → ⊥) → (p ≡ 112 → ⊥) → (p ≡ 132 → ⊥) → 0 ≡ name_of p
unnamed p n1 n2 n6 n17 n41 n47 n50 n51 n58 n89 n112 n132 = simp ne_eqb

-- no EtherType, and one that is not ARP's
pub named_plain : (p : ℕ) {o : Option ℕ} {r : ℕ} → o ≡ None → r ≡ name_of p → r ≡ name_under p o
named_plain p e f = rw e f

pub named_other : (p : ℕ) {o : Option ℕ} {t r : ℕ} → o ≡ Some t → (t ≡ 0x0806 → ⊥) → r ≡ name_of p → r ≡ name_under p o
named_other p {t = t} e n f = rw (e, ne_eqb t 0x0806 n) f

-- ---- the shard

pub hash_six : {a : Address} {high low turned r : ℕ} → a ≡ Address.V6 high low → turned ≡ rotate_left low 17 → r ≡ bit_xor high turned → r ≡ address_hash a
hash_six e f g = rw (e, g, f)

-- the tags: the first turn is of 0, which stays 0
pub hash_untagged : {v : VlanTags} → v ≡ VlanTags.Untagged → 0 ≡ vlan_hash v
unfolding vlan_hash
hash_untagged e = rw e

pub hash_single : {v : VlanTags} {t : ℕ} → v ≡ VlanTags.Single t → t ≡ vlan_hash v
unfolding vlan_hash
hash_single {t = t} e = rw (e, xor_zero_l t)

pub hash_double : {v : VlanTags} {t u turned r : ℕ} → v ≡ VlanTags.Double t u → turned ≡ rotate_left t 16 → r ≡ bit_xor turned u → r ≡ vlan_hash v
unfolding vlan_hash
hash_double {t = t} e f g = rw (e, xor_zero_l t, g, f)

pub hash_no_tunnel : (value : ℕ) {o : Option Encapsulation} → o ≡ None → value ≡ tunnel_hash value o
unfolding tunnel_hash
hash_no_tunnel value e = rw e

pub hash_tunnel : (value : ℕ) {id turned with-id r : ℕ} {o : Option Encapsulation} (t : Encapsulation) → o ≡ Some t → id ≡ unwrap_or t.id 0 → turned ≡ rotate_left id 32
    → with-id ≡ bit_xor value turned → r ≡ bit_xor with-id t.kind → r ≡ tunnel_hash value o
unfolding tunnel_hash
hash_tunnel value t e f g h i = rw (e, i, h, g, f)

pub hash_pair : (k : FlowKey) {p : PortPair} {a b r : ℕ} → p ≡ port_pair k.endpoints → a ≡ endpoint_hash k.source p.source
    → b ≡ endpoint_hash k.destination p.destination → r ≡ bit_xor a b → r ≡ pair_hash k
unfolding pair_hash
hash_pair k e f g h = rw (h, f, g, e)

-- one shard or none, and more
pub one_shard : (k : FlowKey) (shards : ℕ) → shards ≤ 1 → 0 ≡ shard_of k shards
unfolding shard_of
one_shard k shards h = rw (le-leb shards 1 h)

pub some_shard : (k : FlowKey) (shards : ℕ) {value mixed : ℕ} → 1 < shards → value ≡ symmetric_hash k → mixed ≡ final_mix value → mixed % shards ≡ shard_of k shards
unfolding shard_of
some_shard k shards h e f = rw (lt-leb shards 1 h, f, e)
