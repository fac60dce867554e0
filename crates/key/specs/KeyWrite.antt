-- Writing a key, part by part.
use Rattle.std.specs.Prelude.{ℕ, ◌+◌, ◌≡◌, [], ◌∷◌, ◌++◌, None, Some}
use Rattle.std.proofs.Common.{append-nil, add-one}
use Rattle.forms.specs.Form.{only_writes, over_writes, pair_writes, raw, choice_writes, follow_writes}
use Rattle.forms.specs.Number.{number_bytes, number_writes}
use Rattle.forms.specs.Optional.{number16, number32, optional16_writes, optional32_writes}
use Rattle.key.specs.KeyForm.{endpoints, address, mac, vlan, encapsulation, key}
use Rattle.key.specs.declared.key.Address.TheVariants.{V4, V6}
use Rattle.key.specs.declared.key.Endpoints.TheVariants.{Ports, SecurityAssociation, GreProtocol, None}
use Rattle.key.specs.declared.key.FlowKey.{FlowKey}
use Rattle.key.specs.declared.link.MacAddress.{MacAddress}
use Rattle.key.specs.declared.vlan.VlanTags.TheVariants.{Untagged, Single, Double}
use Rattle.key.specs.declared.encapsulation.Encapsulation.{Encapsulation}

-- the bytes of each part
pub none_writes : endpoints.write None ≡ 0 ∷ []
unfolding endpoints
none_writes = rw (choice_writes, only_writes)

pub ports_writes : (s d : ℕ) → endpoints.write (Ports s d) ≡ (1 ∷ []) ++ (number_bytes s ++ number_bytes d)
unfolding endpoints
ports_writes s d = simp (choice_writes, over_writes, pair_writes, number_writes)

pub association_writes : (i : ℕ) → endpoints.write (SecurityAssociation i) ≡ (2 ∷ []) ++ number_bytes i
unfolding endpoints
association_writes i = simp (choice_writes, over_writes, number_writes)

pub gre_writes : (p : ℕ) → endpoints.write (GreProtocol p) ≡ (3 ∷ []) ++ number_bytes p
unfolding endpoints
gre_writes p = simp (choice_writes, over_writes, number_writes)

pub v4_writes : (a : ℕ) → address.write (V4 a) ≡ (4 ∷ []) ++ (raw 4).write a
unfolding address
v4_writes a = simp (choice_writes, over_writes)

pub v6_writes : (h l : ℕ) → address.write (V6 h l) ≡ (6 ∷ []) ++ ((raw 8).write h ++ (raw 8).write l)
unfolding address
v6_writes h l = simp (choice_writes, over_writes, pair_writes)

pub mac_writes : (m : MacAddress) → mac.write m ≡ (raw 2).write m.high ++ (raw 4).write m.low
unfolding mac
mac_writes m = simp (over_writes, pair_writes)

pub untagged_writes : vlan.write Untagged ≡ 0 ∷ []
unfolding vlan
untagged_writes = rw (choice_writes, only_writes)

pub single_writes : (t : ℕ) → vlan.write (Single t) ≡ (1 ∷ []) ++ number_bytes t
unfolding vlan
single_writes t = simp (choice_writes, over_writes, number_writes)

pub double_writes : (t u : ℕ) → vlan.write (Double t u) ≡ (2 ∷ []) ++ (number_bytes t ++ number_bytes u)
unfolding vlan
double_writes t u = simp (choice_writes, over_writes, pair_writes, number_writes)

pub no_tunnel_writes : encapsulation.write None ≡ number_bytes 0
unfolding encapsulation
no_tunnel_writes = simp (follow_writes, number_writes, only_writes, append-nil)

pub tunnel_writes : (e : Encapsulation) → encapsulation.write (Some e) ≡ number_bytes (e.kind + 1) ++ number_bytes (number32 e.id)
unfolding encapsulation
tunnel_writes e = simp (follow_writes, number_writes, over_writes, optional32_writes, add-one)

pub key_writes : (k : FlowKey)
    → key.write k
    ≡ number_bytes k.protocol
    ++ (number_bytes (number16 k.ethertype)
    ++ (endpoints.write k.endpoints
    ++ (address.write k.source
    ++ (address.write k.destination
    ++ (mac.write k.source_mac
    ++ (mac.write k.destination_mac ++ (vlan.write k.vlan ++ encapsulation.write k.encapsulation)))))))
unfolding key
key_writes k = simp (over_writes, pair_writes, number_writes, optional16_writes)
