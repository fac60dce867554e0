-- The key form in document 01's words: what may be written, at most 72 bytes, what was written is read back, and equal bytes
-- are equal keys.
use Rattle.std.specs.Prelude.{ℕ, suc, ◌+◌, ◌^◌, ◌≤◌, ◌<◌, ◌≡◌, refl, List, [], ◌∷◌, ◌++◌, length, None, Option, Some}
use Rattle.std.proofs.Common.{arith, length-append}
use Rattle.forms.specs.Form.{got, only_is_valid, over_is_valid, over_fits, over_ends, follow_is_valid, follow_first, follow_second, pair_ends, pair_first, pair_second, pair_valid, raw, raw_length, below_raw, raw_is_below, choice_is_valid, choice_inside}
use Rattle.forms.specs.Number.{number, number_bytes, number_ends, number_below, below_number}
use Rattle.forms.specs.Length.{number_at_most, number_at_least}
use Rattle.forms.specs.Optional.{optional32, number16, number32, optional16_valid, optional16_below, optional32_valid, optional32_below}
use Rattle.forms.specs.Lone.{value, refusal, read_one}
use Rattle.forms.specs.Theorems.{Begun, Beginning, read_back, was_written, short_only, is_short, other_only, is_other}
use Rattle.key.specs.KeyForm.{endpoints_tag, no_endpoints, ports, association, gre, endpoints, address_tag, v4, v6, address, to_mac, from_mac, mac, vlan_count, untagged, single, double, vlan, kind_number, id_behind, tunnel, behind_kind, kind_agrees, encapsulation, to_key, from_key, key}
use Rattle.key.specs.KeyWrite.{none_writes, ports_writes, association_writes, gre_writes, v4_writes, v6_writes, untagged_writes, single_writes, double_writes, no_tunnel_writes, tunnel_writes, key_writes}
use Rattle.key.specs.KeyLength.{mac_sized}
use Rattle.key.specs.declared.key.Address.{Address}
use Rattle.key.specs.declared.key.Address.TheVariants.{V4, V6}
use Rattle.key.specs.declared.key.Endpoints.{Endpoints}
use Rattle.key.specs.declared.key.Endpoints.TheVariants.{Ports, SecurityAssociation, GreProtocol, None}
use Rattle.key.specs.declared.key.FlowKey.{FlowKey}
use Rattle.key.specs.declared.link.MacAddress.{MacAddress}
use Rattle.key.specs.declared.vlan.VlanTags.{VlanTags}
use Rattle.key.specs.declared.vlan.VlanTags.TheVariants.{Untagged, Single, Double}
use Rattle.key.specs.declared.encapsulation.Encapsulation.{Encapsulation}
use Rattle.forms.specs.Form.{stop}
use Rattle.forms.specs.declared.stop.Stop.{Stop}

-- ---- a key in range: each number within its field's width, as the key's types have it

abbrev pub EndpointsInRange : Endpoints → Type 0
EndpointsInRange None = Unit
EndpointsInRange (Ports s d) = (s < 2 ^ 16) × (d < 2 ^ 16)
EndpointsInRange (SecurityAssociation i) = i < 2 ^ 32
EndpointsInRange (GreProtocol p) = p < 2 ^ 16

abbrev pub AddressInRange : Address → Type 0
AddressInRange (V4 a) = a < 2 ^ 32
AddressInRange (V6 h l) = (h < 2 ^ 64) × (l < 2 ^ 64)

abbrev pub MacInRange : MacAddress → Type 0
MacInRange m = (m.high < 2 ^ 16) × (m.low < 2 ^ 32)

abbrev pub VlanInRange : VlanTags → Type 0
VlanInRange Untagged = Unit
VlanInRange (Single t) = t < 2 ^ 16
VlanInRange (Double t u) = (t < 2 ^ 16) × (u < 2 ^ 16)

abbrev pub EncapsulationInRange : Option Encapsulation → Type 0
EncapsulationInRange None = Unit
EncapsulationInRange (Some e) = (e.kind < 2 ^ 8) × (number32 e.id ≤ 2 ^ 32)

pub record KeyInRange (k : FlowKey) : Type 0 where
  pub protocol : k.protocol < 2 ^ 8
  pub ethertype : number16 k.ethertype ≤ 2 ^ 16
  pub endpoints : EndpointsInRange k.endpoints
  pub source : AddressInRange k.source
  pub destination : AddressInRange k.destination
  pub source_mac_lem : MacInRange k.source_mac
  pub destination_mac_lem : MacInRange k.destination_mac
  pub vlan : VlanInRange k.vlan
  pub encapsulation : EncapsulationInRange k.encapsulation

-- ---- exactly the keys in range have a form

endpoints_valid : (e : Endpoints) → EndpointsInRange e → endpoints.valid e
unfolding endpoints
endpoints_valid None h = choice_is_valid endpoints_tag no_endpoints (ports ∷ association ∷ gre ∷ []) None refl refl (only_is_valid None None refl)
endpoints_valid (Ports s d) h =
    choice_is_valid endpoints_tag no_endpoints (ports ∷ association ∷ gre ∷ []) (Ports s d) refl refl
    (over_is_valid _ _ _ _ (Ports s d) (pair_valid _ _ s d (below_number 65535 s (omega arith)) (below_number 65535 d (omega arith))) refl)
endpoints_valid (SecurityAssociation i) h =
    choice_is_valid endpoints_tag no_endpoints (ports ∷ association ∷ gre ∷ []) (SecurityAssociation i) refl refl
    (over_is_valid _ _ _ _ (SecurityAssociation i) (below_number _ i (omega arith)) refl)
endpoints_valid (GreProtocol p) h =
    choice_is_valid endpoints_tag no_endpoints (ports ∷ association ∷ gre ∷ []) (GreProtocol p) refl refl
    (over_is_valid _ _ _ _ (GreProtocol p) (below_number _ p (omega arith)) refl)

endpoints_in_range : (e : Endpoints) → endpoints.valid e → EndpointsInRange e
unfolding endpoints
endpoints_in_range None v = tt
endpoints_in_range (Ports s d) v =
    let both = over_fits _ _ _ _ (Ports s d) (choice_inside endpoints_tag no_endpoints (ports ∷ association ∷ gre ∷ []) (Ports s d) v) in
    let first = number_below 65535 s (pair_first _ _ (s, d) both) in
    let second = number_below 65535 d (pair_second _ _ (s, d) both) in
    (omega arith, omega arith)
endpoints_in_range (SecurityAssociation i) v =
    let below = number_below _ i (over_fits _ _ _ _ (SecurityAssociation i) (choice_inside endpoints_tag no_endpoints (ports ∷ association ∷ gre ∷ []) (SecurityAssociation i) v)) in
    omega arith
endpoints_in_range (GreProtocol p) v =
    let below = number_below _ p (over_fits _ _ _ _ (GreProtocol p) (choice_inside endpoints_tag no_endpoints (ports ∷ association ∷ gre ∷ []) (GreProtocol p) v)) in
    omega arith

address_valid : (a : Address) → AddressInRange a → address.valid a
unfolding address
address_valid (V4 a) h = choice_is_valid address_tag v4 (v6 ∷ []) (V4 a) refl refl (over_is_valid _ _ _ _ (V4 a) (below_raw 4 a h) refl)
address_valid (V6 x y) h =
    choice_is_valid address_tag v4 (v6 ∷ []) (V6 x y) refl refl (over_is_valid _ _ _ _ (V6 x y) (pair_valid _ _ x y (below_raw 8 x h.0) (below_raw 8 y h.1)) refl)

address_in_range : (a : Address) → address.valid a → AddressInRange a
unfolding address
address_in_range (V4 a) v = raw_is_below 4 a (over_fits _ _ _ _ (V4 a) (choice_inside address_tag v4 (v6 ∷ []) (V4 a) v))
address_in_range (V6 x y) v =
    let both = over_fits _ _ _ _ (V6 x y) (choice_inside address_tag v4 (v6 ∷ []) (V6 x y) v) in
    (raw_is_below 8 x (pair_first _ _ (x, y) both), raw_is_below 8 y (pair_second _ _ (x, y) both))

mac_valid : (m : MacAddress) → MacInRange m → mac.valid m
unfolding mac
mac_valid m h = over_is_valid to_mac from_mac _ _ m (pair_valid _ _ _ _ (below_raw 2 m.high h.0) (below_raw 4 m.low h.1)) refl

mac_in_range : (m : MacAddress) → mac.valid m → MacInRange m
unfolding mac
mac_in_range m v =
    let both = over_fits to_mac from_mac _ _ m v in
    (raw_is_below 2 m.high (pair_first _ _ (from_mac m) both), raw_is_below 4 m.low (pair_second _ _ (from_mac m) both))

vlan_valid : (g : VlanTags) → VlanInRange g → vlan.valid g
unfolding vlan
vlan_valid Untagged h = choice_is_valid vlan_count untagged (single ∷ double ∷ []) Untagged refl refl (only_is_valid Untagged Untagged refl)
vlan_valid (Single t) h =
    choice_is_valid vlan_count untagged (single ∷ double ∷ []) (Single t) refl refl (over_is_valid _ _ _ _ (Single t) (below_number _ t (omega arith)) refl)
vlan_valid (Double t u) h =
    choice_is_valid vlan_count untagged (single ∷ double ∷ []) (Double t u) refl refl
    (over_is_valid _ _ _ _ (Double t u) (pair_valid _ _ t u (below_number 65535 t (omega arith)) (below_number 65535 u (omega arith))) refl)

vlan_in_range : (g : VlanTags) → vlan.valid g → VlanInRange g
unfolding vlan
vlan_in_range Untagged v = tt
vlan_in_range (Single t) v =
    let below = number_below _ t (over_fits _ _ _ _ (Single t) (choice_inside vlan_count untagged (single ∷ double ∷ []) (Single t) v)) in
    omega arith
vlan_in_range (Double t u) v =
    let both = over_fits _ _ _ _ (Double t u) (choice_inside vlan_count untagged (single ∷ double ∷ []) (Double t u) v) in
    let first = number_below 65535 t (pair_first _ _ (t, u) both) in
    let second = number_below 65535 u (pair_second _ _ (t, u) both) in
    (omega arith, omega arith)

encapsulation_valid : (c : Option Encapsulation) → EncapsulationInRange c → encapsulation.valid c
unfolding encapsulation
encapsulation_valid None h = follow_is_valid _ kind_number behind_kind kind_agrees None (below_number 256 0 (omega arith)) (only_is_valid None None refl)
encapsulation_valid (Some e) h =
    follow_is_valid _ kind_number behind_kind kind_agrees (Some e) (below_number 256 (suc e.kind) (omega arith))
    (over_is_valid (tunnel e.kind) id_behind optional32 (λ x v. refl) (Some e) (optional32_valid e.id h.1) refl)

encapsulation_in_range : (c : Option Encapsulation) → encapsulation.valid c → EncapsulationInRange c
unfolding encapsulation
encapsulation_in_range None v = tt
encapsulation_in_range (Some e) v =
    let kind = number_below 256 (suc e.kind) (follow_first _ kind_number behind_kind kind_agrees (Some e) v) in
    let id = optional32_below e.id (over_fits (tunnel e.kind) id_behind optional32 (λ x v. refl) (Some e) (follow_second _ kind_number behind_kind kind_agrees (Some e) v)) in
    (omega arith, id)

pub key_valid : (k : FlowKey) → KeyInRange k → key.valid k
unfolding key
key_valid k h =
    over_is_valid to_key from_key _ _ k
    (pair_valid _ _ _ _ (below_number 255 k.protocol (omega arith))
    (pair_valid _ _ _ _ (optional16_valid 65535 k.ethertype h.ethertype)
    (pair_valid _ _ _ _ (endpoints_valid k.endpoints h.endpoints)
    (pair_valid _ _ _ _ (address_valid k.source h.source)
    (pair_valid _ _ _ _ (address_valid k.destination h.destination)
    (pair_valid _ _ _ _ (mac_valid k.source_mac h.source_mac_lem)
    (pair_valid _ _ _ _ (mac_valid k.destination_mac h.destination_mac_lem)
    (pair_valid _ _ _ _ (vlan_valid k.vlan h.vlan) (encapsulation_valid k.encapsulation h.encapsulation)))))))))
    refl

pub key_in_range : (k : FlowKey) → key.valid k → KeyInRange k
unfolding key
key_in_range k v =
    let v₀ = over_fits to_key from_key _ _ k v in
    let v₁ = pair_second _ _ _ v₀ in
    let v₂ = pair_second _ _ _ v₁ in
    let v₃ = pair_second _ _ _ v₂ in
    let v₄ = pair_second _ _ _ v₃ in
    let v₅ = pair_second _ _ _ v₄ in
    let v₆ = pair_second _ _ _ v₅ in
    let v₇ = pair_second _ _ _ v₆ in
    let p = number_below 255 k.protocol (pair_first _ _ _ v₀) in
    record {
      protocol = omega arith;
      ethertype = optional16_below 65535 k.ethertype (pair_first _ _ _ v₁);
      endpoints = endpoints_in_range k.endpoints (pair_first _ _ _ v₂);
      source = address_in_range k.source (pair_first _ _ _ v₃);
      destination = address_in_range k.destination (pair_first _ _ _ v₄);
      source_mac_lem = mac_in_range k.source_mac (pair_first _ _ _ v₅);
      destination_mac_lem = mac_in_range k.destination_mac (pair_first _ _ _ v₆);
      vlan = vlan_in_range k.vlan (pair_first _ _ _ v₇);
      encapsulation = encapsulation_in_range k.encapsulation (pair_second _ _ _ v₇);
    }

-- ---- "At most 72 bytes."

endpoints_short : (e : Endpoints) → EndpointsInRange e → length (endpoints.write e) ≤ 7
endpoints_short None h = rw none_writes (omega arith)
endpoints_short (Ports s d) h =
    rw ports_writes (omega (arith, length-append (number_bytes s) (number_bytes d), number_at_most 2 s (omega arith), number_at_most 2 d (omega arith)))
endpoints_short (SecurityAssociation i) h = rw association_writes (omega (arith, number_at_most 4 i (omega arith)))
endpoints_short (GreProtocol p) h = rw gre_writes (omega (arith, number_at_most 2 p (omega arith)))

address_short : (a : Address) → length (address.write a) ≤ 17
address_short (V4 a) = rw v4_writes (omega (arith, raw_length 4 a))
address_short (V6 x y) = rw v6_writes (omega (arith, length-append ((raw 8).write x) ((raw 8).write y), raw_length 8 x, raw_length 8 y))

vlan_short : (g : VlanTags) → VlanInRange g → length (vlan.write g) ≤ 7
vlan_short Untagged h = rw untagged_writes (omega arith)
vlan_short (Single t) h = rw single_writes (omega (arith, number_at_most 2 t (omega arith)))
vlan_short (Double t u) h =
    rw double_writes (omega (arith, length-append (number_bytes t) (number_bytes u), number_at_most 2 t (omega arith), number_at_most 2 u (omega arith)))

encapsulation_short : (c : Option Encapsulation) → EncapsulationInRange c → length (encapsulation.write c) ≤ 7
encapsulation_short None h = rw no_tunnel_writes (omega (arith, number_at_most 0 0 (omega arith)))
encapsulation_short (Some e) h =
    rw tunnel_writes
    (omega (
      arith,
      length-append (number_bytes (e.kind + 1)) (number_bytes (number32 e.id)),
      number_at_most 1 (e.kind + 1) (omega arith),
      number_at_most 4 (number32 e.id) (omega arith),
    ))

pub key_at_most : (k : FlowKey) → KeyInRange k → length (key.write k) ≤ 72
key_at_most k h =
    let p = number_at_most 1 k.protocol (omega arith) in
    let t = number_at_most 2 (number16 k.ethertype) (omega arith) in
    let e = endpoints_short k.endpoints h.endpoints in
    let a = address_short k.source in
    let b = address_short k.destination in
    let g = vlan_short k.vlan h.vlan in
    let c = encapsulation_short k.encapsulation h.encapsulation in
    rw key_writes (simp (length-append, mac_sized) (omega arith))

-- ---- and at least 27, which with the rest of a packet are its 35

endpoints_some : (e : Endpoints) → 1 ≤ length (endpoints.write e)
endpoints_some None = rw none_writes (omega arith)
endpoints_some (Ports s d) = rw ports_writes (omega arith)
endpoints_some (SecurityAssociation i) = rw association_writes (omega arith)
endpoints_some (GreProtocol p) = rw gre_writes (omega arith)

address_some : (a : Address) → 5 ≤ length (address.write a)
address_some (V4 a) = rw v4_writes (omega (arith, raw_length 4 a))
address_some (V6 x y) = rw v6_writes (omega (arith, length-append ((raw 8).write x) ((raw 8).write y), raw_length 8 x, raw_length 8 y))

vlan_some : (g : VlanTags) → 1 ≤ length (vlan.write g)
vlan_some Untagged = rw untagged_writes (omega arith)
vlan_some (Single t) = rw single_writes (omega arith)
vlan_some (Double t u) = rw double_writes (omega arith)

encapsulation_some : (c : Option Encapsulation) → 1 ≤ length (encapsulation.write c)
encapsulation_some None = rw no_tunnel_writes (number_at_least 0)
encapsulation_some (Some e) =
    rw tunnel_writes (omega (arith, length-append (number_bytes (e.kind + 1)) (number_bytes (number32 e.id)), number_at_least (e.kind + 1)))

pub key_at_least : (k : FlowKey) → 27 ≤ length (key.write k)
key_at_least k =
    let p = number_at_least k.protocol in
    let t = number_at_least (number16 k.ethertype) in
    let e = endpoints_some k.endpoints in
    let a = address_some k.source in
    let b = address_some k.destination in
    let g = vlan_some k.vlan in
    let c = encapsulation_some k.encapsulation in
    rw key_writes (simp (length-append, mac_sized) (omega arith))

-- ---- reading

pub key_ends : key.read [] ≡ stop Stop.Short
unfolding key
key_ends = over_ends to_key from_key _ (λ x v. refl) (pair_ends (number 255) _ (number_ends 255))

-- what was written is read back, whatever stands behind it
pub key_read_back : (k : FlowKey) (rest : List ℕ) → KeyInRange k → read_one 4 key (key.write k ++ rest) ≡ value k (length (key.write k))
key_read_back k rest h = read_back 4 key key_ends k rest (key_valid k h)

-- what is read was written so, and is in range
pub key_was_written : (s : List ℕ) (k : FlowKey) (n : ℕ) → read_one 4 key s ≡ value k n
    → (rest : List ℕ) × KeyInRange k × (s ≡ key.write k ++ rest) × (n ≡ length (key.write k))
key_was_written s k n e =
    let (rest, v, bytes, used) = was_written 4 key key_ends s k n e in
    (rest, key_in_range k v, bytes, used)

-- Short exactly where the bytes are a proper, non-empty beginning of some key's form
pub key_short_only : (s : List ℕ) → read_one 4 key s ≡ refusal 9 → Beginning key s
key_short_only = short_only 4 key key_ends (λ e. omega arith)

pub key_is_short : (s : List ℕ) → Beginning key s → read_one 4 key s ≡ refusal 9
key_is_short = is_short 4 key key_ends (λ e. omega arith)

-- refused as 4 exactly where they neither begin with a key's form nor are such a beginning
pub key_refused_only : (s : List ℕ) → read_one 4 key s ≡ refusal 4 → (Begun key s → ⊥) × (Beginning key s → ⊥)
key_refused_only = other_only 4 key key_ends (λ e. omega arith)

pub key_is_refused : (s : List ℕ) → (Begun key s → ⊥) → (Beginning key s → ⊥) → read_one 4 key s ≡ refusal 4
key_is_refused = is_other 4 key key_ends (λ e. omega arith)

-- two keys with equal bytes are equal
pub equal_bytes : (k l : FlowKey) → KeyInRange k → KeyInRange l → key.write k ≡ key.write l → k ≡ l
equal_bytes k l h j e =
    let first = key.there k [] (key_valid k h) in
    let second : key.read (key.write k ++ []) ≡ got l [] = rw e (key.there l [] (key_valid l j)) in
    cc
