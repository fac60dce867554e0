-- The key form (document 01, "Byte forms"): protocol; ethertype; endpoints; source, destination; two MACs; VLAN tags; encapsulation.
use Rattle.std.specs.Prelude.{ℕ, zero, suc, ◌-◌, ◌^◌, ◌≡◌, refl, [], ◌∷◌, None, Option, Some}
use Rattle.std.proofs.Common.{sym, ap}
use Rattle.forms.specs.Form.{Form, only, only_is, over, over_image, follow, pair, raw, Alt, alt, alt_only, choice}
use Rattle.forms.specs.Number.{number}
use Rattle.forms.specs.Optional.{optional16, optional32}
use Rattle.key.specs.declared.key.Address.{Address}
use Rattle.key.specs.declared.key.Address.TheVariants.{V4, V6}
use Rattle.key.specs.declared.key.Endpoints.{Endpoints}
use Rattle.key.specs.declared.key.Endpoints.TheVariants.{Ports, SecurityAssociation, GreProtocol, None}
use Rattle.key.specs.declared.key.FlowKey.{FlowKey}
use Rattle.key.specs.declared.link.MacAddress.{MacAddress}
use Rattle.key.specs.declared.vlan.VlanTags.{VlanTags}
use Rattle.key.specs.declared.vlan.VlanTags.TheVariants.{Untagged, Single, Double}
use Rattle.key.specs.declared.encapsulation.Encapsulation.{Encapsulation}

-- ---- "endpoints (0 none; 1 ports, source, destination; 2 association, 32-bit SPI; 3 GRE, 16-bit protocol)"

abbrev pub endpoints_tag : Endpoints → ℕ
endpoints_tag None = 0
endpoints_tag (Ports s d) = 1
endpoints_tag (SecurityAssociation i) = 2
endpoints_tag (GreProtocol p) = 3

-- what stands behind the tag; at another tag's endpoints it is never asked
abbrev pub ports_behind : Endpoints → ℕ × ℕ
ports_behind None = (0, 0)
ports_behind (Ports s d) = (s, d)
ports_behind (SecurityAssociation i) = (0, 0)
ports_behind (GreProtocol p) = (0, 0)

abbrev pub number_behind : Endpoints → ℕ
number_behind None = 0
number_behind (Ports s d) = 0
number_behind (SecurityAssociation i) = i
number_behind (GreProtocol p) = p

abbrev pub no_endpoints : Alt endpoints_tag
no_endpoints = alt_only endpoints_tag 0 refl None refl

abbrev pub ports : Alt endpoints_tag
ports = alt endpoints_tag 1 refl (λ x. Ports x.0 x.1) ports_behind (pair (number 65535) (number 65535)) (λ x v. refl) (λ x. refl)

abbrev pub association : Alt endpoints_tag
association = alt endpoints_tag 2 refl SecurityAssociation number_behind (number (2 ^ 32 - 1)) (λ x v. refl) (λ x. refl)

abbrev pub gre : Alt endpoints_tag
gre = alt endpoints_tag 3 refl GreProtocol number_behind (number 65535) (λ x v. refl) (λ x. refl)

unfoldable pub endpoints : Form Endpoints
endpoints = choice endpoints_tag no_endpoints (ports ∷ association ∷ gre ∷ [])

-- ---- "source, destination (each 4 with 4 raw bytes, or 6 with 16)"

abbrev pub address_tag : Address → ℕ
address_tag (V4 a) = 4
address_tag (V6 h l) = 6

abbrev pub word_behind : Address → ℕ
word_behind (V4 a) = a
word_behind (V6 h l) = 0

abbrev pub halves_behind : Address → ℕ × ℕ
halves_behind (V4 a) = (0, 0)
halves_behind (V6 h l) = (h, l)

abbrev pub v4 : Alt address_tag
v4 = alt address_tag 4 refl V4 word_behind (raw 4) (λ x v. refl) (λ x. refl)

abbrev pub v6 : Alt address_tag
v6 = alt address_tag 6 refl (λ x. V6 x.0 x.1) halves_behind (pair (raw 8) (raw 8)) (λ x v. refl) (λ x. refl)

unfoldable pub address : Form Address
address = choice address_tag v4 (v6 ∷ [])

-- ---- "two MACs, 6 raw bytes each"

abbrev pub to_mac : ℕ × ℕ → MacAddress
to_mac (h, l) = record { high = h; low = l }

abbrev pub from_mac : MacAddress → ℕ × ℕ
from_mac m = (m.high, m.low)

unfoldable pub mac : Form MacAddress
mac = over to_mac from_mac (pair (raw 2) (raw 4)) (λ x v. refl)

-- ---- "VLAN count 0 to 2, then 16-bit tags"

abbrev pub vlan_count : VlanTags → ℕ
vlan_count Untagged = 0
vlan_count (Single t) = 1
vlan_count (Double t u) = 2

abbrev pub tag_behind : VlanTags → ℕ
tag_behind Untagged = 0
tag_behind (Single t) = t
tag_behind (Double t u) = 0

abbrev pub tags_behind : VlanTags → ℕ × ℕ
tags_behind Untagged = (0, 0)
tags_behind (Single t) = (0, 0)
tags_behind (Double t u) = (t, u)

abbrev pub untagged : Alt vlan_count
untagged = alt_only vlan_count 0 refl Untagged refl

abbrev pub single : Alt vlan_count
single = alt vlan_count 1 refl Single tag_behind (number 65535) (λ x v. refl) (λ x. refl)

abbrev pub double : Alt vlan_count
double = alt vlan_count 2 refl (λ x. Double x.0 x.1) tags_behind (pair (number 65535) (number 65535)) (λ x v. refl) (λ x. refl)

unfoldable pub vlan : Form VlanTags
vlan = choice vlan_count untagged (single ∷ double ∷ [])

-- ---- "encapsulation (optional 8-bit kind ..), followed, only if present, by id (optional 32-bit)"

-- the kind as an optional
abbrev pub kind_number : Option Encapsulation → ℕ
kind_number None = 0
kind_number (Some e) = suc e.kind

abbrev pub id_behind : Option Encapsulation → Option ℕ
id_behind None = None
id_behind (Some e) = e.id

abbrev pub tunnel : ℕ → Option ℕ → Option Encapsulation
tunnel k i = Some (record { kind = k; id = i })

abbrev pub behind_kind : ℕ → Form (Option Encapsulation)
behind_kind zero = only None
behind_kind (suc k) = over (tunnel k) id_behind optional32 (λ x v. refl)

pub kind_agrees : (n : ℕ) (e : Option Encapsulation) → (number 256).valid n → (behind_kind n).valid e → kind_number e ≡ n
kind_agrees zero e v w = ap kind_number (only_is None e w)
kind_agrees (suc k) e v w = sym (ap kind_number (over_image (tunnel k) id_behind optional32 (λ x v. refl) e w))

unfoldable pub encapsulation : Form (Option Encapsulation)
encapsulation = follow (number 256) kind_number behind_kind kind_agrees

-- ---- the key

abbrev pub Fields : Type 0
Fields = ℕ × (Option ℕ × (Endpoints × (Address × (Address × (MacAddress × (MacAddress × (VlanTags × Option Encapsulation)))))))

abbrev pub to_key : Fields → FlowKey
to_key (p, (t, (e, (a, (b, (m, (n, (g, c)))))))) =
    record { source = a; destination = b; endpoints = e; protocol = p; ethertype = t; source_mac = m; destination_mac = n; vlan = g; encapsulation = c }

abbrev pub from_key : FlowKey → Fields
from_key k =
    (k.protocol, (k.ethertype, (k.endpoints, (k.source, (k.destination, (k.source_mac, (k.destination_mac, (k.vlan, k.encapsulation))))))))

unfoldable pub key : Form FlowKey
key =
    over to_key from_key
    (pair (number 255) (pair (optional16 65535) (pair endpoints (pair address (pair address (pair mac (pair mac (pair vlan encapsulation))))))))
    (λ x v. refl)
