-- What key.rs gives of the two ends of a flow.
use Rattle.std.specs.Prelude.{◌≡◌, ℕ, refl, Bool, true, false, None, Option, Some}
use Rattle.key.specs.declared.key.Endpoints.{Endpoints}
use Rattle.key.specs.declared.key.Endpoints.TheVariants.{Ports, SecurityAssociation, GreProtocol, None}
use Rattle.key.specs.declared.key.PortPair.{PortPair}

-- "associations apart": a security association has no reverse direction
abbrev pub has_reverse_direction : Endpoints → Bool
has_reverse_direction (Ports s d) = true
has_reverse_direction (SecurityAssociation spi) = false
has_reverse_direction (GreProtocol p) = true
has_reverse_direction None = true

abbrev pub ports_of : Endpoints → Option PortPair
ports_of (Ports s d) = Some (record { source = s; destination = d })
ports_of (SecurityAssociation spi) = None
ports_of (GreProtocol p) = None
ports_of None = None

-- the ports, or 0 and 0
abbrev pub port_pair : Endpoints → PortPair
port_pair (Ports s d) = record { source = s; destination = d }
port_pair (SecurityAssociation spi) = record { source = 0; destination = 0 }
port_pair (GreProtocol p) = record { source = 0; destination = 0 }
port_pair None = record { source = 0; destination = 0 }

abbrev pub security_association_of : Endpoints → Option ℕ
security_association_of (Ports s d) = None
security_association_of (SecurityAssociation spi) = Some spi
security_association_of (GreProtocol p) = None
security_association_of None = None

abbrev pub gre_protocol_of : Endpoints → Option ℕ
gre_protocol_of (Ports s d) = None
gre_protocol_of (SecurityAssociation spi) = None
gre_protocol_of (GreProtocol p) = Some p
gre_protocol_of None = None

-- "Reversal changes over .. ports .. only."
abbrev pub reversed_endpoints : Endpoints → Endpoints
reversed_endpoints (Ports s d) = Ports d s
reversed_endpoints (SecurityAssociation spi) = SecurityAssociation spi
reversed_endpoints (GreProtocol p) = GreProtocol p
reversed_endpoints None = None

-- reversing twice is the identity
pub endpoints_twice : (e : Endpoints) → reversed_endpoints (reversed_endpoints e) ≡ e
endpoints_twice (Ports s d) = refl
endpoints_twice (SecurityAssociation spi) = refl
endpoints_twice (GreProtocol p) = refl
endpoints_twice None = refl

-- endpoints and their reverse are both an association or neither
pub endpoints_both : (e : Endpoints) → has_reverse_direction (reversed_endpoints e) ≡ has_reverse_direction e
endpoints_both (Ports s d) = refl
endpoints_both (SecurityAssociation spi) = refl
endpoints_both (GreProtocol p) = refl
endpoints_both None = refl

-- the ports change over with the endpoints
pub pair_turned : (e : Endpoints) → port_pair (reversed_endpoints e) ≡ record { source = (port_pair e).destination; destination = (port_pair e).source }
pair_turned (Ports s d) = refl
pair_turned (SecurityAssociation spi) = refl
pair_turned (GreProtocol p) = refl
pair_turned None = refl
