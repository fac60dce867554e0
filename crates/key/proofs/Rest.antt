-- What the arm `_` of each match on `Endpoints` answers: it is given that the value's variant is one of those that no other arm has, by their
-- places in the type. Assumes nothing.
use Rattle.std.specs.Prelude.{None}
use mathlib.Core.Path.{◌≡◌, refl}
use mathlib.Core.List.{[], ◌∷◌}
use mathlib.Core.Bool.{true}
use denote.Enum.Declared.{tag_of}
use types.Run.{OneOf, miss}
use Rattle.key.specs.Endpoints.{has_reverse_direction, ports_of, security_association_of, gre_protocol_of}
use Rattle.key.specs.declared.key.Endpoints.{Endpoints}
use Rattle.key.specs.declared.key.Endpoints.TheVariants.{Ports, SecurityAssociation, GreProtocol, None}
use Rattle.key.specs.contracts.key.Endpoints.{the_type}

pub two_way : (e : Endpoints) → OneOf (0 ∷ 2 ∷ 3 ∷ []) (tag_of the_type e) → true ≡ has_reverse_direction e
two_way (Ports s d) k = refl
two_way (SecurityAssociation spi) k = absurd (miss (0 ∷ 2 ∷ 3 ∷ []) 1 tt k)
two_way (GreProtocol p) k = refl
two_way None k = refl

pub no_ports : (e : Endpoints) → OneOf (1 ∷ 2 ∷ 3 ∷ []) (tag_of the_type e) → None ≡ ports_of e
no_ports (Ports s d) k = absurd (miss (1 ∷ 2 ∷ 3 ∷ []) 0 tt k)
no_ports (SecurityAssociation spi) k = refl
no_ports (GreProtocol p) k = refl
no_ports None k = refl

pub no_association : (e : Endpoints) → OneOf (0 ∷ 2 ∷ 3 ∷ []) (tag_of the_type e) → None ≡ security_association_of e
no_association (Ports s d) k = refl
no_association (SecurityAssociation spi) k = absurd (miss (0 ∷ 2 ∷ 3 ∷ []) 1 tt k)
no_association (GreProtocol p) k = refl
no_association None k = refl

pub no_gre : (e : Endpoints) → OneOf (0 ∷ 1 ∷ 3 ∷ []) (tag_of the_type e) → None ≡ gre_protocol_of e
no_gre (Ports s d) k = refl
no_gre (SecurityAssociation spi) k = refl
no_gre (GreProtocol p) k = absurd (miss (0 ∷ 1 ∷ 3 ∷ []) 2 tt k)
no_gre None k = refl
