-- The key of most packets, by document 01's key form: a protocol of one byte, no EtherType, ports, two IPv4 addresses, no VLAN tag, no
-- tunnel. Assumes nothing.
use Rattle.std.specs.Prelude.{ℕ, ◌-◌, Bool, true, false, cond, ◌&&◌, List, ltb, length, None, Option, Some}
use Rattle.forms.specs.Form.{Read, got}
use Rattle.forms.specs.At.{read_at}
use Rattle.forms.specs.Number.{number_bytes}
use Rattle.key.specs.Shard.{shard_of}
use Rattle.key.specs.Endpoints.{port_pair}
use Rattle.key.specs.KeyForm.{key}
use Rattle.key.specs.KeyOr.{key_or}
use Rattle.key.specs.declared.key.Address.{Address}
use Rattle.key.specs.declared.key.Endpoints.{Endpoints}
use Rattle.key.specs.declared.key.FlowKey.{FlowKey}
use Rattle.key.specs.declared.vlan.VlanTags.{VlanTags}
use Rattle.plain.specs.declared.Plain.{Plain}
use Rattle.key.specs.declared.encapsulation.Encapsulation.{Encapsulation}
use Rattle.forms.specs.Form.{stop}
use Rattle.forms.specs.declared.stop.Stop.{Stop}

-- ---- which keys are plain

abbrev pub has_ports : Endpoints → Bool
has_ports (Endpoints.Ports s d) = true
has_ports (Endpoints.SecurityAssociation i) = false
has_ports (Endpoints.GreProtocol p) = false
has_ports Endpoints.None = false

abbrev pub is_v4 : Address → Bool
is_v4 (Address.V4 a) = true
is_v4 (Address.V6 h l) = false

abbrev pub is_absent : Option ℕ → Bool
is_absent None = true
is_absent (Some n) = false

abbrev pub is_untagged : VlanTags → Bool
is_untagged VlanTags.Untagged = true
is_untagged (VlanTags.Single t) = false
is_untagged (VlanTags.Double t u) = false

abbrev pub has_no_tunnel : Option Encapsulation → Bool
has_no_tunnel None = true
has_no_tunnel (Some e) = false

unfoldable pub is_plain : FlowKey → Bool
is_plain k =
    ltb k.protocol 128
    && (is_absent k.ethertype
    && (has_ports k.endpoints
    && (is_v4 k.source && (is_v4 k.destination && (is_untagged k.vlan && has_no_tunnel k.encapsulation)))))

-- ---- what is seen of one

-- its hash; where its second port begins, its addresses, and what stands behind it. Behind the ports are 24 bytes
abbrev pub plain_of : FlowKey → ℕ → Plain
plain_of k next =
    record {
      hash = shard_of k 524288;
      second_port = next - 24 - length (number_bytes (port_pair k.endpoints).destination);
      addresses = next - 24;
      next = next;
    }

abbrev pub plain_in : Read FlowKey ℕ → Option Plain
plain_in (got k next) = cond (is_plain k) (Some (plain_of k next)) None
plain_in (stop Stop.Short) = None
plain_in (stop Stop.Refused) = None

-- what stands at a place: a plain key, or something else
abbrev pub plain_at : List ℕ → ℕ → Option Plain
plain_at s at = plain_in (read_at key s at)

-- ---- the key that stands at a place

-- the key that is read at a place; where there is none, one of zeros
unfoldable pub key_read : List ℕ → ℕ → FlowKey
key_read s at = key_or (read_at key s at)
