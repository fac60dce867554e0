-- The key that was read; where there is none, one of zeros. Assumes nothing.
use Rattle.std.specs.Prelude.{None}
use Rattle.forms.specs.Form.{Read, got}
use Rattle.key.specs.declared.key.Address.{Address}
use Rattle.key.specs.declared.key.Endpoints.{Endpoints}
use Rattle.key.specs.declared.key.FlowKey.{FlowKey}
use Rattle.key.specs.declared.link.MacAddress.{MacAddress}
use Rattle.key.specs.declared.vlan.VlanTags.{VlanTags}
use Rattle.forms.specs.Form.{stop}
use Rattle.forms.specs.declared.stop.Stop.{Stop}

-- an address of zeros
abbrev pub no_mac : MacAddress
no_mac = record { high = 0; low = 0 }

-- a key of zeros
abbrev pub no_key : FlowKey
no_key =
    record {
      source = Address.V4 0;
      destination = Address.V4 0;
      endpoints = Endpoints.None;
      protocol = 0;
      ethertype = None;
      source_mac = no_mac;
      destination_mac = no_mac;
      vlan = VlanTags.Untagged;
      encapsulation = None;
    }

abbrev pub key_or : {R : Type 0} → Read FlowKey R → FlowKey
key_or (got k rest) = k
key_or (stop Stop.Short) = no_key
key_or (stop Stop.Refused) = no_key
