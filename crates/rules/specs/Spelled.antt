-- The key form and the record form spelled out byte by byte, so that the examples of Table.antt compute. Assumes nothing.
use Rattle.std.specs.Prelude.{◌≡◌, List, [], ◌∷◌, ◌++◌, ℕ, zero, suc, ◌+◌, ◌/◌, ◌%◌, length, None, Option, Some}
use Rattle.std.proofs.Common.{sym, ap, ◌∙◌}
use Rattle.std.proofs.Math.Path.{fun_ext}
use Rattle.forms.specs.Form.{raw, raw_zero, raw_one_writes, raw_writes}
use Rattle.forms.specs.Number.{number_bytes}
use Rattle.forms.specs.Optional.{number8, number16, number32}
use Rattle.key.specs.KeyForm.{endpoints, address, mac, vlan, encapsulation}
use Rattle.key.specs.KeyWrite.{none_writes, ports_writes, association_writes, gre_writes, v4_writes, v6_writes, mac_writes, untagged_writes, single_writes, double_writes, no_tunnel_writes, tunnel_writes, key_writes}
use Rattle.key.specs.declared.key.Address.{Address}
use Rattle.key.specs.declared.key.Address.TheVariants.{V4, V6}
use Rattle.key.specs.declared.key.Endpoints.{Endpoints}
use Rattle.key.specs.declared.key.Endpoints.TheVariants.{Ports, SecurityAssociation, GreProtocol, None}
use Rattle.key.specs.declared.key.FlowKey.{FlowKey}
use Rattle.key.specs.declared.link.MacAddress.{MacAddress}
use Rattle.key.specs.declared.vlan.VlanTags.{VlanTags}
use Rattle.key.specs.declared.vlan.VlanTags.TheVariants.{Untagged, Single, Double}
use Rattle.stats.specs.declared.counts.TcpFlagCounts.{TcpFlagCounts}
use Rattle.flow.specs.declared.time.EndReason.{EndReason}
use Rattle.flow.specs.declared.record.FlowRecord.{FlowRecord}
use Rattle.wire.specs.declared.record.Flow.{Flow}
use Rattle.wire.specs.declared.record.HeadFields.{HeadFields}
use Rattle.wire.specs.declared.record.DirectionFields.{DirectionFields}
use Rattle.wire.specs.declared.record.TailFields.{TailFields}
use Rattle.wire.specs.RecordForm.{direction, reason_number, state_number, resolution_number, bit_number, head_fields, direction_fields, tail_fields, record_bytes}
use Rattle.wire.specs.RecordWrite.{head_writes, flags_writes, direction_writes, tail_writes, record_writes}
use Rattle.rules.specs.Engine.{key_bytes, finished_flow, record_size}
use Rattle.key.specs.declared.encapsulation.Encapsulation.{Encapsulation}

-- ## The key

abbrev raw_spelled : ℕ → ℕ → List ℕ
raw_spelled zero v = []
raw_spelled (suc zero) v = v ∷ []
raw_spelled (suc (suc n)) v = raw_spelled (suc n) (v / 256) ++ (v % 256 ∷ [])

raw_spelled_lem : (n v : ℕ) → (raw n).write v ≡ raw_spelled n v
raw_spelled_lem zero v = raw_zero v
raw_spelled_lem (suc zero) v = raw_one_writes v
raw_spelled_lem (suc (suc n)) v = raw_writes n v ∙ ap {B = List ℕ} (λ l. l ++ (v % 256 ∷ [])) (raw_spelled_lem (suc n) (v / 256))

abbrev endpoints_spelled : Endpoints → List ℕ
endpoints_spelled None = 0 ∷ []
endpoints_spelled (Ports s d) = (1 ∷ []) ++ (number_bytes s ++ number_bytes d)
endpoints_spelled (SecurityAssociation i) = (2 ∷ []) ++ number_bytes i
endpoints_spelled (GreProtocol p) = (3 ∷ []) ++ number_bytes p

endpoints_spelled_lem : (e : Endpoints) → endpoints.write e ≡ endpoints_spelled e
endpoints_spelled_lem None = none_writes
endpoints_spelled_lem (Ports s d) = ports_writes s d
endpoints_spelled_lem (SecurityAssociation i) = association_writes i
endpoints_spelled_lem (GreProtocol p) = gre_writes p

abbrev address_spelled : Address → List ℕ
address_spelled (V4 a) = (4 ∷ []) ++ raw_spelled 4 a
address_spelled (V6 h l) = (6 ∷ []) ++ (raw_spelled 8 h ++ raw_spelled 8 l)

address_spelled_lem : (a : Address) → address.write a ≡ address_spelled a
address_spelled_lem (V4 a) = v4_writes a ∙ ap {B = List ℕ} (λ x. (4 ∷ []) ++ x) (raw_spelled_lem 4 a)
address_spelled_lem (V6 h l) = v6_writes h l ∙ (λ i. (6 ∷ []) ++ (raw_spelled_lem 8 h i ++ raw_spelled_lem 8 l i))

abbrev mac_spelled : MacAddress → List ℕ
mac_spelled m = raw_spelled 2 m.high ++ raw_spelled 4 m.low

mac_spelled_lem : (m : MacAddress) → mac.write m ≡ mac_spelled m
mac_spelled_lem m = mac_writes m ∙ (λ i. raw_spelled_lem 2 m.high i ++ raw_spelled_lem 4 m.low i)

abbrev vlan_spelled : VlanTags → List ℕ
vlan_spelled Untagged = 0 ∷ []
vlan_spelled (Single t) = (1 ∷ []) ++ number_bytes t
vlan_spelled (Double t u) = (2 ∷ []) ++ (number_bytes t ++ number_bytes u)

vlan_spelled_lem : (v : VlanTags) → vlan.write v ≡ vlan_spelled v
vlan_spelled_lem Untagged = untagged_writes
vlan_spelled_lem (Single t) = single_writes t
vlan_spelled_lem (Double t u) = double_writes t u

abbrev tunnel_spelled : Option Encapsulation → List ℕ
tunnel_spelled None = number_bytes 0
tunnel_spelled (Some e) = number_bytes (e.kind + 1) ++ number_bytes (number32 e.id)

tunnel_spelled_lem : (c : Option Encapsulation) → encapsulation.write c ≡ tunnel_spelled c
tunnel_spelled_lem None = no_tunnel_writes
tunnel_spelled_lem (Some e) = tunnel_writes e

abbrev pub key_spelled : FlowKey → List ℕ
key_spelled k =
    number_bytes k.protocol
    ++ (number_bytes (number16 k.ethertype)
    ++ (endpoints_spelled k.endpoints
    ++ (address_spelled k.source
    ++ (address_spelled k.destination
    ++ (mac_spelled k.source_mac
    ++ (mac_spelled k.destination_mac ++ (vlan_spelled k.vlan ++ tunnel_spelled k.encapsulation)))))))

key_spelled_lem : (k : FlowKey) → key_bytes k ≡ key_spelled k
key_spelled_lem k =
    key_writes k
    ∙ (λ i. number_bytes k.protocol
    ++ (number_bytes (number16 k.ethertype)
    ++ (endpoints_spelled_lem k.endpoints i
    ++ (address_spelled_lem k.source i
    ++ (address_spelled_lem k.destination i
    ++ (mac_spelled_lem k.source_mac i
    ++ (mac_spelled_lem k.destination_mac i ++ (vlan_spelled_lem k.vlan i ++ tunnel_spelled_lem k.encapsulation i))))))))

pub keys_spelled : key_spelled ≡ key_bytes
keys_spelled = fun_ext (λ k. sym (key_spelled_lem k))

-- ## The record

abbrev head_spelled : HeadFields → List ℕ
head_spelled h =
    (1 ∷ [])
    ++ (number_bytes (reason_number h.reason)
    ++ (number_bytes (state_number h.state) ++ (number_bytes (resolution_number h.resolution) ++ (number_bytes h.start ++ number_bytes h.end))))

abbrev flags_spelled : TcpFlagCounts → List ℕ
flags_spelled c =
    number_bytes c.fin
    ++ (number_bytes c.syn
    ++ (number_bytes c.rst
    ++ (number_bytes c.psh
    ++ (number_bytes c.ack ++ (number_bytes c.urg ++ (number_bytes c.ece ++ (number_bytes c.cwr ++ number_bytes c.ns)))))))

abbrev direction_spelled : DirectionFields → List ℕ
direction_spelled d =
    number_bytes d.packets
    ++ (number_bytes d.frame_octets ++ (number_bytes (number32 d.least) ++ (number_bytes (number32 d.greatest) ++ flags_spelled d.flags)))

direction_spelled_lem : (d : DirectionFields) → direction.write d ≡ direction_spelled d
direction_spelled_lem d =
    direction_writes d
    ∙ ap {B = List ℕ} (λ l. number_bytes d.packets
    ++ (number_bytes d.frame_octets ++ (number_bytes (number32 d.least) ++ (number_bytes (number32 d.greatest) ++ l)))) (flags_writes d.flags)

abbrev tail_spelled : TailFields → List ℕ
tail_spelled t =
    number_bytes (number8 t.least_ttl)
    ++ (number_bytes (number8 t.greatest_ttl)
    ++ (number_bytes (number8 t.dscp)
    ++ (number_bytes (number8 t.ecn) ++ (number_bytes (number16 t.icmp) ++ (number_bytes t.captured_octets ++ number_bytes (bit_number t.truncated))))))

abbrev record_spelled : Flow → List ℕ
record_spelled f =
    let r = f.«record» in
    head_spelled (head_fields r.time)
    ++ (direction_spelled (direction_fields r.forward)
    ++ (direction_spelled (direction_fields r.reverse)
    ++ (tail_spelled (tail_fields r.network r.transport r.capture) ++ key_spelled f.key)))

record_spelled_lem : (f : Flow) → record_bytes f ≡ record_spelled f
record_spelled_lem f =
    let r = f.«record» in
    record_writes f
    ∙ (λ i. head_writes (head_fields r.time) i
    ++ (direction_spelled_lem (direction_fields r.forward) i
    ++ (direction_spelled_lem (direction_fields r.reverse) i
    ++ (tail_writes (tail_fields r.network r.transport r.capture) i ++ key_spelled_lem f.key i))))

abbrev pub size_spelled : FlowKey → EndReason → FlowRecord → ℕ
size_spelled k reason r = length (record_spelled (finished_flow k reason r))

pub sizes_spelled : size_spelled ≡ record_size
sizes_spelled = fun_ext (λ k. fun_ext (λ reason. fun_ext (λ r. ap length (sym (record_spelled_lem (finished_flow k reason r))))))
