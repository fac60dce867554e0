-- The examples' rows are of calls that can be made. Packets in range are read back from their forms, one behind another, so that every batch of the
-- tables can be handed in; and a row that begins with open flows begins with a sound engine. Assumes nothing.
use Rattle.std.specs.Prelude.{ℕ, ◌-◌, ◌^◌, ◌≤◌, ◌<◌, ◌≡◌, refl, Bool, true, false, ◌&&◌, List, [], ◌∷◌, ◌++◌, T, ltb, leb, eqb, length, None, Option, Some}
use Rattle.std.proofs.Common.{sym, ap, ◌∙◌, append_assoc, append-nil, arith, ltb→lt, leb→le, eqb→eq, length-append, drop_at}
use Rattle.forms.specs.Form.{Form, Read, got, and_then}
use Rattle.forms.specs.Form.{over, over_reads, over_ends, pair, pair_is, pair_ends, follow_reads, with_first_is}
use Rattle.forms.specs.At.{read_at, placed_front}
use Rattle.forms.specs.Number.{number, read_groups, number_reads, number_ends}
use Rattle.forms.specs.Optional.{number8, number16, number32}
use Rattle.key.specs.KeyTheorems.{EndpointsInRange, AddressInRange, VlanInRange, EncapsulationInRange, KeyInRange}
use Rattle.key.specs.declared.key.Address.{Address}
use Rattle.key.specs.declared.key.Endpoints.{Endpoints}
use Rattle.key.specs.declared.key.FlowKey.{FlowKey}
use Rattle.key.specs.declared.link.MacAddress.{MacAddress}
use Rattle.key.specs.declared.vlan.VlanTags.{VlanTags}
use Rattle.flow.specs.Sound.{sound_flags, sound_direction, sound_aside}
use Rattle.flow.specs.declared.record.PacketFacts.{PacketFacts}
use Rattle.flow.specs.declared.record.FlowRecord.{FlowRecord}
use Rattle.wire.specs.PacketForm.{packet, facts, top32, top64, to_facts, from_facts, to_packet, from_packet}
use Rattle.wire.specs.PacketTheorems.{FactsInRange, PacketInRange, packet_valid, packet_at_least}
use Rattle.wire.specs.RecordForm.{least_of8, greatest_of8, least_of32, greatest_of32, LengthsInRange, TtlInRange}
use Rattle.wire.specs.declared.packet.Packet.{Packet}
use Rattle.rules.specs.Totals.{All}
use Rattle.rules.specs.Rules.{Refusal, Accepted, BadPacket, Full, Spent, Room, Short}
use Rattle.rules.specs.Engine.{key_bytes, record_size}
use Rattle.rules.specs.EngineLaws.{SoundFlow}
use Rattle.rules.specs.EngineSound.{SoundEngine}
use Rattle.rules.specs.Table.{Call, feed, sweep, drain, Step, Row, plays, from, holds, flows_of, opened_with, examples, further}
use Rattle.rules.proofs.TableLaws.{both_hold}
use Rattle.engine.specs.Batch.{Parsed, parsed, packet_here, parsed_end, short_here, refused_here}
use Rattle.key.specs.declared.encapsulation.Encapsulation.{Encapsulation}
use Rattle.stats.specs.declared.range.Range.{Range}
use Rattle.forms.specs.Form.{stop}
use Rattle.forms.specs.declared.stop.Stop.{Stop}

-- ## Packets are read back

-- packet forms one behind another
abbrev pub forms : List Packet → List ℕ
forms [] = []
forms (p ∷ ps) = packet.write p ++ forms ps

-- a packet's form in front
packet_first : (p : Packet) (rest : List ℕ) → PacketInRange p
    → parsed (packet.write p ++ rest) ≡ record { packets = p ∷ (parsed rest).packets; ends = (parsed rest).ends }
packet_first p rest h =
    let l = packet.write p ++ rest in
    let long = length-append (packet.write p) rest in
    let next = length l - length rest in
    let here : read_at packet l 0 ≡ got p next =
    placed_front packet.read l
    ∙ ap (λ (r : Read Packet (List ℕ)). and_then r (λ a after. got a (length l - length after))) (packet.there p rest (packet_valid p h)) in
    let first = packet_here l 0 (omega (arith, long, packet_at_least p)) p next here in
    first.parse
    ∙ ap (λ (k : List ℕ). record { packets = p ∷ (parsed k).packets; ends = (parsed k).ends })
    (drop_at (packet.write p) rest next (omega (arith, long)))

-- what was written is read back, whatever stands behind the packets
pub packets_then : (ps : List Packet) (rest : List ℕ) → All PacketInRange ps
    → parsed (forms ps ++ rest) ≡ record { packets = ps ++ (parsed rest).packets; ends = (parsed rest).ends }
packets_then [] rest a = refl
packets_then (p ∷ ps) rest a =
    ap parsed (append_assoc (packet.write p) (forms ps) rest) ∙ packet_first p (forms ps ++ rest) a.0
    ∙ ap (λ (x : Parsed). record { packets = p ∷ x.packets; ends = x.ends }) (packets_then ps rest a.1)

-- packets with something behind them that is no packet
packets_end : (ps : List Packet) (rest : List ℕ) (ends : Refusal) → All PacketInRange ps → parsed rest ≡ record { packets = []; ends = ends }
    → parsed (forms ps ++ rest) ≡ record { packets = ps; ends = ends }
packets_end ps rest ends a e =
    packets_then ps rest a
    ∙ ap (λ (x : Parsed). record { packets = ps ++ x.packets; ends = x.ends }) e
    ∙ ap (λ (l : List Packet). record { packets = l; ends = ends }) (append-nil ps)

pub batch_of_packets : (ps : List Packet) → All PacketInRange ps → parsed (forms ps) ≡ record { packets = ps; ends = Accepted }
batch_of_packets ps a = ap parsed (sym (append-nil (forms ps))) ∙ packets_end ps [] Accepted a (parsed_end [] refl)

-- ## The batches of the rows

-- bytes that are read as these packets and what stands behind them
abbrev pub CallFed : Call → Type 0
CallFed (feed n ps ends) = (batch : List ℕ) × (parsed batch ≡ record { packets = ps; ends = ends })
CallFed (sweep n t) = Unit {0}
CallFed (drain n) = Unit {0}

abbrev pub RowFed : Row → Type 0
RowFed (plays ms capacity steps) = All (λ x. CallFed x.call) steps
RowFed (from ms capacity clock flows steps) = All (λ x. CallFed x.call) steps
RowFed (holds ms t) = Unit {0}

-- a packet in range, as a test
abbrev endpoints_fit : Endpoints → Bool
endpoints_fit Endpoints.None = true
endpoints_fit (Endpoints.Ports s d) = ltb s (2 ^ 16) && ltb d (2 ^ 16)
endpoints_fit (Endpoints.SecurityAssociation i) = ltb i (2 ^ 32)
endpoints_fit (Endpoints.GreProtocol p) = ltb p (2 ^ 16)

abbrev address_fits : Address → Bool
address_fits (Address.V4 a) = ltb a (2 ^ 32)
address_fits (Address.V6 h l) = ltb h (2 ^ 64) && ltb l (2 ^ 64)

abbrev mac_fits : MacAddress → Bool
mac_fits m = ltb m.high (2 ^ 16) && ltb m.low (2 ^ 32)

abbrev vlan_fits : VlanTags → Bool
vlan_fits VlanTags.Untagged = true
vlan_fits (VlanTags.Single t) = ltb t (2 ^ 16)
vlan_fits (VlanTags.Double t u) = ltb t (2 ^ 16) && ltb u (2 ^ 16)

abbrev tunnel_fits : Option Encapsulation → Bool
tunnel_fits None = true
tunnel_fits (Some e) = ltb e.kind (2 ^ 8) && leb (number32 e.id) (2 ^ 32)

abbrev key_tests : FlowKey → List Bool
key_tests k =
    ltb k.protocol (2 ^ 8) ∷ leb (number16 k.ethertype) (2 ^ 16) ∷ endpoints_fit k.endpoints ∷ address_fits k.source
    ∷ address_fits k.destination ∷ mac_fits k.source_mac ∷ mac_fits k.destination_mac ∷ vlan_fits k.vlan
    ∷ tunnel_fits k.encapsulation ∷ []

abbrev facts_tests : PacketFacts → List Bool
facts_tests p =
    ltb p.time.0 (2 ^ 64) ∷ ltb p.frame_octets (2 ^ 32) ∷ ltb p.captured_octets (2 ^ 32) ∷ leb (number8 p.ttl) (2 ^ 8)
    ∷ leb (number16 p.tcp_flags) (2 ^ 9) ∷ leb (number16 p.icmp) (2 ^ 16) ∷ leb (number8 p.dscp) (2 ^ 8)
    ∷ leb (number8 p.ecn) (2 ^ 8) ∷ []

-- all of them
abbrev passed : List Bool → Bool
passed [] = true
passed (b ∷ bs) = b && passed bs

is_true : (b : Bool) → T b → b ≡ true
is_true true t = refl
is_true false t = absurd t

each_passed : (bs : List Bool) → T (passed bs) → All T bs
each_passed [] t = tt
each_passed (b ∷ bs) t = let h = both_hold b (passed bs) t in (h.0, each_passed bs h.1)

abbrev packets_fit : List Packet → Bool
packets_fit [] = true
packets_fit (p ∷ ps) = passed (facts_tests p.facts) && (passed (key_tests p.key) && packets_fit ps)

-- two numbers, each below its bound
both_below : (a b m n : ℕ) → T (ltb a m && ltb b n) → (a < m) × (b < n)
both_below a b m n t = let h = both_hold (ltb a m) (ltb b n) t in (ltb→lt a m h.0, ltb→lt b n h.1)

endpoints_fit_lem : (e : Endpoints) → T (endpoints_fit e) → EndpointsInRange e
endpoints_fit_lem Endpoints.None t = tt
endpoints_fit_lem (Endpoints.Ports s d) t = both_below s d (2 ^ 16) (2 ^ 16) t
endpoints_fit_lem (Endpoints.SecurityAssociation i) t = ltb→lt i (2 ^ 32) t
endpoints_fit_lem (Endpoints.GreProtocol p) t = ltb→lt p (2 ^ 16) t

address_fits_lem : (a : Address) → T (address_fits a) → AddressInRange a
address_fits_lem (Address.V4 a) t = ltb→lt a (2 ^ 32) t
address_fits_lem (Address.V6 h l) t = both_below h l (2 ^ 64) (2 ^ 64) t

vlan_fits_lem : (v : VlanTags) → T (vlan_fits v) → VlanInRange v
vlan_fits_lem VlanTags.Untagged t = tt
vlan_fits_lem (VlanTags.Single a) t = ltb→lt a (2 ^ 16) t
vlan_fits_lem (VlanTags.Double a b) t = both_below a b (2 ^ 16) (2 ^ 16) t

tunnel_fits_lem : (e : Option Encapsulation) → T (tunnel_fits e) → EncapsulationInRange e
tunnel_fits_lem None t = tt
tunnel_fits_lem (Some e) t =
    let h = both_hold (ltb e.kind (2 ^ 8)) (leb (number32 e.id) (2 ^ 32)) t in
    (ltb→lt e.kind (2 ^ 8) h.0, leb→le (number32 e.id) (2 ^ 32) h.1)

key_fits : (k : FlowKey) → T (passed (key_tests k)) → KeyInRange k
key_fits k t =
    let (protocol, (ethertype, (endpoints, (source, (destination, (source_mac_lem, (destination_mac_lem, (vlan, (encapsulation, end))))))))) =
    each_passed (key_tests k) t in
    record {
      protocol = ltb→lt k.protocol (2 ^ 8) protocol;
      ethertype = leb→le (number16 k.ethertype) (2 ^ 16) ethertype;
      endpoints = endpoints_fit_lem k.endpoints endpoints;
      source = address_fits_lem k.source source;
      destination = address_fits_lem k.destination destination;
      source_mac_lem = both_below k.source_mac.high k.source_mac.low (2 ^ 16) (2 ^ 32) source_mac_lem;
      destination_mac_lem = both_below k.destination_mac.high k.destination_mac.low (2 ^ 16) (2 ^ 32) destination_mac_lem;
      vlan = vlan_fits_lem k.vlan vlan;
      encapsulation = tunnel_fits_lem k.encapsulation encapsulation;
    }

facts_fit_lem : (p : PacketFacts) → T (passed (facts_tests p)) → FactsInRange p
facts_fit_lem p t =
    let (time, (frame, (captured, (ttl, (flags, (icmp, (dscp, (ecn, end)))))))) = each_passed (facts_tests p) t in
    record {
      time = ltb→lt p.time.0 (2 ^ 64) time;
      frame = ltb→lt p.frame_octets (2 ^ 32) frame;
      captured = ltb→lt p.captured_octets (2 ^ 32) captured;
      ttl = leb→le (number8 p.ttl) (2 ^ 8) ttl;
      flags = leb→le (number16 p.tcp_flags) (2 ^ 9) flags;
      icmp = leb→le (number16 p.icmp) (2 ^ 16) icmp;
      dscp = leb→le (number8 p.dscp) (2 ^ 8) dscp;
      ecn = leb→le (number8 p.ecn) (2 ^ 8) ecn;
    }

packets_fit_lem : (ps : List Packet) → T (packets_fit ps) → All PacketInRange ps
packets_fit_lem [] t = tt
packets_fit_lem (p ∷ ps) t =
    let h = both_hold (passed (facts_tests p.facts)) (passed (key_tests p.key) && packets_fit ps) t in
    let k = both_hold (passed (key_tests p.key)) (packets_fit ps) h.1 in
    (record { facts = facts_fit_lem p.facts h.0; key = key_fits p.key k.0 }, packets_fit_lem ps k.1)

-- what may stand behind the packets: nothing, bytes that are no packet, or bytes that stop too early
abbrev ends_fit : Refusal → Bool
ends_fit Accepted = true
ends_fit BadPacket = true
ends_fit Short = true
ends_fit Full = false
ends_fit Spent = false
ends_fit Room = false

module _ {A B : Type 0} (f : Form A) (g : Form B) (l : List ℕ) where
  first_refused : f.read l ≡ stop Stop.Refused → (pair f g).read l ≡ stop Stop.Refused
  first_refused e = rw (pair_is, follow_reads, e)

  first_short : f.read l ≡ stop Stop.Short → (pair f g).read l ≡ stop Stop.Short
  first_short e = rw (pair_is, follow_reads, e)

  then_short : (a : A) → f.read l ≡ got a [] → g.read [] ≡ stop Stop.Short → (pair f g).read l ≡ stop Stop.Short
  then_short a e h =
      rw (pair_is, follow_reads, e)
      (ap (λ (x : Form (A × B)). x.read []) (with_first_is f g a) ∙ over_ends (λ b. (a, b)) (λ x. x.1) g (λ b v. refl) h)

module _ {A B : Type 0} (to : A → B) (back : B → A) (f : Form A) (undo : (a : A) → f.valid a → back (to a) ≡ a) (l : List ℕ) where
  over_refused : f.read l ≡ stop Stop.Refused → (over to back f undo).read l ≡ stop Stop.Refused
  over_refused e = rw (over_reads, e)

  over_short : f.read l ≡ stop Stop.Short → (over to back f undo).read l ≡ stop Stop.Short
  over_short e = rw (over_reads, e)

-- a time that is not in its shortest form
bad_number : (number top64).read (128 ∷ 0 ∷ []) ≡ stop Stop.Refused
unfolding read_groups
bad_number = ap (λ (read : List ℕ → Read ℕ (List ℕ)). read (128 ∷ 0 ∷ [])) (number_reads top64)

bad_time : packet.read (128 ∷ 0 ∷ []) ≡ stop Stop.Refused
unfolding packet facts
bad_time =
    over_refused to_packet from_packet _ (λ x v. refl) _
    (first_refused _ _ _ (over_refused to_facts from_facts _ (λ x v. refl) _ (first_refused _ _ _ bad_number)))

-- a time, and nothing behind it
whole_number : (number top64).read (0 ∷ []) ≡ got 0 []
unfolding read_groups
whole_number = ap (λ (read : List ℕ → Read ℕ (List ℕ)). read (0 ∷ [])) (number_reads top64)

only_time : packet.read (0 ∷ []) ≡ stop Stop.Short
unfolding packet facts
only_time =
    over_short to_packet from_packet _ (λ x v. refl) _
    (first_short _ _ _ (over_short to_facts from_facts _ (λ x v. refl) _ (then_short _ _ _ 0 whole_number (pair_ends _ _ (number_ends top32)))))

at_front : (l : List ℕ) (r : Read Packet (List ℕ)) → packet.read l ≡ r → read_at packet l 0 ≡ and_then r (λ a after. got a (length l - length after))
at_front l r e = placed_front packet.read l ∙ ap (λ (x : Read Packet (List ℕ)). and_then x (λ a after. got a (length l - length after))) e

batch_for : (ps : List Packet) (ends : Refusal) → All PacketInRange ps → T (ends_fit ends)
    → (batch : List ℕ) × (parsed batch ≡ record { packets = ps; ends = ends })
batch_for ps Accepted a t = (forms ps, batch_of_packets ps a)
batch_for ps BadPacket a t =
    let l : List ℕ = 128 ∷ 0 ∷ [] in
    (forms ps ++ l, packets_end ps l BadPacket a (refused_here l 0 (omega arith) (at_front l (stop Stop.Refused) bad_time)))
batch_for ps Short a t =
    let l : List ℕ = 0 ∷ [] in
    (forms ps ++ l, packets_end ps l Short a (short_here l 0 (omega arith) (at_front l (stop Stop.Short) only_time)))
batch_for ps Full a t = absurd t
batch_for ps Spent a t = absurd t
batch_for ps Room a t = absurd t

abbrev call_fits : Call → Bool
call_fits (feed n ps ends) = packets_fit ps && ends_fit ends
call_fits (sweep n t) = true
call_fits (drain n) = true

abbrev steps_fit : List Step → Bool
steps_fit [] = true
steps_fit (x ∷ xs) = call_fits x.call && steps_fit xs

abbrev rows_fit : List Row → Bool
rows_fit [] = true
rows_fit (plays ms capacity steps ∷ rows) = steps_fit steps && rows_fit rows
rows_fit (from ms capacity clock flows steps ∷ rows) = steps_fit steps && rows_fit rows
rows_fit (holds ms t ∷ rows) = rows_fit rows

call_fed : (c : Call) → T (call_fits c) → CallFed c
call_fed (feed n ps ends) t =
    let h = both_hold (packets_fit ps) (ends_fit ends) t in
    batch_for ps ends (packets_fit_lem ps h.0) h.1
call_fed (sweep n k) t = tt
call_fed (drain n) t = tt

steps_fed : (xs : List Step) → T (steps_fit xs) → All (λ x. CallFed x.call) xs
steps_fed [] t = tt
steps_fed (x ∷ xs) t = let h = both_hold (call_fits x.call) (steps_fit xs) t in (call_fed x.call h.0, steps_fed xs h.1)

rows_fed : (rows : List Row) → T (rows_fit rows) → All RowFed rows
rows_fed [] t = tt
rows_fed (plays ms capacity steps ∷ rows) t =
    let h = both_hold (steps_fit steps) (rows_fit rows) t in
    (steps_fed steps h.0, rows_fed rows h.1)
rows_fed (from ms capacity clock flows steps ∷ rows) t =
    let h = both_hold (steps_fit steps) (rows_fit rows) t in
    (steps_fed steps h.0, rows_fed rows h.1)
rows_fed (holds ms k ∷ rows) t = (tt, rows_fed rows t)

examples_fit : T (rows_fit examples)
unfolding examples
examples_fit = tt

further_fit : T (rows_fit further)
unfolding further
further_fit = tt

-- every batch of the tables can be handed in
pub examples_fed : All RowFed examples
examples_fed = rows_fed examples examples_fit

pub further_fed : All RowFed further
further_fed = rows_fed further further_fit

-- ## The states of the rows that begin with open flows

-- the engine that such a row begins with is sound
abbrev pub RowSound : Row → Type 0
RowSound (plays ms capacity steps) = Unit {0}
RowSound (from ms capacity clock flows steps) =
    SoundEngine (opened_with key_bytes record_size ms capacity) (record { clock = clock; flows = flows_of key_bytes record_size flows })
RowSound (holds ms t) = Unit {0}

abbrev lengths_fit : Option (Range ℕ) → Bool
lengths_fit o = leb (number32 (least_of32 o)) (2 ^ 32) && leb (number32 (greatest_of32 o)) (2 ^ 32)

abbrev ttl_fits : Option (Range ℕ) → Bool
ttl_fits o = leb (number8 (least_of8 o)) (2 ^ 8) && leb (number8 (greatest_of8 o)) (2 ^ 8)

abbrev flow_tests : FlowKey → FlowRecord → List Bool
flow_tests k r =
    passed (key_tests k) ∷ sound_aside r ∷ ltb r.time.start.0 (2 ^ 64) ∷ ltb r.time.end.0 (2 ^ 64) ∷ lengths_fit r.forward.packet_length
    ∷ lengths_fit r.reverse.packet_length ∷ ttl_fits r.network.ttl ∷ leb (number8 r.network.dscp) (2 ^ 8)
    ∷ leb (number8 r.network.ecn) (2 ^ 8)
    ∷ leb (number16 r.transport.icmp) (2 ^ 16) ∷ ltb r.capture.captured_octets (2 ^ 64) ∷ []

both_at_most : (a b n : ℕ) → T (leb a n && leb b n) → (a ≤ n) × (b ≤ n)
both_at_most a b n t = let h = both_hold (leb a n) (leb b n) t in (leb→le a n h.0, leb→le b n h.1)

lengths_fit_lem : (o : Option (Range ℕ)) → T (lengths_fit o) → LengthsInRange o
lengths_fit_lem o t = both_at_most (number32 (least_of32 o)) (number32 (greatest_of32 o)) (2 ^ 32) t

ttl_fits_lem : (o : Option (Range ℕ)) → T (ttl_fits o) → TtlInRange o
ttl_fits_lem o t = both_at_most (number8 (least_of8 o)) (number8 (greatest_of8 o)) (2 ^ 8) t

flow_sound : (k : FlowKey) (r : FlowRecord) → T (passed (flow_tests k r)) → SoundFlow k r
flow_sound k r t =
    let (key, (sound, (start, (end, (forward, (reverse, (ttl, (dscp, (ecn, (icmp, (captured, last))))))))))) =
    each_passed (flow_tests k r) t in
    record {
      key = key_fits k key;
      sound = is_true (sound_aside r) sound;
      start = ltb→lt r.time.start.0 (2 ^ 64) start;
      end = ltb→lt r.time.end.0 (2 ^ 64) end;
      forward = lengths_fit_lem r.forward.packet_length forward;
      reverse = lengths_fit_lem r.reverse.packet_length reverse;
      ttl = ttl_fits_lem r.network.ttl ttl;
      dscp = leb→le (number8 r.network.dscp) (2 ^ 8) dscp;
      ecn = leb→le (number8 r.network.ecn) (2 ^ 8) ecn;
      icmp = leb→le (number16 r.transport.icmp) (2 ^ 16) icmp;
      captured = ltb→lt r.capture.captured_octets (2 ^ 64) captured;
    }

-- one open flow, and the clock at 0
abbrev lone_sound : ℕ → ℕ → List (FlowKey × FlowRecord) → Bool
lone_sound capacity clock [] = false
lone_sound capacity clock ((k, r) ∷ []) = passed (eqb clock 0 ∷ leb 1 capacity ∷ passed (flow_tests k r) ∷ [])
lone_sound capacity clock ((k, r) ∷ (l, q) ∷ more) = false

abbrev rows_sound : List Row → Bool
rows_sound [] = true
rows_sound (plays ms capacity steps ∷ rows) = rows_sound rows
rows_sound (from ms capacity clock flows steps ∷ rows) = lone_sound capacity clock flows && rows_sound rows
rows_sound (holds ms t ∷ rows) = rows_sound rows

lone_sound_lem : (ms capacity clock : ℕ) (flows : List (FlowKey × FlowRecord)) (steps : List Step) → T (lone_sound capacity clock flows)
    → RowSound (from ms capacity clock flows steps)
lone_sound_lem ms capacity clock [] steps t = absurd t
lone_sound_lem ms capacity clock ((k, r) ∷ []) steps t =
    let (still, (few, (flow, end))) = each_passed (eqb clock 0 ∷ leb 1 capacity ∷ passed (flow_tests k r) ∷ []) t in
    record { clear = (tt, tt); records = (flow_sound k r flow, tt); few = leb→le 1 capacity few; still = λ z. eqb→eq clock 0 still }
lone_sound_lem ms capacity clock ((k, r) ∷ (l, q) ∷ more) steps t = absurd t

rows_sound_lem : (rows : List Row) → T (rows_sound rows) → All RowSound rows
rows_sound_lem [] t = tt
rows_sound_lem (plays ms capacity steps ∷ rows) t = (tt, rows_sound_lem rows t)
rows_sound_lem (from ms capacity clock flows steps ∷ rows) t =
    let h = both_hold (lone_sound capacity clock flows) (rows_sound rows) t in
    (lone_sound_lem ms capacity clock flows steps h.0, rows_sound_lem rows h.1)
rows_sound_lem (holds ms k ∷ rows) t = (tt, rows_sound_lem rows t)

further_tested : T (rows_sound further)
unfolding further sound_aside sound_direction sound_flags
further_tested = tt

pub further_sound : All RowSound further
further_sound = rows_sound_lem further further_tested
