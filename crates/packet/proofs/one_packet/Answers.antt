-- `packet::one_packet` meets its contract. Assumes nothing.
use Rattle.packet.proofs.Done.{packet_plans, room_is, packet_decides, packet_carries, packet_done}
use mathlib.Core.Path.{refl}
use native.Mathlib.Omega.{arith}
use borrow.Author.Rules.{rules}
use Rattle.packet.proofs.one_packet.Goals as goal

pub plan_packet-plan-requires : goal.plan_packet-plan-requires
plan_packet-plan-requires c = search (packet_plans, rules)

pub decide-decision-requires : goal.decide-decision-requires
decide-decision-requires c =
    let asked = c.requires in
    record { decide_asked = packet_decides _ _ _ _ _ _ asked.call _ _ _ _ c.plan_packet-plan.ensures (omega (arith, c.leaving-1.given, asked.list)) _ asked.in_range _ asked.key; room_len = room_is _ _ _ _ _ _ asked.call _ _ _ _ c.plan_packet-plan.ensures (omega (arith, c.leaving-1.given, asked.list)) }

pub carry_out-requires : goal.carry_out-requires
carry_out-requires c =
    let asked = c.requires in
    packet_carries _ _ _ _ _ _ asked.call _ _ _ _ c.plan_packet-plan.ensures (omega (arith, c.leaving-1.given, asked.list)) _ asked.in_range _ asked.key _ c.decide-decision.ensures refl

pub shape_of-state : goal.shape_of-state
shape_of-state c =
    omega (arith, c.state-2-1.given, c.state-1.given)

pub returns : goal.returns
returns c =
    let asked = c.requires in
    packet_done _ _ _ _ _ _ asked.call _ _ _ _ c.plan_packet-plan.ensures (omega (arith, c.leaving-1.given, asked.list)) _ asked.in_range _ asked.key _ c.decide-decision.ensures refl _ _ _ _ _ _ c.carry_out.ensures
