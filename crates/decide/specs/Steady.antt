-- A packet of an open flow that stays open: by what steps 1 and 2 chose.
use Rattle.std.specs.Prelude.{ℕ, Bool, not, cond, ◌&&◌, List, eqb, None, Option, Some}
use Rattle.slots.specs.Table.{slot}
use Rattle.flow.specs.Counting.{mask_of, has_room}
use Rattle.flow.specs.Summary.{rst, bit_of}
use Rattle.flow.specs.declared.record.PacketFacts.{PacketFacts}
use Rattle.rules.specs.Engine.{both_fins}
use Rattle.state.specs.Slot.{record_in}

-- no RST, not both FINs before the packet, and room for it
abbrev pub stays_at : List ℕ → PacketFacts → ℕ → Bool
stays_at s facts i =
    not (eqb (bit_of rst (mask_of facts.tcp_flags)) 1) && not (both_fins (record_in (slot s i))) && has_room (record_in (slot s i)) facts

-- the slot of the flow that takes the packet and stays open, where step 1 ends none
abbrev pub stays_open : List ℕ → PacketFacts → Option ℕ → Option ℕ → Option ℕ
stays_open s facts (Some j) slot = None
stays_open s facts None (Some i) = cond (stays_at s facts i) (Some i) None
stays_open s facts None None = None
