-- The mission's third demand, of the engine: through every sequence of calls from a fresh one. `third_demand`, at the end. Assumes
-- nothing.
use Rattle.std.specs.Prelude.{◌≡◌, List, [], ◌∷◌, length}
use Rattle.std.proofs.Common.{◌∙◌, arith}
use Rattle.wire.specs.declared.packet.Packet.{Packet}
use Rattle.rules.specs.Totals.{total}
use Rattle.rules.specs.Rules.{Settings}
use Rattle.rules.specs.Engine.{engine}
use Rattle.rules.specs.Demand.{Call}
use Rattle.rules.proofs.DemandLaws.{demand}
use Rattle.rules.proofs.EngineTermsLaws.{engine_timed, packet_tally, octet_tally, flag_tally}
use Rattle.rules.specs.EngineDemand.{engine_run, ThirdDemand}

module _ (s : Settings) (calls : List (Call Packet)) where
  ones : {A : Type 0} (l : List A) → total (λ _. 1) l ≡ length l
  ones [] = omega arith
  ones (x ∷ l) = omega (arith, ones l)

  pub third_demand : ThirdDemand s calls
  unfolding packet_tally octet_tally flag_tally
  third_demand =
      let d = demand engine s calls in
      record {
        numbers = d.numbers;
        exactly_one = d.exactly_one;
        placed = d.placed;
        open_in_order = d.open_in_order;
        finished_in_order = d.finished_in_order;
        open_records = λ i. (d.summaries i).engine.flows;
        finished_records = λ i. (d.summaries i).finished;
        accepted_packets = λ i. (d.summaries i).accepted;
        packets = d.totals packet_tally ∙ ones (engine_run s calls).accepted;
        octets = d.totals octet_tally;
        flags = λ k. d.totals (flag_tally k);
        sweeps = d.sweeps engine_timed;
        packet_sweeps = d.packet_sweeps engine_timed;
        clock = d.clock;
        no_clock = d.no_clock;
      }
