-- The mission's third demand, of the engine, as a record `ThirdDemand`: through every sequence of calls from a fresh one. Its proof,
-- `third_demand`, stands in proofs/EngineDemandLaws.antt. Assumes nothing.
use Rattle.std.specs.Prelude.{◌≡◌, List, [], ◌∷◌, ◌++◌, map, ℕ, ◌+◌, ◌<◌, length}
use Rattle.flow.specs.Summary.{Flag, packets_of, octets_of, flags_of}
use Rattle.flow.specs.declared.record.FlowRecord.{FlowRecord}
use Rattle.wire.specs.declared.packet.Packet.{Packet}
use Rattle.rules.specs.Totals.{total, All}
use Rattle.rules.specs.Rules.{Terms, Accepted, Settings, one_packet, sweep_at, taking}
use Rattle.rules.specs.Engine.{engine}
use Rattle.rules.specs.Ledger.{ledger, flow_s, finished_s}
use Rattle.rules.specs.Account.{of_flow, of_finished, FlowBelow, FinishedBelow}
use Rattle.rules.specs.Demand.{Call, Run, started, run, chronicle, Counts, is_number, latest_of, due_records, HandsOut, next_one, named_taker, Placed}
use Rattle.rules.specs.EngineLaws.{octets_in, flag_in}

-- the ledger: the rules with each flow holding its story, the numbered packets that it took in order of acceptance
abbrev pub ledgers : Terms
ledgers = ledger engine

module _ (s : Settings) (calls : List (Call Packet)) where
  -- what the engine did: open flows, records handed out, packets accepted, times seen (of accepted packets and unrefused sweeps)
  abbrev pub engine_run : Run engine
  engine_run = run engine s calls (started engine)

  -- what the ledger did with the same calls
  abbrev pub ledger_run : Run ledgers
  ledger_run = chronicle engine s calls (started ledgers)

  -- a number of a record, added up over all records, open and handed out
  abbrev pub over_records : (FlowRecord → ℕ) → ℕ
  over_records of = total (λ f. of f.held) engine_run.engine.flows + total (λ f. of f.held) engine_run.finished

  pub record ThirdDemand : Type 0 where
    -- Accepted packets are numbered in order of acceptance. Each is in exactly one open or finished story ..
    pub numbers : Counts engine 0 ledger_run.accepted
    pub exactly_one : (i : ℕ) → i < length ledger_run.accepted
        → total (of_flow engine (is_number engine i)) ledger_run.engine.flows + total (of_finished engine (is_number engine i)) ledger_run.finished ≡ 1
    -- .. the one that the rules name, here or next ..
    pub placed : (room : ℕ) (p : Packet)
        → Placed engine (taking ledgers s (next_one engine s calls p) (named_taker engine s (next_one engine s calls p) ledger_run.engine))
        (one_packet ledgers s room (next_one engine s calls p) ledger_run.engine)
    -- .. and stories are in order of acceptance.
    pub open_in_order : All (FlowBelow engine (length ledger_run.accepted)) ledger_run.engine.flows
    pub finished_in_order : All (FinishedBelow engine (length ledger_run.accepted)) ledger_run.finished
    -- Each record, open or finished, is the summary of its story, and a finished one has the reason that the rules give.
    pub open_records : engine_run.engine.flows ≡ map (flow_s engine) ledger_run.engine.flows
    pub finished_records : engine_run.finished ≡ map (finished_s engine) ledger_run.finished
    pub accepted_packets : engine_run.accepted ≡ map (λ q. q.packet) ledger_run.accepted
    -- Packets, octets and each of the nine flag counts over all records equal those over the accepted packets.
    pub packets : over_records packets_of ≡ length engine_run.accepted
    pub octets : over_records octets_of ≡ total octets_in engine_run.accepted
    pub flags : (k : Flag) → over_records (flags_of k) ≡ total (flag_in k) engine_run.accepted
    -- With a nonzero timeout each unrefused sweep, here or next, hands out exactly the flows whose latest packet time + T + L is at most
    -- the latest time seen, its own included; refused packets and sweeps are not seen ..
    pub sweeps : 0 < s.T → (room t : ℕ) → (sweep_at engine s room t engine_run.engine).refusal ≡ Accepted
        → (sweep_at engine s room t engine_run.engine).finished ≡ due_records engine s (latest_of (engine_run.times ++ (t ∷ []))) ledger_run.engine.flows
    -- .. and so does the sweep of an unrefused packet, with at most one record behind them.
    pub packet_sweeps : 0 < s.T → (room : ℕ) (p : Packet)
        → HandsOut engine (due_records engine s (latest_of (engine_run.times ++ (p.facts.time.0 ∷ []))) ledger_run.engine.flows)
        (one_packet engine s room p engine_run.engine)
    -- The clock is the latest time seen; with timeout 0 it stays at 0.
    pub clock : 0 < s.T → engine_run.engine.clock ≡ latest_of engine_run.times
    pub no_clock : s.T ≡ 0 → engine_run.engine.clock ≡ 0
