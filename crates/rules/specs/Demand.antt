-- The mission's third demand over any terms, through any calls from fresh, as a record `Demand`: calls, the engine's run, the ledger's
-- run of the same calls, and what is said of both. EngineDemand.antt has it of the engine; the proof stands in
-- proofs/DemandLaws.antt. Assumes nothing.
use Rattle.std.specs.Prelude.{◌≡◌, Bool, cond, ◌⊎◌, ℕ, suc, ◌+◌, ◌≤◌, ◌<◌, max, eqb, leb, length, take}
use mathlib.Core.List.{List, [], ◌∷◌, ◌++◌, map}
use Rattle.rules.specs.Order.{sort, those}
use Rattle.rules.specs.Totals.{total, All}
use Rattle.flow.specs.declared.time.TimeResolution.{TimeResolution}
use Rattle.flow.specs.declared.time.EndReason.{EndReason}
use Rattle.flow.specs.declared.time.EndReason.TheVariants.{IdleTimeout}
use Rattle.flow.specs.declared.record.Direction.{Direction}
use Rattle.rules.specs.Rules.{Refusal, Accepted, BadPacket, Short, Full, Spent, Room, Terms, Settings}
use Rattle.rules.specs.Rules as R
use Rattle.rules.specs.Ledger.{Numbered, Story, ledger, finished_s, engine_s, bare}
use Rattle.rules.specs.Account.{packets, of_flow, of_finished, numbered, FlowBelow, FinishedBelow, clock_after}

-- ## Calls

pub data Call (P : Type 0) : Type 0 where
  feed : (room : ℕ) → List P → (ends : Refusal) → Call P
  sweep : (room t : ℕ) → Call P
  drain : (room : ℕ) → Call P

-- the time of an unrefused sweep
abbrev pub seen : Refusal → ℕ → List ℕ
seen Accepted t = t ∷ []
seen BadPacket t = []
seen Full t = []
seen Spent t = []
seen Room t = []
seen Short t = []

module _ (W : Terms) where
  -- an engine, the records that it has handed out, the packets that it has accepted, and the times of these and of unrefused sweeps
  pub record Run : Type 0 where
    pub engine : R.Engine W
    pub finished : List (R.Finished W)
    pub accepted : List W.Packet
    pub times : List ℕ

  abbrev pub started : Run
  started = record { engine = R.fresh W; finished = []; accepted = []; times = [] }

  -- after a call that `t` answers: what it takes of the batch, and the times that it sees
  abbrev pub fed : Run → List W.Packet → R.Told W → Run
  fed r ps t =
      record {
        engine = t.engine;
        finished = r.finished ++ t.finished;
        accepted = r.accepted ++ take t.taken ps;
        times = r.times ++ map W.time (take t.taken ps);
      }

  abbrev pub swept : Run → ℕ → R.Told W → Run
  swept r x t =
      record { engine = t.engine; finished = r.finished ++ t.finished; accepted = r.accepted; times = r.times ++ seen t.refusal x }

  abbrev pub drained : Run → R.Told W → Run
  drained r t = record { engine = t.engine; finished = r.finished ++ t.finished; accepted = r.accepted; times = r.times }

  abbrev pub step : Settings → Call W.Packet → Run → Run
  step s (feed room ps ends) r = fed r ps (R.feed_all W s room ps ends r.engine)
  step s (sweep room x) r = swept r x (R.sweep_at W s room x r.engine)
  step s (drain room) r = drained r (R.drain_all W room r.engine)

  abbrev pub run : Settings → List (Call W.Packet) → Run → Run
  run s [] r = r
  run s (c ∷ cs) r = run s cs (step s c r)

-- ## The chronicle: the ledger's run of the same calls. Packets are numbered as they are accepted; a refused one stops its batch,
-- so those before it have the next numbers.

module _ (W : Terms) where
  abbrev N : Terms
  N = ledger W

  abbrev pub Chronicle : Type 0
  Chronicle = Run N

  abbrev pub noted : Settings → Call W.Packet → Chronicle → Chronicle
  noted s (feed room ps ends) c = step N s (feed room (numbered (length c.accepted) ps) ends) c
  noted s (sweep room x) c = step N s (sweep room x) c
  noted s (drain room) c = step N s (drain room) c

  abbrev pub chronicle : Settings → List (Call W.Packet) → Chronicle → Chronicle
  chronicle s [] c = c
  chronicle s (k ∷ ks) c = chronicle s ks (noted s k c)

  -- ## The engine is the ledger summarised

  abbrev pub run_s : Run N → Run W
  run_s r =
      record {
        engine = engine_s W r.engine;
        finished = map (finished_s W) r.finished;
        accepted = bare W r.accepted;
        times = r.times;
      }

  -- ## What stays true of the chronicle

  -- the numbers go up by one from n
  abbrev pub Counts : ℕ → List (Numbered W.Packet) → Type 0
  Counts n [] = Unit {0}
  Counts n (p ∷ ps) = (p.number ≡ n) × Counts (suc n) ps

  pub record Kept (s : Settings) (c : Chronicle) : Type 0 where
    pub conserved : (m : N.Packet → ℕ) → total (of_flow W m) c.engine.flows + total (of_finished W m) c.finished ≡ total m c.accepted
    pub open_below : All (FlowBelow W (length c.accepted)) c.engine.flows
    pub finished_below : All (FinishedBelow W (length c.accepted)) c.finished
    pub counts : Counts 0 c.accepted
    pub clock : c.engine.clock ≡ clock_after s 0 c.times

-- ## A place in a list

abbrev pub In : {A : Type 0} → A → List A → Type 0
In {A} x l = (before : List A) × (after : List A) × (l ≡ before ++ (x ∷ after))

-- ## The latest time

abbrev pub latest_of : List ℕ → ℕ
latest_of [] = 0
latest_of (t ∷ ts) = max t (latest_of ts)

-- what the sweep condition asks of the terms: a record's end is the latest time of its packets
pub record Timed (W : Terms) : Type 0 where
  pub begins : (r : TimeResolution) (p : W.Packet) → W.latest (W.begun r p) ≡ W.time p
  pub widens : (d : Direction) (p : W.Packet) (h : W.Held) → W.latest (W.counted d p h) ≡ max (W.latest h) (W.time p)

-- a number of the records to which each packet adds
pub record Tally (W : Terms) : Type 0 where
  pub of : W.Held → ℕ
  pub each : W.Packet → ℕ
  pub begins : (r : TimeResolution) (p : W.Packet) → of (W.begun r p) ≡ each p
  pub adds : (d : Direction) (p : W.Packet) (h : W.Held) → of (W.counted d p h) ≡ of h + each p

module _ (W : Terms) where
  abbrev K : Terms
  K = ledger W

  abbrev pub times_of : Story K.Packet → List ℕ
  times_of l = map K.time (packets l)

  -- the flow's latest packet time plus timeout plus lateness allowance is at or below w
  abbrev pub due : Settings → ℕ → R.Flow K → Bool
  due s w f = leb (latest_of (times_of f.held) + s.T + s.L) w

  -- ## Each number once

  -- 1 for the packet with number i, 0 for any other
  abbrev pub is_number : ℕ → K.Packet → ℕ
  is_number i p = cond (eqb p.number i) 1 0

  -- a tally over all the records of a run
  abbrev pub tallied : Tally W → Run W → ℕ
  tallied y r = total (λ f. y.of f.held) r.engine.flows + total (λ f. y.of f.held) r.finished

  -- the records of the flows that are due at w, by end and then key bytes
  abbrev pub due_records : Settings → ℕ → List (R.Flow K) → List (R.Finished W)
  due_records s w fs = map (finished_s W) (map (R.finish_or K IdleTimeout) (sort (R.by_end K) (those (due s w) fs)))

  -- an unrefused packet hands out these records first, and at most one more
  abbrev pub HandsOut : List (R.Finished W) → R.Answer W → Type 0
  HandsOut out (R.refused r) = Unit {0}
  HandsOut out (R.done d) = (rest : List (R.Finished W)) × (d.finished ≡ out ++ rest) × (length rest ≤ 1)

  -- ## The story that takes a packet is the one that the rules name

  -- the flow that takes the packet: what step 2 chooses among the flows that the packet's sweep and step 1 left
  abbrev pub named_taker : Settings → K.Packet → R.Engine K → R.Taker K
  named_taker s p e =
      let fs = R.staying K s (R.clock_at K s e.clock (K.time p)) e.flows in
      R.taker K p (R.apart K (R.reused K p fs) fs)

  -- an unrefused packet is in that flow's story, which is open or among the records handed out
  abbrev pub Placed : R.Flow K → R.Answer K → Type 0
  Placed f (R.refused r) = Unit {0}
  Placed f (R.done d) = In f d.engine.flows ⊎ ((r : EndReason) × In (R.finish K r f) d.finished)

  -- ## The third demand

  -- the engine's run and the chronicle of the same calls, from fresh
  module _ (s : Settings) (calls : List (Call W.Packet)) where
    abbrev pub engine_run : Run W
    engine_run = run W s calls (started W)

    abbrev pub ledger_run : Run K
    ledger_run = chronicle W s calls (started K)

    -- a packet with the number that it has if it is accepted next
    abbrev pub next_one : W.Packet → K.Packet
    next_one p = record { number = length ledger_run.accepted; packet = p }

    pub record Demand : Type 0 where
      -- each record, open or finished, is the plain summary of its packets in order of acceptance, with the reason the rules give
      pub summaries : engine_run ≡ run_s W ledger_run
      -- the accepted packets are numbered in order of acceptance, and in each flow the numbers ascend
      pub numbers : Counts W 0 ledger_run.accepted
      pub open_in_order : All (FlowBelow W (length ledger_run.accepted)) ledger_run.engine.flows
      pub finished_in_order : All (FinishedBelow W (length ledger_run.accepted)) ledger_run.finished
      -- each accepted packet is in exactly one open or finished flow, once
      pub exactly_one : (i : ℕ) → i < length ledger_run.accepted
          → total (of_flow W (is_number i)) ledger_run.engine.flows + total (of_finished W (is_number i)) ledger_run.finished ≡ 1
      -- .. the one that the rules name
      pub placed : (room : ℕ) (p : W.Packet)
          → Placed (R.taking K s (next_one p) (named_taker s (next_one p) ledger_run.engine)) (R.one_packet K s room (next_one p) ledger_run.engine)
      -- packets, octets and flag counts over all records equal those over the accepted packets
      pub totals : (y : Tally W) → tallied y engine_run ≡ total y.each engine_run.accepted
      -- with a nonzero timeout the clock is the latest time seen, refused packets and sweeps left out
      pub clock : 0 < s.T → engine_run.engine.clock ≡ latest_of engine_run.times
      pub no_clock : s.T ≡ 0 → engine_run.engine.clock ≡ 0
      -- with a nonzero timeout an unrefused sweep, here or next, hands out exactly the flows that are due at the latest time seen, its
      -- own included; and so does the sweep of an unrefused packet, with at most one record behind them
      pub sweeps : Timed W → 0 < s.T → (room t : ℕ) → (R.sweep_at W s room t engine_run.engine).refusal ≡ Accepted
          → (R.sweep_at W s room t engine_run.engine).finished ≡ due_records s (latest_of (engine_run.times ++ (t ∷ []))) ledger_run.engine.flows
      pub packet_sweeps : Timed W → 0 < s.T → (room : ℕ) (p : W.Packet)
          → HandsOut (due_records s (latest_of (engine_run.times ++ (W.time p ∷ []))) ledger_run.engine.flows) (R.one_packet W s room p engine_run.engine)
