-- The ledger: the same rules, where a flow holds the packets that it took, in order of acceptance, in place of a record. That the
-- engine is the ledger summarised stands in proofs/LedgerLaws.antt. Assumes nothing.
use Rattle.std.specs.Prelude.{ℕ}
use mathlib.Core.List.{List, map}
use Rattle.flow.specs.declared.time.TimeResolution.{TimeResolution}
use Rattle.flow.specs.declared.record.Direction.{Direction}
use Rattle.rules.specs.Rules.{Terms}
use Rattle.rules.specs.Rules as R

-- a packet with its number in the order of acceptance
pub record Numbered (P : Type 0) : Type 0 where
  pub number : ℕ
  pub packet : P

-- what a flow took: its first packet, which opened it at a resolution, and then more, each in its direction
pub data Story (P : Type 0) : Type 0 where
  first : TimeResolution → P → Story P
  more : Story P → Direction → P → Story P

-- the plain summary of a flow's packets in order of acceptance
abbrev pub summary : (W : Terms) → Story (Numbered W.Packet) → W.Held
summary W (first r p) = W.begun r p.packet
summary W (more l d p) = W.counted d p.packet (summary W l)

abbrev pub ledger : Terms → Terms
ledger W =
    record {
      Key = W.Key;
      bytes = W.bytes;
      reversed = W.reversed;
      association = W.association;
      Packet = Numbered W.Packet;
      time = λ p. W.time p.packet;
      key = λ p. W.key p.packet;
      syn = λ p. W.syn p.packet;
      rst = λ p. W.rst p.packet;
      Held = Story (Numbered W.Packet);
      begun = first;
      counted = λ d p l. more l d p;
      latest = λ l. W.latest (summary W l);
      closed = λ l. W.closed (summary W l);
      spent = λ p l. W.spent p.packet (summary W l);
      size = λ k r l. W.size k r (summary W l);
    }

-- ## Sorting, choosing and finding go through a map

module _ (W : Terms) where
  abbrev M : Terms
  M = ledger W

  -- ## A flow, a record, a state and an answer, summarised

  abbrev pub flow_s : R.Flow M → R.Flow W
  flow_s f = record { name = f.name; held = summary W f.held }

  abbrev pub finished_s : R.Finished M → R.Finished W
  finished_s f = record { name = f.name; held = summary W f.held; reason = f.reason }

  abbrev pub engine_s : R.Engine M → R.Engine W
  engine_s e = record { clock = e.clock; flows = map flow_s e.flows }

  abbrev pub told_s : R.Told M → R.Told W
  told_s t =
      record {
        refusal = t.refusal;
        taken = t.taken;
        opens = t.opens;
        finished = map finished_s t.finished;
        engine = engine_s t.engine;
      }

  -- ## Calls, summarised

  abbrev pub bare : List M.Packet → List W.Packet
  bare ps = map (λ p. p.packet) ps
