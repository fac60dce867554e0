-- The plain rules of document 01, in its order and words: times, sweep, drain, one packet, the refusals Full, Spent and Room, batches.
-- They speak of keys, packets and what a flow holds only through `Terms`, so that one text serves the engine, whose flows hold
-- records (Engine.antt), and the ledger, whose flows hold the packets that they took (Ledger.antt). Assumes nothing.
use Rattle.std.specs.Prelude.{Bool, true, false, not, cond, ◌&&◌, List, [], ◌∷◌, ◌++◌, map, ℕ, suc, ◌+◌, ◌-◌, max, leb, eqb, length, None, Option, Some}
use Rattle.flow.specs.Idle.{timeout_of, lateness_of}
use Rattle.flow.specs.declared.time.Millis.{Millis}
use Rattle.flow.specs.declared.time.TimeResolution.{TimeResolution}
use Rattle.flow.specs.declared.time.EndReason.{EndReason}
use Rattle.flow.specs.declared.time.EndReason.TheVariants.{IdleTimeout, Fin, Rst, CaptureEnd}
use Rattle.flow.specs.declared.record.Direction.{Direction}
use Rattle.flow.specs.declared.record.Direction.TheVariants.{Forward, Reverse}
use Rattle.rules.specs.Order.{equal, insert, sort, those}

-- what the rules ask of a key, a packet, and what a flow holds
pub record Terms : Type 1 where
  pub Key : Type 0
  -- the key form
  pub bytes : Key → List ℕ
  pub reversed : Key → Key
  -- "the endpoints are a security association"
  pub association : Key → Bool
  pub Packet : Type 0
  pub time : Packet → ℕ
  pub key : Packet → Key
  pub syn : Packet → Bool
  pub rst : Packet → Bool
  pub Held : Type 0
  -- opened at a resolution, its first packet counted forward
  pub begun : TimeResolution → Packet → Held
  pub counted : Direction → Packet → Held → Held
  -- "end"
  pub latest : Held → ℕ
  -- "both FINs were seen"
  pub closed : Held → Bool
  -- "would pass 2^64 − 1"
  pub spent : Packet → Held → Bool
  -- the bytes of the record form, with its end reason
  pub size : Key → EndReason → Held → ℕ

-- ## Times

-- "Both, and the bucket width, belong to the engine."
pub record Settings : Type 0 where
  pub T : ℕ
  pub L : ℕ
  pub resolution : TimeResolution
  pub capacity : ℕ

-- "The timeout is given in milliseconds and kept in nanoseconds"; T and L are flow's `timeout_of` and `lateness_of`
abbrev pub settings : Millis → TimeResolution → ℕ → Settings
settings ms resolution capacity =
    record { T = timeout_of ms; L = lateness_of (timeout_of ms); resolution = resolution; capacity = capacity }

-- ## Refusals

-- none, and those that a packet, a sweep or a drain may meet: 4, 5, 6, 7 and 9
pub data Refusal : Type 0 where
  Accepted BadPacket Full Spent Room Short : Refusal

-- document 01's number of each
abbrev pub number_of : Refusal → ℕ
number_of Accepted = 0
number_of BadPacket = 4
number_of Full = 5
number_of Spent = 6
number_of Room = 7
number_of Short = 9

module _ (W : Terms) where
  open W use {Key, bytes, reversed, association, Packet, time, key, syn, rst, Held, begun, counted, latest, closed, spent, size}

  pub record Flow : Type 0 where
    pub name : Key
    pub held : Held

  pub record Finished : Type 0 where
    pub name : Key
    pub held : Held
    pub reason : EndReason

  -- the clock W, and the open flows in order of key bytes
  pub record Engine : Type 0 where
    pub clock : ℕ
    pub flows : List Flow

  -- "every clock 0 and no flow open"
  abbrev pub fresh : Engine
  fresh = record { clock = 0; flows = [] }

  -- ## Sweep at time t

  -- "The clock W becomes the greater of W and t." "With timeout 0 .. the clock stays at 0."
  abbrev pub clock_at : Settings → ℕ → ℕ → ℕ
  clock_at s w t = cond (eqb s.T 0) w (max w t)

  -- "A flow leaves exactly if end + T + L is at most W, in whole numbers." "With timeout 0 nothing is swept"
  abbrev pub leaves : Settings → ℕ → Flow → Bool
  leaves s w f = not (eqb s.T 0) && leb (latest f.held + s.T + s.L) w

  -- "Reason: Fin if both FINs were seen, else IdleTimeout." A drain: "Fin or CaptureEnd by the same test"
  abbrev pub reason_or : EndReason → Flow → EndReason
  reason_or other f = cond (closed f.held) Fin other

  abbrev pub finish : EndReason → Flow → Finished
  finish r f = record { name = f.name; held = f.held; reason = r }

  abbrev pub finish_or : EndReason → Flow → Finished
  finish_or other f = finish (reason_or other f) f

  abbrev pub by_key : Flow → List ℕ
  by_key f = bytes f.name

  -- "Order: by end, then key bytes."
  abbrev pub by_end : Flow → List ℕ
  by_end f = latest f.held ∷ by_key f

  -- the records that a sweep to clock w hands out
  abbrev pub swept : Settings → ℕ → List Flow → List Finished
  swept s w fs = map (finish_or IdleTimeout) (sort by_end (those (leaves s w) fs))

  -- .. and the flows that stay
  abbrev pub staying : Settings → ℕ → List Flow → List Flow
  staying s w fs = those (λ f. not (leaves s w f)) fs

  -- "Drain takes every flow: Fin or CaptureEnd by the same test, in order of key bytes"
  abbrev pub drained : List Flow → List Finished
  drained fs = map (finish_or CaptureEnd) (sort by_key fs)

  -- ## One packet

  -- the flow whose key has these bytes
  abbrev pub under : List ℕ → List Flow → Option Flow
  under k [] = None
  under k (f ∷ fs) = cond (equal k (by_key f)) (Some f) (under k fs)

  -- .. and the flows without it
  abbrev pub without : List ℕ → List Flow → List Flow
  without k [] = []
  without k (f ∷ fs) = cond (equal k (by_key f)) fs (f ∷ without k fs)

  -- "its key"
  abbrev pub key_of : Packet → List ℕ
  key_of p = bytes (key p)

  -- "the reversed key"
  abbrev pub reversed_of : Packet → List ℕ
  reversed_of p = bytes (reversed (key p))

  -- the flow, if it "has seen both FINs"
  abbrev pub if_closed : Option Flow → Option Flow
  if_closed None = None
  if_closed (Some f) = cond (closed f.held) (Some f) None

  abbrev pub or_else : Option Flow → Option Flow → Option Flow
  or_else (Some f) g = Some f
  or_else None g = g

  -- "1. If SYN is set and the flow under its key has seen both FINs, or else the one under the reversed key has, that flow ends Fin
  -- without this packet."
  abbrev pub reused : Packet → List Flow → Option Flow
  reused p fs = cond (syn p) (or_else (if_closed (under (key_of p) fs)) (if_closed (under (reversed_of p) fs))) None

  -- the flows without the one that step 1 ended
  abbrev pub apart : Option Flow → List Flow → List Flow
  apart None fs = fs
  apart (Some f) fs = without (by_key f) fs

  pub data Taker : Type 0 where
    old : Direction → Flow → Taker
    new : Taker

  -- "2. A flow under its key takes it as forward; else one under the reversed key takes it as reverse, unless the endpoints are a
  -- security association; else a flow opens under its key, forward."
  abbrev pub chosen : Option Flow → Bool → Option Flow → Taker
  chosen (Some f) association g = old Forward f
  chosen None true g = new
  chosen None false (Some g) = old Reverse g
  chosen None false None = new

  abbrev pub taker : Packet → List Flow → Taker
  taker p fs = chosen (under (key_of p) fs) (association (key p)) (under (reversed_of p) fs)

  abbrev pub opens : Taker → Bool
  opens (old d f) = false
  opens new = true

  -- the flows without the one that takes the packet
  abbrev pub beside : Taker → List Flow → List Flow
  beside (old d f) fs = without (by_key f) fs
  beside new fs = fs

  -- "3. The packet is counted. FIN marks its direction."
  abbrev pub taking : Settings → Packet → Taker → Flow
  taking s p (old d f) = record { name = f.name; held = counted d p f.held }
  taking s p new = record { name = key p; held = begun s.resolution p }

  -- "both FINs had been seen before this packet"
  abbrev pub was_closed : Taker → Bool
  was_closed (old d f) = closed f.held
  was_closed new = false

  -- "4. If step 1 ended a flow, nothing else ends. Otherwise RST ends the flow Rst; otherwise, if both FINs had been seen before this
  -- packet, it ends Fin."
  abbrev pub ending : Option Flow → Packet → Taker → Option EndReason
  ending (Some g) p t = None
  ending None p t = cond (rst p) (Some Rst) (cond (was_closed t) (Some Fin) None)

  -- the record of the flow that step 1 ended
  abbrev pub ended : EndReason → Option Flow → List Finished
  ended r None = []
  ended r (Some f) = finish r f ∷ []

  -- .. and of the one that step 4 ended
  abbrev pub ended_for : Option EndReason → Flow → List Finished
  ended_for None f = []
  ended_for (Some r) f = finish r f ∷ []

  -- a flow that does not end is kept, in order of key bytes
  abbrev pub keeping : Option EndReason → Flow → List Flow → List Flow
  keeping None f fs = insert by_key f fs
  keeping (Some r) f fs = fs

  -- what an unrefused packet does
  pub record Done : Type 0 where
    pub engine : Engine
    pub finished : List Finished
    pub opening : Bool

  -- steps 3 and 4. "Swept records come first, then the one that ended."
  abbrev pub steps34 : Settings → ℕ → List Finished → Option Flow → Packet → List Flow → Taker → Done
  steps34 s w out g p fs t =
      record {
        engine = record { clock = w; flows = keeping (ending g p t) (taking s p t) (beside t fs) };
        finished = out ++ (ended Fin g ++ ended_for (ending g p t) (taking s p t));
        opening = opens t;
      }

  pub data Answer : Type 0 where
    refused : Refusal → Answer
    done : Done → Answer

  -- 5 Full: "after this packet's sweep and step 1 it would open a flow, and capacity flows are open"
  abbrev pub is_full : Settings → List Flow → Taker → Bool
  is_full s fs t = opens t && leb s.capacity (length fs)

  -- 6 Spent: "the record that takes the packet would pass 2^64 − 1 in packets or octets of both directions together, or in captured
  -- octets"
  abbrev pub is_spent : Packet → Taker → Bool
  is_spent p (old d f) = spent p f.held
  is_spent p new = false

  -- the bytes that records need
  abbrev pub sizes : List Finished → ℕ
  sizes [] = 0
  sizes (f ∷ fs) = size f.name f.reason f.held + sizes fs

  -- 7 Room: "the records this packet .. finishes .. need more bytes than output has left"
  abbrev pub fitted : ℕ → Done → Answer
  fitted room d = cond (leb (sizes d.finished) room) (done d) (refused Room)

  -- steps 2 to 4, on the flows that the sweep and step 1 left. Order: "5 or 6, then 7"
  abbrev pub steps234 : Settings → ℕ → ℕ → List Finished → Option Flow → Packet → List Flow → Taker → Answer
  steps234 s room w out g p fs t =
      cond (is_full s fs t) (refused Full) (cond (is_spent p t) (refused Spent) (fitted room (steps34 s w out g p fs t)))

  -- steps 1 to 4, on the flows that the sweep left
  abbrev pub steps1234 : Settings → ℕ → ℕ → List Finished → Packet → List Flow → Option Flow → Answer
  steps1234 s room w out p fs g = steps234 s room w out g p (apart g fs) (taker p (apart g fs))

  -- "First a sweep at its time. Then:" the steps
  unfoldable pub one_packet : Settings → ℕ → Packet → Engine → Answer
  one_packet s room p e =
      let w = clock_at s e.clock (time p) in
      let fs = staying s w e.flows in
      steps1234 s room w (swept s w e.flows) p fs (reused p fs)

  -- ## Calls

  -- what a call tells: "refusal, packets taken, .. flows opened, records written", and the engine after it
  pub record Told : Type 0 where
    pub refusal : Refusal
    pub taken : ℕ
    pub opens : ℕ
    pub finished : List Finished
    pub engine : Engine

  -- what is refused changes nothing
  abbrev pub stopped : Refusal → Engine → Told
  stopped r e = record { refusal = r; taken = 0; opens = 0; finished = []; engine = e }

  -- one packet more than `rest` tells
  abbrev pub onward : Done → Told → Told
  onward d rest =
      record {
        refusal = rest.refusal;
        taken = suc rest.taken;
        opens = cond d.opening 1 0 + rest.opens;
        finished = d.finished ++ rest.finished;
        engine = rest.engine;
      }

  -- "only a refused packet stops it"
  abbrev pub next : Answer → Engine → (Done → Told) → Told
  next (refused r) e rest = stopped r e
  next (done d) e rest = onward d (rest d)

  -- "Feeding takes every packet of the batch in order, to its empty end": `ends` is what stands behind the packets, `Accepted` for the
  -- empty end, else its refusal, 4 or 9
  unfoldable pub feed_all : Settings → ℕ → List Packet → Refusal → Engine → Told
  feed_all s room [] ends e = stopped ends e
  feed_all s room (p ∷ ps) ends e =
      next (one_packet s room p e) e (λ d. feed_all s (room - sizes d.finished) ps ends d.engine)

  -- a sweep or a drain that finishes `out`. 7 Room: "the records this .. sweep or drain finishes .. need more bytes than output has left"
  abbrev pub handed : ℕ → List Finished → Engine → Engine → Told
  handed room out e after =
      cond (leb (sizes out) room)
      (record { refusal = Accepted; taken = 0; opens = 0; finished = out; engine = after })
      (stopped Room e)

  -- "Sweep at time t."
  unfoldable pub sweep_at : Settings → ℕ → ℕ → Engine → Told
  sweep_at s room t e =
      let w = clock_at s e.clock t in
      handed room (swept s w e.flows) e (record { clock = w; flows = staying s w e.flows })

  -- "Drain takes every flow ..; W stays."
  unfoldable pub drain_all : ℕ → Engine → Told
  drain_all room e = handed room (drained e.flows) e (record { clock = e.clock; flows = [] })
