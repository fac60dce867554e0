-- Document 01's "Examples on each side", P1 to P11, and the rows of ours, as promises of the calls: whoever opens a state and makes the calls of a
-- row, each call keeping its promise, is answered as the row says, `examples_kept` and `further_kept`. Assumes nothing.
use Rattle.forms.specs.Refusals.{stop_number}
use Rattle.forms.specs.declared.refusal.Refusal.{Refusal as CallRefusal}
use Rattle.std.specs.Prelude.{ℕ, ◌+◌, ◌≡◌, refl, Bool, true, false, cond, ◌&&◌, List, [], ◌∷◌, ◌++◌, map, T, eqb, leb, length, drop, Option}
use Rattle.std.proofs.Common.{sym, ap, ◌∙◌, subst, eqb→eq}
use Rattle.std.proofs.lemmas.List.{length-map}
use Rattle.flow.specs.Idle.{timeout_of}
use Rattle.flow.specs.declared.time.EndReason.{EndReason}
use Rattle.flow.specs.declared.time.StartState.{StartState}
use Rattle.flow.specs.declared.time.TimeResolution.{TimeResolution}
use Rattle.words.specs.FieldLaws.{state_back}
use Rattle.wire.specs.RecordForm.{state_number, state_from, reason_number, reason_from}
use Rattle.wire.specs.declared.packet.Packet.{Packet}
use Rattle.rules.specs.Order.{equal}
use Rattle.rules.proofs.AccountLaws.{equal_true}
use Rattle.rules.specs.Totals.{All, all_more}
use Rattle.rules.specs.Rules.{Refusal, Accepted, Room, number_of, Settings, Flow, Finished, Engine, Told}
use Rattle.rules.specs.Rules.{sizes, stopped, handed, feed_all, sweep_at, drain_all}
use Rattle.rules.specs.Rules as R
use Rattle.rules.specs.Engine.{engine, key_bytes, record_size, written}
use Rattle.rules.specs.Table.{Call, feed, sweep, drain, Out, Step, Row, plays, from, holds}
use Rattle.rules.specs.Table.{expected, given, packets_of, answer, agrees, plays_out, flows_of}
use Rattle.rules.specs.Table.{opened_with, passes, all_pass, examples, further}
use Rattle.rules.proofs.TableLaws.{examples_hold, further_hold, both_hold, each_row}
use Rattle.state.specs.State.{Sound, settings_in, meaning}
use Rattle.sweeps.specs.Promise.{Did, Swept, Drained}
use Rattle.engine.specs.declared.FeedAnswer.{FeedAnswer}
use Rattle.engine.specs.Batch.{Parsed, parsed, feed_bytes}
use Rattle.engine.specs.Feed.{Fed}
use Rattle.engine.specs.Calls.{Asked, OpenedFresh, follows}
use Rattle.engine.specs.Calls as Calls

-- ## What is promised of a row

-- the call was made on the state s, lent so much output, and kept its promise; a sweep and a drain take no packets and open no flows
abbrev pub Keeps : Call → (s room : List ℕ) (refusal taken opened records bytes : ℕ) (after out : List ℕ) → Type 0
Keeps (feed n ps ends) s room refusal taken opened records bytes after out =
    (batch : List ℕ) × (used : ℕ) × (why : Option CallRefusal) × (length room ≡ n) × (parsed batch ≡ record { packets = ps; ends = ends })
    × (stop_number why ≡ refusal) × Fed s batch room (record { refusal = why; packets = taken; used = used; opened = opened; records = records; bytes = bytes }) after out
Keeps (sweep n t) s room refusal taken opened records bytes after out =
    (length room ≡ n) × (taken ≡ 0) × (opened ≡ 0) × Swept t s room refusal records bytes after out
Keeps (drain n) s room refusal taken opened records bytes after out =
    (length room ≡ n) × (taken ≡ 0) × (opened ≡ 0) × Drained s room refusal records bytes after out

-- a call that kept its promise: the output lent, what was answered, and the bytes that it left
pub record Made (c : Call) (s : List ℕ) : Type 0 where
  pub room : List ℕ
  pub refusal : ℕ
  pub taken : ℕ
  pub opened : ℕ
  pub records : ℕ
  pub bytes : ℕ
  pub after : List ℕ
  pub out : List ℕ
  pub kept : Keeps c s room refusal taken opened records bytes after out

-- what a row says of a finished record
abbrev pub said : Finished engine → Out
said f = record {
  state = f.held.time.start_state;
  reason = f.reason;
  start = f.held.time.start.0;
  end = f.held.time.end.0;
  packets = (f.held.forward.packets, f.held.reverse.packets);
  octets = (f.held.forward.frame_octets, f.held.reverse.frame_octets);
}

-- the packets of an open flow
abbrev pub packets_in : Flow engine → ℕ
packets_in f = f.held.forward.packets + f.held.reverse.packets

-- it answered what the row says, and left what the row says
pub record Answers (x : Step) (s : List ℕ) (m : Made x.call s) : Type 0 where
  pub refusal : m.refusal ≡ number_of x.refusal
  pub taken : m.taken ≡ x.taken
  pub opened : m.opened ≡ x.opened
  -- the records that it handed out, whose forms fill the output's front
  pub finished : List (Finished engine)
  pub says : map said finished ≡ x.outs
  pub count : m.records ≡ length x.outs
  pub filled : m.bytes ≡ length (written finished)
  pub output : m.out ≡ written finished ++ drop m.bytes m.room
  pub sound : Sound m.after
  pub left : map packets_in (meaning m.after).flows ≡ x.left
  pub clock : (meaning m.after).clock ≡ x.clock

-- each call of the row in turn, on the state that the one before it left, whatever output it is lent
abbrev pub Plays : List Step → List ℕ → Type 0
Plays [] s = Unit {0}
Plays (x ∷ xs) s = (m : Made x.call s) → Answers x s m × Plays xs m.after

-- a row's engine is opened with microseconds
abbrev pub asked_with : ℕ → ℕ → Asked
asked_with ms capacity = record { capacity = capacity; timeout = record { 0 = ms }; resolution = TimeResolution.Microseconds }

abbrev pub RowKept : Row → Type 0
RowKept (plays ms capacity steps) = (before after : List ℕ) → OpenedFresh (asked_with ms capacity) before after → Plays steps after
RowKept (from ms capacity clock flows steps) =
    (s : List ℕ) → Sound s → settings_in s ≡ opened_with key_bytes record_size ms capacity
    → meaning s ≡ record { clock = clock; flows = flows_of key_bytes record_size flows } → Plays steps s
RowKept (holds ms t) = (capacity : ℕ) (before after : List ℕ) → OpenedFresh (asked_with ms capacity) before after → (settings_in after).T ≡ t

-- ## What the test of a row says

equal_as : (k l : List ℕ) → T (equal k l) → k ≡ l
equal_as k l t = equal_true k l (is_true (equal k l) t)
  where
    is_true : (b : Bool) → T b → b ≡ true
    is_true true t = refl
    is_true false t = absurd t

reason_back : (x : EndReason) → reason_from (reason_number x) ≡ x
reason_back EndReason.IdleTimeout = refl
reason_back EndReason.Fin = refl
reason_back EndReason.Rst = refl
reason_back EndReason.CaptureEnd = refl

abbrev out_with : StartState → EndReason → (start end forward reverse octets back : ℕ) → Out
out_with state reason start end forward reverse octets back =
    record { state = state; reason = reason; start = start; end = end; packets = (forward, reverse); octets = (octets, back) }

-- eight numbers each, which agree
eight_agree : (a₁ b₁ : StartState) (a₂ b₂ : EndReason) (a₃ b₃ a₄ b₄ a₅ b₅ a₆ b₆ a₇ b₇ a₈ b₈ : ℕ) (l k : List ℕ)
    → state_number a₁ ∷ reason_number a₂ ∷ a₃ ∷ a₄ ∷ a₅ ∷ a₆ ∷ a₇ ∷ a₈ ∷ l ≡ state_number b₁ ∷ reason_number b₂ ∷ b₃ ∷ b₄ ∷ b₅ ∷ b₆ ∷ b₇ ∷ b₈ ∷ k
    → (out_with b₁ b₂ b₃ b₄ b₅ b₆ b₇ b₈ ≡ out_with a₁ a₂ a₃ a₄ a₅ a₆ a₇ a₈) × (l ≡ k)
eight_agree a₁ b₁ a₂ b₂ a₃ b₃ a₄ b₄ a₅ b₅ a₆ b₆ a₇ b₇ a₈ b₈ l k e =
    let number : state_number b₁ ≡ state_number a₁ = cc in
    let other : reason_number b₂ ≡ reason_number a₂ = cc in
    let state : b₁ ≡ a₁ = sym (state_back b₁) ∙ ap state_from number ∙ state_back a₁ in
    let reason : b₂ ≡ a₂ = sym (reason_back b₂) ∙ ap reason_from other ∙ reason_back a₂ in
    (cc, cc)

-- numbers that agree are records that say the same
said_as : (os : List Out) (fs : List (Finished engine)) → expected os ≡ given key_bytes record_size fs → map said fs ≡ os
said_as [] [] e = refl
said_as [] (f ∷ fs) e = cc
said_as (o ∷ os) [] e = cc
said_as (o ∷ os) (f ∷ fs) e =
    let r = f.held in
    let (one, rest) =
    eight_agree o.state r.time.start_state o.reason f.reason o.start r.time.start.0 o.end r.time.end.0
    o.packets.0 r.forward.packets o.packets.1 r.reverse.packets o.octets.0 r.forward.frame_octets
    o.octets.1 r.reverse.frame_octets (expected os) (given key_bytes record_size fs) e in
    ap (λ (x : Out). x ∷ map said fs) one ∙ ap (λ (l : List Out). o ∷ l) (said_as os fs rest)

packets_are : (fs : List (Flow engine)) → packets_of key_bytes record_size fs ≡ map packets_in fs
packets_are [] = refl
packets_are (f ∷ fs) = ap (λ (l : List ℕ). packets_in f ∷ l) (packets_are fs)

-- ## A call that kept its promise did what the plain rules answer

-- it did and answered what is told
record DidCall (t : Told engine) (c : Call) (s : List ℕ) (m : Made c s) : Type 0 where
  pub did : Did t s m.room m.refusal m.records m.bytes m.after m.out
  pub taken : m.taken ≡ t.taken
  pub opened : m.opened ≡ t.opens

-- a sweep and a drain, refused or not, take nothing and open nothing
none_taken : (room : ℕ) (out : List (Finished engine)) (e after : Engine engine)
    → ((handed engine room out e after).taken ≡ 0) × ((handed engine room out e after).opens ≡ 0)
none_taken room out e after = go (leb (sizes engine out) room)
  where
    went : Told engine
    went = record { refusal = Accepted; taken = 0; opens = 0; finished = out; engine = after }

    go : (b : Bool) → ((cond b went (stopped engine Room e)).taken ≡ 0) × ((cond b went (stopped engine Room e)).opens ≡ 0)
    go true = (refl, refl)
    go false = (refl, refl)

sweep_none : (x : Settings) (n t : ℕ) (e : Engine engine) → ((sweep_at engine x n t e).taken ≡ 0) × ((sweep_at engine x n t e).opens ≡ 0)
unfolding sweep_at
sweep_none x n t e =
    let w = R.clock_at engine x e.clock t in
    none_taken n (R.swept engine x w e.flows) e (record { clock = w; flows = R.staying engine x w e.flows })

drain_none : (n : ℕ) (e : Engine engine) → ((drain_all engine n e).taken ≡ 0) × ((drain_all engine n e).opens ≡ 0)
unfolding drain_all
drain_none n e = none_taken n (R.drained engine e.flows) e (record { clock = e.clock; flows = [] })

-- a batch is its packets and what stands behind them
batch_is : (x : Settings) (room n : ℕ) (batch : List ℕ) (ps : List Packet) (ends : Refusal) (e : Engine engine) → room ≡ n
    → parsed batch ≡ record { packets = ps; ends = ends } → feed_bytes x room batch e ≡ feed_all engine x n ps ends e
unfolding feed_bytes
batch_is x room n batch ps ends e l p =
    ap (λ (k : ℕ). feed_all engine x k (parsed batch).packets (parsed batch).ends e) l
    ∙ ap (λ (q : Parsed). feed_all engine x n q.packets q.ends e) p

did_call : (c : Call) (s : List ℕ) (m : Made c s) → Sound s → DidCall (answer key_bytes record_size (settings_in s) c (meaning s)) c s m
did_call (feed n ps ends) s m h =
    let (batch, used, why, long, is, number, fed) = m.kept in
    let f = fed.told h in
    subst (λ (t : Told engine). DidCall t (feed n ps ends) s m) (batch_is (settings_in s) (length m.room) n batch ps ends (meaning s) long is)
    (record {
      did = subst (λ (k : ℕ). Did (feed_bytes (settings_in s) (length m.room) batch (meaning s)) s m.room k m.records m.bytes m.after m.out) number f.did;
      taken = f.taken;
      opened = f.opened;
    })
did_call (sweep n t) s m h =
    let (long, taken, opens, swept) = m.kept in
    let none = sweep_none (settings_in s) (length m.room) t (meaning s) in
    subst (λ (k : ℕ). DidCall (sweep_at engine (settings_in s) k t (meaning s)) (sweep n t) s m) long
    (record { did = swept.told h; taken = taken ∙ sym none.0; opened = opens ∙ sym none.1 })
did_call (drain n) s m h =
    let (long, taken, opens, drained) = m.kept in
    let none = drain_none (length m.room) (meaning s) in
    subst (λ (k : ℕ). DidCall (drain_all engine k (meaning s)) (drain n) s m) long
    (record { did = drained.told h; taken = taken ∙ sym none.0; opened = opens ∙ sym none.1 })

-- ## The calls of a row in turn

all_six : (a b c d e f : Bool) → T (a && b && c && d && e && f) → T a × T b × T c × T d × T e × T f
all_six a b c d e f t =
    let h₁ = both_hold (a && b && c && d && e) f t in
    let h₂ = both_hold (a && b && c && d) e h₁.0 in
    let h₃ = both_hold (a && b && c) d h₂.0 in
    let h₄ = both_hold (a && b) c h₃.0 in
    let h₅ = both_hold a b h₄.0 in
    (h₅.0, h₅.1, h₄.1, h₃.1, h₂.1, h₁.1)

answers : (x : Step) (s : List ℕ) (m : Made x.call s) (t : Told engine) → DidCall t x.call s m → T (agrees key_bytes record_size x t)
    → Answers x s m
answers x s m t d a =
    let (refusal, taken, opens, outs, left, clock) =
    all_six (eqb (number_of x.refusal) (number_of t.refusal)) (eqb x.taken t.taken) (eqb x.opened t.opens)
    (equal (expected x.outs) (given key_bytes record_size t.finished)) (equal x.left (packets_of key_bytes record_size t.engine.flows))
    (eqb x.clock t.engine.clock) a in
    let same : map said t.finished ≡ x.outs =
    said_as x.outs t.finished (equal_as (expected x.outs) (given key_bytes record_size t.finished) outs) in
    record {
      refusal = d.did.answer ∙ sym (eqb→eq (number_of x.refusal) (number_of t.refusal) refusal);
      taken = d.taken ∙ sym (eqb→eq x.taken t.taken taken);
      opened = d.opened ∙ sym (eqb→eq x.opened t.opens opens);
      finished = t.finished;
      says = same;
      count = d.did.count ∙ sym (length-map t.finished said) ∙ ap length same;
      filled = d.did.filled;
      output = d.did.output;
      sound = d.did.sound;
      left =
          ap (λ (e : Engine engine). map packets_in e.flows) d.did.means ∙ sym (packets_are t.engine.flows)
          ∙ sym (equal_as x.left (packets_of key_bytes record_size t.engine.flows) left);
      clock = ap (λ (e : Engine engine). e.clock) d.did.means ∙ sym (eqb→eq x.clock t.engine.clock clock);
    }

steps_kept : (w : Settings) (xs : List Step) (e : Engine engine) (s : List ℕ) → Sound s → settings_in s ≡ w → meaning s ≡ e
    → T (plays_out key_bytes record_size w xs e) → Plays xs s
steps_kept w [] e s h k is t = tt
steps_kept w (x ∷ xs) e s h k is t = λ m.
    let told = answer key_bytes record_size w x.call e in
    let both = both_hold (agrees key_bytes record_size x told) (plays_out key_bytes record_size w xs told.engine) t in
    let same : answer key_bytes record_size (settings_in s) x.call (meaning s) ≡ told =
    ap (λ (y : Settings). answer key_bytes record_size y x.call (meaning s)) k ∙ ap (answer key_bytes record_size w x.call) is in
    let d = subst (λ (y : Told engine). DidCall y x.call s m) same (did_call x.call s m h) in
    (answers x s m told d both.0, steps_kept w xs told.engine m.after d.did.sound (d.did.settings ∙ k) d.did.means both.1)

-- ## The rows

pub row_kept : (row : Row) → T (passes row) → RowKept row
row_kept (plays ms capacity steps) t = λ before after o.
    let f = follows (asked_with ms capacity) [] after [] (Calls.opened o) in
    steps_kept (opened_with key_bytes record_size ms capacity) steps _ after f.sound f.settings_kept f.means t
row_kept (from ms capacity clock flows steps) t = λ s h k is. steps_kept (opened_with key_bytes record_size ms capacity) steps _ s h k is t
row_kept (holds ms t) q = λ capacity before after o.
    let f = follows (asked_with ms capacity) [] after [] (Calls.opened o) in
    ap (λ (x : Settings). x.T) f.settings_kept ∙ eqb→eq (timeout_of (record { 0 = ms })) t q

rows_kept : (rows : List Row) → T (all_pass rows) → All RowKept rows
rows_kept rows t = all_more (λ r. T (passes r)) RowKept row_kept rows (each_row rows t)

-- P1 to P11
pub examples_kept : All RowKept examples
examples_kept = rows_kept examples examples_hold

-- and ours
pub further_kept : All RowKept further
further_kept = rows_kept further further_hold

-- ## Calls of a row are there to be made

-- every call that kept its promise is a call of a row
pub fed_made : (s batch room : List ℕ) (r : FeedAnswer) (after out : List ℕ) → Fed s batch room r after out
    → Made (feed (length room) (parsed batch).packets (parsed batch).ends) s
fed_made s batch room r after out f = record {
  room = room;
  refusal = stop_number r.refusal;
  taken = r.packets;
  opened = r.opened;
  records = r.records;
  bytes = r.bytes;
  after = after;
  out = out;
  kept = (batch, r.used, r.refusal, refl, refl, refl, f);
}

pub swept_made : (s room : List ℕ) (t refusal records bytes : ℕ) (after out : List ℕ) → Swept t s room refusal records bytes after out
    → Made (sweep (length room) t) s
swept_made s room t refusal records bytes after out f = record {
  room = room;
  refusal = refusal;
  taken = 0;
  opened = 0;
  records = records;
  bytes = bytes;
  after = after;
  out = out;
  kept = (refl, refl, refl, f);
}

pub drained_made : (s room : List ℕ) (refusal records bytes : ℕ) (after out : List ℕ) → Drained s room refusal records bytes after out
    → Made (drain (length room)) s
drained_made s room refusal records bytes after out f = record {
  room = room;
  refusal = refusal;
  taken = 0;
  opened = 0;
  records = records;
  bytes = bytes;
  after = after;
  out = out;
  kept = (refl, refl, refl, f);
}
