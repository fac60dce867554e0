-- Demand 3 of the promises: what follows for the bytes that calls leave and hand out, from a fresh engine touched by calls alone, refused
-- ones included. It names the promises that the code is proved to keep and nothing else. Assumes nothing.
use Rattle.forms.specs.Refusals.{stop_number}
use Rattle.std.specs.Prelude.{ℕ, ◌+◌, ◌*◌, ◌^◌, ◌≤◌, ◌<◌, ◌≡◌, refl, List, [], ◌∷◌, ◌++◌, length, take, drop, Err, Ok}
use Rattle.std.proofs.Common.{sym, ap, ◌∙◌, arith, take_at}
use Rattle.table.specs.View.{view}
use Rattle.flow.specs.declared.time.Millis.{Millis}
use Rattle.flow.specs.declared.time.TimeResolution.{TimeResolution}
use Rattle.wire.specs.declared.packet.Packet.{Packet}
use Rattle.rules.specs.Rules.{Settings, Engine, Told, settings, sweep_at, drain_all}
use Rattle.rules.specs.Engine.{engine, written}
use Rattle.rules.proofs.EngineTermsLaws.{written_both}
use Rattle.rules.specs.Demand.{Call, feed, sweep, drain, Run, started, step, run}
use Rattle.rules.specs.EngineDemand.{ThirdDemand, engine_run}
use Rattle.rules.proofs.EngineDemandLaws.{third_demand}
use Rattle.state.specs.State.{Sound, settings_in, meaning}
use Rattle.state.specs.Opening.{Opened, opened_sound, opened_settings, opened_fresh}
use Rattle.engine.specs.declared.FeedAnswer.{FeedAnswer}
use Rattle.sweeps.specs.Promise.{Did, Swept, Drained}
use Rattle.engine.specs.Batch.{parsed, feed_bytes}
use Rattle.engine.specs.Feed.{Fed}
use Rattle.forms.specs.declared.refusal.Refusal.{Refusal}

-- what was asked for at opening
pub record Asked : Type 0 where
  pub capacity : ℕ
  pub timeout : Millis
  pub resolution : TimeResolution

abbrev pub settings_of : Asked → Settings
settings_of a = settings a.timeout a.resolution a.capacity

-- opening that was not refused
pub record OpenedFresh (a : Asked) (before after : List ℕ) : Type 0 where
  pub promise : Opened before a.capacity a.timeout a.resolution (Ok tt) after
  pub some : 1 ≤ a.capacity
  pub most : a.capacity ≤ 4096
  pub long : 256 + 640 * a.capacity ≤ length before
  pub small : a.timeout.0 < 2 ^ 64

-- "From a fresh engine touched by calls alone, through any batches, sweeps and drains, refused ones included": the state's bytes now, the bytes
-- handed out so far, one filled part behind another, and the calls as the plain rules see them
pub data Calls (a : Asked) : List (Call Packet) → List ℕ → List ℕ → Type 0 where
  opened : {before after : List ℕ} → OpenedFresh a before after → Calls a [] after []
  fed : {calls : List (Call Packet)} {s handed : List ℕ} → Calls a calls s handed
      → {batch room s' out : List ℕ} {r : FeedAnswer} → Fed s batch room r s' out
      → Calls a (calls ++ (feed (length room) (parsed batch).packets (parsed batch).ends ∷ [])) s' (handed ++ take r.bytes out)
  swept : {calls : List (Call Packet)} {s handed : List ℕ} → Calls a calls s handed
      → {time refusal records bytes : ℕ} {room s' out : List ℕ} → Swept time s room refusal records bytes s' out
      → Calls a (calls ++ (sweep (length room) time ∷ [])) s' (handed ++ take bytes out)
  drained : {calls : List (Call Packet)} {s handed : List ℕ} → Calls a calls s handed
      → {refusal records bytes : ℕ} {room s' out : List ℕ} → Drained s room refusal records bytes s' out
      → Calls a (calls ++ (drain (length room) ∷ [])) s' (handed ++ take bytes out)

-- what the state means and what was handed out is what the plain rules say of the calls
pub record Follows (a : Asked) (calls : List (Call Packet)) (s handed : List ℕ) : Type 0 where
  pub sound : Sound s
  pub settings_kept : settings_in s ≡ settings_of a
  pub means : meaning s ≡ (engine_run (settings_of a) calls).engine
  pub records : handed ≡ written (engine_run (settings_of a) calls).finished

-- ## A call more

run_more : (s : Settings) (calls : List (Call Packet)) (c : Call Packet) (r : Run engine) → run engine s (calls ++ (c ∷ [])) r ≡ step engine s c (run engine s calls r)
run_more s [] c r = refl
run_more s (k ∷ calls) c r = run_more s calls c (step engine s k r)

-- a call that did what `told` says of the engine that the state meant
module _ (a : Asked) (calls : List (Call Packet)) (s handed : List ℕ) (h : Follows a calls s handed) (c : Call Packet) (tell : Settings → Engine engine → Told engine)
    (does : (r : Run engine) → ((step engine (settings_of a) c r).engine ≡ (tell (settings_of a) r.engine).engine)
    × ((step engine (settings_of a) c r).finished ≡ r.finished ++ (tell (settings_of a) r.engine).finished)) where
  follows_more : (room : List ℕ) (refusal records bytes : ℕ) (s' out : List ℕ) → Did (tell (settings_in s) (meaning s)) s room refusal records bytes s' out
      → Follows a (calls ++ (c ∷ [])) s' (handed ++ take bytes out)
  follows_more room refusal records bytes s' out did =
      let was : Run engine = engine_run (settings_of a) calls in
      let now : engine_run (settings_of a) (calls ++ (c ∷ [])) ≡ step engine (settings_of a) c was = run_more (settings_of a) calls c (started engine) in
      let told : tell (settings_in s) (meaning s) ≡ tell (settings_of a) was.engine =
      ap (λ (x : Settings). tell x (meaning s)) h.settings_kept ∙ ap (tell (settings_of a)) h.means in
      record {
        sound = did.sound;
        settings_kept = did.settings ∙ h.settings_kept;
        means = did.means ∙ ap (λ (t : Told engine). t.engine) told ∙ sym (does was).0 ∙ ap (λ (r : Run engine). r.engine) (sym now);
        records =
            ap (λ (l : List ℕ). handed ++ l)
            (ap (take bytes) did.output ∙ take_at (written (tell (settings_in s) (meaning s)).finished) (drop bytes room) bytes (sym did.filled))
            ∙ ap (λ (l : List ℕ). l ++ written (tell (settings_in s) (meaning s)).finished) h.records
            ∙ ap (λ (t : Told engine). written was.finished ++ written t.finished) told
            ∙ sym (written_both was.finished (tell (settings_of a) was.engine).finished)
            ∙ ap written (sym (does was).1) ∙ ap (λ (r : Run engine). written r.finished) (sym now);
      }

follows_opened : (a : Asked) (before after : List ℕ) → OpenedFresh a before after → Follows a [] after []
follows_opened a before after o =
    let k = o.promise.opened o.some o.most o.long in
    let long : 256 + 640 * a.capacity ≤ length after = omega (arith, o.long, k.1) in
    record {
      sound = opened_sound a.capacity a.timeout a.resolution (view a.capacity before) after o.small o.some o.most long k.2;
      settings_kept = opened_settings a.capacity a.timeout a.resolution (view a.capacity before) after o.small o.some o.most long k.2;
      means = opened_fresh a.capacity a.timeout a.resolution (view a.capacity before) after o.small o.some o.most long k.2;
      records = refl;
    }

-- feeding, seen as bytes and as packets
feed_does : (x : Settings) (room : ℕ) (batch : List ℕ) (r : Run engine)
    → ((step engine x (feed room (parsed batch).packets (parsed batch).ends) r).engine ≡ (feed_bytes x room batch r.engine).engine)
    × ((step engine x (feed room (parsed batch).packets (parsed batch).ends) r).finished ≡ r.finished ++ (feed_bytes x room batch r.engine).finished)
unfolding feed_bytes
feed_does x room batch r = (refl, refl)

pub follows : (a : Asked) (calls : List (Call Packet)) (s handed : List ℕ) → Calls a calls s handed → Follows a calls s handed
follows a calls s handed (opened o) = follows_opened a _ s o
follows a calls s handed (fed {calls = before} {s = s₀} {handed = h₀} k {batch} {room} {out = out} {r} p) =
    let was = follows a before s₀ h₀ k in
    follows_more a before s₀ h₀ was (feed (length room) (parsed batch).packets (parsed batch).ends) (λ x e. feed_bytes x (length room) batch e) (feed_does (settings_of a) (length room) batch) room (stop_number r.refusal) r.records r.bytes s out (p.told was.sound).did
follows a calls s handed (swept {calls = before} {s = s₀} {handed = h₀} k {time} {refusal} {records} {bytes} {room} {out = out} p) =
    let was = follows a before s₀ h₀ k in
    follows_more a before s₀ h₀ was (sweep (length room) time) (λ x e. sweep_at engine x (length room) time e) (λ x. (refl, refl)) room refusal records bytes s out (p.told was.sound)
follows a calls s handed (drained {calls = before} {s = s₀} {handed = h₀} k {refusal} {records} {bytes} {room} {out = out} p) =
    let was = follows a before s₀ h₀ k in
    follows_more a before s₀ h₀ was (drain (length room)) (λ x e. drain_all engine (length room) e) (λ x. (refl, refl)) room refusal records bytes s out (p.told was.sound)

-- ## Demand 3

-- "every accepted packet is in exactly one open or finished record, the one the plain rules name; each record is the plain summary of its packets
-- in order of acceptance, a finished one with the plain rules' end reason; packets, octets and flag counts over all records equal those over the
-- accepted packets; with a nonzero timeout each unrefused sweep hands out exactly the flows whose latest packet time + timeout + lateness is at
-- or below the latest time seen": of the records that the bytes handed out are, and of the flows that the state means
pub record DemandThree (a : Asked) (calls : List (Call Packet)) (s handed : List ℕ) : Type 0 where
  pub flows : meaning s ≡ (engine_run (settings_of a) calls).engine
  pub records : handed ≡ written (engine_run (settings_of a) calls).finished
  pub demand : ThirdDemand (settings_of a) calls

pub demand_three : (a : Asked) (calls : List (Call Packet)) (s handed : List ℕ) → Calls a calls s handed → DemandThree a calls s handed
demand_three a calls s handed k =
    let f = follows a calls s handed k in
    record { flows = f.means; records = f.records; demand = third_demand (settings_of a) calls }
