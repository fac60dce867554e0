-- No call turns a sound state of the engine unsound; every record handed out is a sound record in range; room for (capacity + 1) × 358
-- bytes suffices for one packet; and from a fresh engine step 1 never finds a closed association. Assumes nothing.
use Rattle.std.specs.Prelude.{◌≡◌, refl, true, not, cond, List, map, ℕ, ◌+◌, ◌*◌, ◌≤◌, leb, take, None, Option, Some}
use Rattle.std.proofs.Common.{sym, ap, ◌∙◌, arith, eq-eqb}
use Rattle.key.specs.KeyTheorems.{KeyInRange, equal_bytes}
use Rattle.flow.specs.SoundKept.{closing_is_sound}
use Rattle.wire.specs.declared.packet.Packet.{Packet}
use Rattle.wire.specs.PacketTheorems.{PacketInRange}
use Rattle.rules.specs.Totals.{All, either, all_those, all_more}
use Rattle.rules.specs.Rules.{Refusal, Settings, Flow, Finished, Engine, Told, fresh, clock_at, leaves, staying, swept, drained, sizes, under, if_closed, reused, or_else, key_of, reversed_of, one_packet, feed_all, sweep_at, drain_all}
use Rattle.rules.specs.Engine.{engine, key_bytes, is_association}
use Rattle.rules.specs.Account.{Any, Under}
use Rattle.rules.proofs.AccountLaws.{any_under, under_is, fed_clock}
use Rattle.rules.specs.Demand.{Call, started, run}
use Rattle.rules.proofs.DemandLaws.{clock_zero}
use Rattle.rules.specs.Sound.{NotRoom, FedInRange}
use Rattle.rules.proofs.SoundLaws.{fed_fine, sweep_fine, drain_fine, room_suffices, run_fine}
use Rattle.rules.specs.EngineLaws.{SoundFlow, MadeFlow}
use Rattle.rules.proofs.EngineTermsLaws.{engine_keys, engine_held, engine_made, never_closed, flow_in_range, size_at_most}
use Rattle.rules.specs.EngineSound.{SoundEngine, SoundlyFinished, SoundlyTold}

-- ## Sound

finished_soundly : (l : List (Finished engine)) → All (λ f. SoundFlow f.name f.held) l → All SoundlyFinished l
finished_soundly l a =
    all_more (λ f. SoundFlow f.name f.held) SoundlyFinished
    (λ f h. (closing_is_sound f.held f.reason h.sound, flow_in_range f.name f.reason f.held h)) l a

-- "Opening, unrefused, leaves a sound state .., every clock 0 and no flow open"
pub fresh_sound : (s : Settings) → SoundEngine s (fresh engine)
fresh_sound s = record { clear = tt; records = tt; few = omega arith; still = λ z. refl }

-- "no call turns a sound state unsound": feeding packets in range
pub feed_sound : (s : Settings) (room : ℕ) (ps : List Packet) → All PacketInRange ps → (ends : Refusal) (e : Engine engine) → SoundEngine s e
    → SoundlyTold s (feed_all engine s room ps ends e)
feed_sound s room ps ok ends e h =
    let t = feed_all engine s room ps ends e in
    let b = fed_fine engine KeyInRange engine_keys PacketInRange SoundFlow engine_held s room ps ok ends e (h.clear, h.records, h.few) in
    record {
      engine_sound = record {
        clear = b.0.0;
        records = b.0.1;
        few = b.0.2;
        still = λ z. fed_clock engine s room ps ends e ∙ clock_zero s z e.clock (map engine.time (take t.taken ps)) ∙ h.still z;
      };
      finished_sound = finished_soundly t.finished b.1;
    }

sweep_still : (s : Settings) (room x : ℕ) (e : Engine engine) → s.T ≡ 0 → (sweep_at engine s room x e).engine.clock ≡ e.clock
unfolding sweep_at
sweep_still s room x e z =
    either (λ (t : Told engine). t.engine.clock ≡ e.clock) (leb (sizes engine (swept engine s (clock_at engine s e.clock x) e.flows)) room)
    (rw (eq-eqb s.T 0 z)) refl

drain_still : (room : ℕ) (e : Engine engine) → (drain_all engine room e).engine.clock ≡ e.clock
unfolding drain_all
drain_still room e = either (λ (t : Told engine). t.engine.clock ≡ e.clock) (leb (sizes engine (drained engine e.flows)) room) refl refl

-- .. a sweep
pub sweep_sound : (s : Settings) (room x : ℕ) (e : Engine engine) → SoundEngine s e → SoundlyTold s (sweep_at engine s room x e)
sweep_sound s room x e h =
    let t = sweep_at engine s room x e in
    let b = sweep_fine engine KeyInRange engine_keys PacketInRange SoundFlow engine_held s room x e (h.clear, h.records, h.few) in
    record {
      engine_sound = record { clear = b.0.0; records = b.0.1; few = b.0.2; still = λ z. sweep_still s room x e z ∙ h.still z };
      finished_sound = finished_soundly t.finished b.1;
    }

-- .. a drain
pub drain_sound : (s : Settings) (room : ℕ) (e : Engine engine) → SoundEngine s e → SoundlyTold s (drain_all engine room e)
drain_sound s room e h =
    let t = drain_all engine room e in
    let b = drain_fine engine KeyInRange engine_keys PacketInRange SoundFlow engine_held s room e (h.clear, h.records, h.few) in
    record {
      engine_sound = record { clear = b.0.0; records = b.0.1; few = b.0.2; still = λ z. drain_still room e ∙ h.still z };
      finished_sound = finished_soundly t.finished b.1;
    }

-- "Room for (capacity + 1) × 358 bytes always suffices for one packet."
pub room_for_one_packet : (s : Settings) (room : ℕ) (p : Packet) → PacketInRange p → (e : Engine engine) → SoundEngine s e → (s.capacity + 1) * 358 ≤ room
    → NotRoom engine (one_packet engine s room p e)
room_for_one_packet s room p ok e h enough =
    room_suffices engine KeyInRange engine_keys PacketInRange SoundFlow engine_held s room p ok e (h.clear, h.records, h.few) 358 size_at_most enough

-- ## Associations

-- through any calls from a fresh engine, each open flow is sound, and an association among them has nothing counted in reverse
pub run_made : (s : Settings) (calls : List (Call Packet)) → FedInRange PacketInRange calls → All (λ f. MadeFlow f.name f.held) (run engine s calls (started engine)).engine.flows
run_made s calls ok =
    (run_fine engine KeyInRange engine_keys PacketInRange MadeFlow engine_made s calls ok (started engine) ((tt, tt, omega arith), tt)).0.1

-- a flow under the bytes of an association's key, or of its reverse, has not seen both FINs
unclosed : (k : List ℕ) → ((f : Flow engine) → KeyInRange f.name → k ≡ key_bytes f.name → is_association f.name ≡ true)
    → (fs : List (Flow engine)) → All (λ f. MadeFlow f.name f.held) fs → if_closed engine (under engine k fs) ≡ None
unclosed k kind fs a = go (under engine k fs) (under_is engine k fs) (any_under engine (λ f. MadeFlow f.name f.held) fs a k)
  where
    go : (o : Option (Flow engine)) → Any engine (Under engine k fs) o → Any engine (λ f. MadeFlow f.name f.held) o
        → if_closed engine o ≡ None
    go None u m = refl
    go (Some f) u m = rw (never_closed f.name f.held m (kind f m.flow.key u.0))

-- step 1 never finds a closed flow for an association's packet, neither under its key nor under the reversed key
pub association_never_reused : (p : Packet) → PacketInRange p → is_association p.key ≡ true → (fs : List (Flow engine)) → All (λ f. MadeFlow f.name f.held) fs
    → reused engine p fs ≡ None
association_never_reused p ok e fs a =
    let own = unclosed (key_of engine p) (λ f r same. ap is_association (sym (equal_bytes p.key f.name ok.key r same)) ∙ e) fs a in
    let turned = unclosed (reversed_of engine p) (λ f r same. sym (engine_keys.kind p.key f.name ok.key r same) ∙ e) fs a in
    ap (λ (o : Option (Flow engine)). cond (engine.syn p) (or_else engine o (if_closed engine (under engine (reversed_of engine p) fs))) None) own
    ∙ ap (λ (o : Option (Flow engine)). cond (engine.syn p) o None) turned ∙ either (λ (o : Option (Flow engine)). o ≡ None) (engine.syn p) refl refl

-- .. through any calls from a fresh engine
pub associations_never_reused : (s : Settings) (calls : List (Call Packet)) → FedInRange PacketInRange calls → (p : Packet) → PacketInRange p → is_association p.key ≡ true
    → (w : ℕ) → reused engine p (staying engine s w (run engine s calls (started engine)).engine.flows) ≡ None
associations_never_reused s calls ok p fits e w =
    let fs = (run engine s calls (started engine)).engine.flows in
    association_never_reused p fits e (staying engine s w fs)
    (all_those (λ f. MadeFlow f.name f.held) (λ f. not (leaves engine s w f)) fs (run_made s calls ok))
