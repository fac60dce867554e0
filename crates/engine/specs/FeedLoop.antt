-- The loop over a batch's packets. Assumes nothing.
use Rattle.forms.specs.declared.refusal.Refusal.{Refusal as CallRefusal}
use Rattle.forms.specs.Refusals.{stop_number}
use Rattle.std.specs.Prelude.{ℕ, ◌+◌, ◌-◌, ◌^◌, ◌≤◌, ◌<◌, ◌≡◌, refl, Bool, true, false, List, [], ◌∷◌, ◌++◌, length, take, drop, None, Option}
use Rattle.std.proofs.Common.{sym, ap, ◌∙◌, subst, append-nil, arith, length-append, length-drop, length-take, drop_of_length-le, take-append-drop, take_all}
use borrow.Rule.Slice.PartMut.{put_mid}
use Rattle.forms.specs.Form.{Read, got}
use Rattle.forms.specs.At.{read_at}
use Rattle.key.specs.KeyTheorems.{key_at_least}
use Rattle.flow.specs.declared.time.Idle.{Idle}
use Rattle.flow.specs.declared.time.TimeResolution.{TimeResolution}
use Rattle.wire.specs.PacketForm.{packet}
use Rattle.wire.specs.PacketTheorems.{packet_at_least}
use Rattle.wire.specs.RecordForm.{record_bytes}
use Rattle.wire.specs.RecordWrite.{record_writes}
use Rattle.wire.specs.declared.packet.Packet.{Packet}
use Rattle.wire.specs.declared.record.Flow.{Flow}
use Rattle.rules.specs.Rules.{Refusal, Finished, BadPacket, Short, number_of}
use Rattle.rules.specs.Engine.{engine, finished_flow, record_form, written}
use Rattle.state.specs.State.{settings_in, meaning}
use Rattle.engine.specs.declared.FeedAnswer.{FeedAnswer}
use Rattle.engine.specs.declared.batch.Taken.{Taken}
use Rattle.engine.specs.Batch.{parsed, form_bytes, feed_bytes, short_here, refused_here, packet_here}
use Rattle.packet.specs.Step.{InCall}
use Rattle.engine.specs.Feed.{FedAs, Feeding, feeding_begins, feeding_goes, feeding_refused, feeding_unread, feeding_ends}
use Rattle.engine.specs.FeedOne.{OneAsked, Unread, OneFed, count_of}
use Rattle.forms.specs.Form.{stop}
use Rattle.forms.specs.declared.stop.Stop.{Stop}

-- ## Sums that fit

packets_few : (ps : List Packet) → length ps ≤ form_bytes ps
packets_few [] = omega arith
packets_few (p ∷ ps) = omega (arith, packets_few ps, packet_at_least p)

record_some : (f : Flow) → 1 ≤ length (record_bytes f)
record_some f = rw record_writes (simp length-append (omega (arith, key_at_least f.key)))

records_few : (fs : List (Finished engine)) → length fs ≤ length (written fs)
records_few [] = omega arith
records_few (f ∷ fs) =
    omega (arith, records_few fs, record_some (finished_flow f.name f.reason f.held), length-append (record_form f.name f.reason f.held) (written fs))

-- ## What is lent of the output

pub lent_rest : (out : List ℕ) (used : ℕ) → take (length out - used) (drop used out) ≡ drop used out
lent_rest out used = take_all (length out - used) (drop used out) (omega (arith, length-drop used out))

pub rest_put : (out t : List ℕ) (used : ℕ) → put_mid used (length out - used) out t ≡ take used out ++ t
rest_put out t used =
    let shorter : length (drop used out) ≤ length out - used = omega (arith, length-drop used out) in
    ap (λ (y : List ℕ). take used out ++ (t ++ y)) (drop_of_length-le (drop used out) shorter) ∙ ap (λ (y : List ℕ). take used out ++ y) (append-nil t)

-- a call in order, and a list with room for every slot
pub record AllAsked (s index free leaving : List ℕ) (c : ℕ) (idle : Idle) (resolution : TimeResolution) : Type 0 where
  pub call : InCall s index free c idle resolution
  pub list : 4096 ≤ length leaving

-- ## The answer so far

abbrev pub nothing_yet : FeedAnswer
nothing_yet = record { refusal = None; packets = 0; used = 0; opened = 0; records = 0; bytes = 0 }

abbrev pub stopped_by : Option CallRefusal → FeedAnswer → FeedAnswer
stopped_by why r = record { refusal = why; packets = r.packets; used = r.used; opened = r.opened; records = r.records; bytes = r.bytes }

abbrev pub added_to : FeedAnswer → Taken → FeedAnswer
added_to r t =
    record {
      refusal = None;
      packets = r.packets + 1;
      used = t.next;
      opened = r.opened + count_of t.step.opened;
      records = r.records + t.step.records;
      bytes = r.bytes + t.step.bytes;
    }

-- the sums fit into n
pub record SumsFit (r : FeedAnswer) (t : Taken) : Type 0 where
  pub packets : r.packets + 1 < 2 ^ 64
  pub opened : r.opened + 1 < 2 ^ 64
  pub records : r.records + t.step.records < 2 ^ 64
  pub bytes : r.bytes + t.step.bytes < 2 ^ 64

pub record Looping (batch s₀ out₀ index₀ free₀ leaving₀ : List ℕ) (c : ℕ) (idle : Idle) (resolution : TimeResolution) (r : FeedAnswer) (s out index free leaving : List ℕ) : Type 0 where
  pub feeding : Feeding batch s₀ out₀ r c idle resolution s out index free
  pub going : stop_number r.refusal ≡ 0
  pub few : r.opened ≤ r.packets
  pub list : 4096 ≤ length leaving
  pub state_long : length s ≡ length s₀
  pub index_long : length index ≡ length index₀
  pub free_long : length free ≡ length free₀
  pub leaving_long : length leaving ≡ length leaving₀
  pub out_long : length out ≡ length out₀

pub opened_one : (b : Bool) → count_of b ≤ 1
opened_one true = omega arith
opened_one false = omega arith

pub sum_opened : (n k : ℕ) (b : Bool) → k ≡ count_of b → n + 1 < 2 ^ 64 → n + k < 2 ^ 64
sum_opened n k b e h = omega (arith, opened_one b)

module _ (batch s₀ out₀ index₀ free₀ leaving₀ : List ℕ) (c : ℕ) (idle : Idle) (resolution : TimeResolution) where
  pub loop_begins : AllAsked s₀ index₀ free₀ leaving₀ c idle resolution → (r : FeedAnswer) → r ≡ nothing_yet
      → Looping batch s₀ out₀ index₀ free₀ leaving₀ c idle resolution r s₀ out₀ index₀ free₀ leaving₀
  loop_begins ask r e =
      subst (λ (x : FeedAnswer). Looping batch s₀ out₀ index₀ free₀ leaving₀ c idle resolution x s₀ out₀ index₀ free₀ leaving₀) (sym e) (at_first ask.call ask.list)
    where
      at_first : InCall s₀ index₀ free₀ c idle resolution → 4096 ≤ length leaving₀
          → Looping batch s₀ out₀ index₀ free₀ leaving₀ c idle resolution nothing_yet s₀ out₀ index₀ free₀ leaving₀
      at_first call list = record {
        feeding = feeding_begins batch s₀ out₀ c idle resolution index₀ free₀ call;
        going = refl;
        few = omega arith;
        list = list;
        state_long = refl;
        index_long = refl;
        free_long = refl;
        leaving_long = refl;
        out_long = refl;
      }

  module _ (r : FeedAnswer) (s out index free leaving : List ℕ) (h : Looping batch s₀ out₀ index₀ free₀ leaving₀ c idle resolution r s out index free leaving) where
    pub loop_ends : length batch ≤ r.used → FedAs (feed_bytes (settings_in s₀) (length out₀) batch (meaning s₀)) (parsed batch).packets s₀ out₀ r s out
    loop_ends e = feeding_ends batch s₀ out₀ c idle resolution r s out index free h.feeding h.going e

    pub bytes_within : r.bytes ≤ length out
    bytes_within = omega (arith, h.out_long, h.feeding.fits)

    module _ (some : r.used < length batch) where
      pub loop_asks : OneAsked s index free leaving c idle resolution batch r.used
      loop_asks = record { call = h.feeding.call; list = h.list; within = some }

      module _ (t : Taken) (s' part' index' free' : List ℕ)
          (fed : OneFed (read_at packet batch r.used) s (take (length out - r.bytes) (drop r.bytes out)) index free c idle resolution t s' part' index' free') where
        -- what is no packet: nothing was done
        unread : (number : ℕ) (why : Refusal) → parsed (drop r.used batch) ≡ record { packets = []; ends = why }
            → Unread number s (take (length out - r.bytes) (drop r.bytes out)) index free t s' part' index' free' → number ≡ number_of why
            → FedAs (feed_bytes (settings_in s₀) (length out₀) batch (meaning s₀)) (parsed batch).packets s₀ out₀ (stopped_by t.step.refusal r) s' (put_mid r.bytes (length out - r.bytes) out part')
        unread number why e f m =
            let told = feed_bytes (settings_in s₀) (length out₀) batch (meaning s₀) in
            let same : out ≡ put_mid r.bytes (length out - r.bytes) out part' =
            sym (rest_put out part' r.bytes ∙ ap (λ (y : List ℕ). take r.bytes out ++ y) (f.output ∙ lent_rest out r.bytes) ∙ take-append-drop r.bytes out) in
            subst (λ (x : List ℕ). FedAs told (parsed batch).packets s₀ out₀ (stopped_by t.step.refusal r) x (put_mid r.bytes (length out - r.bytes) out part')) (sym f.state)
            (subst (λ (y : List ℕ). FedAs told (parsed batch).packets s₀ out₀ (stopped_by t.step.refusal r) s y) same
            (feeding_unread batch s₀ out₀ c idle resolution r s out index free h.feeding why e (stopped_by t.step.refusal r) (f.answer ∙ m) refl refl refl refl refl))

        -- refused
        pub loop_stops : (stop_number t.step.refusal ≡ 0 → ⊥)
            → FedAs (feed_bytes (settings_in s₀) (length out₀) batch (meaning s₀)) (parsed batch).packets s₀ out₀ (stopped_by t.step.refusal r) s' (put_mid r.bytes (length out - r.bytes) out part')
        loop_stops n = go (read_at packet batch r.used) refl fed
          where
            go : (x : Read Packet ℕ) → read_at packet batch r.used ≡ x
                → OneFed x s (take (length out - r.bytes) (drop r.bytes out)) index free c idle resolution t s' part' index' free'
                → FedAs (feed_bytes (settings_in s₀) (length out₀) batch (meaning s₀)) (parsed batch).packets s₀ out₀ (stopped_by t.step.refusal r) s' (put_mid r.bytes (length out - r.bytes) out part')
            go (got p next) q f =
                feeding_refused batch s₀ out₀ c idle resolution r s out index free h.feeding p next some (packet_here batch r.used some p next q)
                (take (length out - r.bytes) (drop r.bytes out)) (lent_rest out r.bytes) t.step s' part' index' free' f.0 n
                (put_mid r.bytes (length out - r.bytes) out part') (rest_put out part' r.bytes) (stopped_by t.step.refusal r) refl refl refl refl refl refl
            go (stop Stop.Short) q f =
                unread 9 Short (short_here batch r.used some q) f refl
            go (stop Stop.Refused) q f =
                unread 4 BadPacket (refused_here batch r.used some q) f refl

        -- taken
        pub record Goes (leaving' : List ℕ) : Type 0 where
          pub loop : Looping batch s₀ out₀ index₀ free₀ leaving₀ c idle resolution (added_to r t) s' (put_mid r.bytes (length out - r.bytes) out part') index' free' leaving'
          pub more : r.used < t.next
          pub within : t.next ≤ length batch
          pub sums : (length batch < 2 ^ 64) → (length out₀ < 2 ^ 64) → SumsFit r t

        pub loop_goes : stop_number t.step.refusal ≡ 0 → (leaving' : List ℕ) → length s' ≡ length s → length index' ≡ length index → length free' ≡ length free
            → length leaving' ≡ length leaving → length part' ≡ length (take (length out - r.bytes) (drop r.bytes out)) → Goes leaving'
        loop_goes z leaving' ls li lf ll lo = go (read_at packet batch r.used) refl fed
          where
            nine : {A : Type 0} (n : ℕ) → stop_number t.step.refusal ≡ n → 0 < n → A
            nine n e p = absurd (omega arith)

            go : (x : Read Packet ℕ) → read_at packet batch r.used ≡ x
                → OneFed x s (take (length out - r.bytes) (drop r.bytes out)) index free c idle resolution t s' part' index' free' → Goes leaving'
            go (stop Stop.Short) q f = nine 9 f.answer (omega arith)
            go (stop Stop.Refused) q f = nine 4 f.answer (omega arith)
            go (got p next) q f =
                let here = packet_here batch r.used some p next q in
                let on =
                feeding_goes batch s₀ out₀ c idle resolution r s out index free h.feeding p next some here
                (take (length out - r.bytes) (drop r.bytes out)) (lent_rest out r.bytes) t.step s' part' index' free' f.0 z
                (put_mid r.bytes (length out - r.bytes) out part') (rest_put out part' r.bytes) (added_to r t) refl f.1 refl refl refl in
                let one = opened_one t.step.opened in
                let few-packets = packets_few on.done_packets in
                let few-records = records_few on.so_far in
                record {
                  loop = record {
                    feeding = on;
                    going = refl;
                    few = omega (arith, h.few, one);
                    list = omega (arith, h.list);
                    state_long = ls ∙ h.state_long;
                    index_long = li ∙ h.index_long;
                    free_long = lf ∙ h.free_long;
                    leaving_long = ll ∙ h.leaving_long;
                    out_long =
                        ap length (rest_put out part' r.bytes) ∙ length-append (take r.bytes out) part'
                        ∙ omega (arith, lo, ap length (lent_rest out r.bytes), length-drop r.bytes out, length-take r.bytes out, bytes_within) ∙ h.out_long;
                  };
                  more = omega (arith, f.1, here.behind, packet_at_least p);
                  within = omega (arith, f.1, here.within);
                  sums = λ small fits. record {
                    packets = omega (arith, on.taken, on.used, on.within, few-packets);
                    opened = omega (arith, h.few, on.taken, on.used, on.within, few-packets);
                    records = omega (arith, on.count, on.filled, on.fits, few-records);
                    bytes = omega (arith, on.fits);
                  };
                }

        -- by what the code made of the answer
        pub loop_stopped : (stop_number t.step.refusal ≡ 0 → ⊥) → (r' : FeedAnswer) → r' ≡ stopped_by t.step.refusal r
            → FedAs (feed_bytes (settings_in s₀) (length out₀) batch (meaning s₀)) (parsed batch).packets s₀ out₀ r' s' (put_mid r.bytes (length out - r.bytes) out part')
        loop_stopped n r' e =
            subst (λ (x : FeedAnswer). FedAs (feed_bytes (settings_in s₀) (length out₀) batch (meaning s₀)) (parsed batch).packets s₀ out₀ x s' (put_mid r.bytes (length out - r.bytes) out part')) (sym e) (loop_stops n)

        pub loop_again : (leaving' : List ℕ) → Goes leaving' → (r' : FeedAnswer) → r' ≡ added_to r t
            → Looping batch s₀ out₀ index₀ free₀ leaving₀ c idle resolution r' s' (put_mid r.bytes (length out - r.bytes) out part') index' free' leaving'
        loop_again leaving' g r' e =
            subst (λ (x : FeedAnswer). Looping batch s₀ out₀ index₀ free₀ leaving₀ c idle resolution x s' (put_mid r.bytes (length out - r.bytes) out part') index' free' leaving') (sym e) g.loop

        pub loop_less : (leaving' : List ℕ) → Goes leaving' → (r' : FeedAnswer) → r' ≡ added_to r t → length batch - r'.used < length batch - r.used
        loop_less leaving' g r' e = omega (arith, g.more, g.within, ap (λ (x : FeedAnswer). x.used) e)

pub rest_long : (out t : List ℕ) (a : ℕ) → a ≤ length out → length t ≡ length (take (length out - a) (drop a out)) → length (put_mid a (length out - a) out t) ≡ length out
rest_long out t a h e =
    ap length (rest_put out t a) ∙ length-append (take a out) t
    ∙ omega (arith, ap length (lent_rest out a), length-drop a out, length-take a out)
