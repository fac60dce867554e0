-- One packet of a batch, read at its place. Assumes nothing.
use Rattle.forms.specs.Refusals.{refusal_number, refusal_of, stop_number}
use Rattle.std.specs.Prelude.{ℕ, ◌+◌, ◌-◌, ◌≤◌, ◌<◌, ◌≡◌, refl, Bool, true, cond, List, ◌++◌, length, take, drop, Option, Some, Err, Ok, Result}
use Rattle.std.proofs.Common.{sym, ap, ◌∙◌, subst, append_assoc, arith, length-append, take_at, drop-drop, drop_at}
use Rattle.forms.specs.Form.{Read, got}
use Rattle.forms.specs.At.{read_at}
use Rattle.flow.specs.declared.time.Idle.{Idle}
use Rattle.flow.specs.declared.time.TimeResolution.{TimeResolution}
use Rattle.flow.specs.declared.record.PacketFacts.{PacketFacts}
use Rattle.key.specs.KeyForm.{key}
use Rattle.key.specs.declared.key.FlowKey.{FlowKey}
use Rattle.wire.specs.PacketForm.{facts, packet}
use Rattle.wire.specs.PacketLemmas.{packet_writes, facts_short, facts_refused, facts_key, facts_key_short, facts_key_refused}
use Rattle.wire.specs.declared.packet.Packet.{Packet}
use Rattle.plain.specs.Plain.{plain_at, key_read}
use Rattle.plain.specs.PlainLaws.{plain_read}
use Rattle.plain.specs.declared.Plain.{Plain}
use Rattle.rules.specs.Engine.{key_bytes}
use Rattle.engine.specs.declared.batch.Taken.{Taken}
use Rattle.engine.specs.Batch.{Here, packet_here, ends_behind}
use Rattle.packet.specs.declared.Step.{Step}
use Rattle.packet.specs.Step.{InCall, PacketAsked, PacketDone}
use Rattle.packet.specs.Steady.{SteadyAsked, SteadyTaken, quiet_step}
use Rattle.forms.specs.Answers.{stands}
use Rattle.forms.specs.declared.stop.Stop.{Stop}
use Rattle.forms.specs.Form.{stop}

-- a call in order, and a place within the batch
pub record OneAsked (s index free leaving : List ℕ) (c : ℕ) (idle : Idle) (resolution : TimeResolution) (batch : List ℕ) (at : ℕ) : Type 0 where
  pub call : InCall s index free c idle resolution
  pub list : 4096 ≤ length leaving
  pub within : at < length batch

-- nothing was done, for this refusal
pub record Unread (number : ℕ) (s room index free : List ℕ) (r : Taken) (s' out index' free' : List ℕ) : Type 0 where
  pub answer : stop_number r.step.refusal ≡ number
  pub state : s' ≡ s
  pub output : out ≡ room
  pub index_is : index' ≡ index
  pub free_is : free' ≡ free

-- by what was read: a packet, and what it did; or bytes that stop too early, 9, or are no packet, 4
abbrev pub OneFed : Read Packet ℕ → (s room index free : List ℕ) (c : ℕ) (idle : Idle) (resolution : TimeResolution) (r : Taken) (s' out index' free' : List ℕ) → Type 0
OneFed (got p next) s room index free c idle resolution r s' out index' free' =
    PacketDone p s room c idle resolution r.step s' out index' free' × (r.next ≡ next)
OneFed (stop Stop.Short) s room index free c idle resolution r s' out index' free' = Unread 9 s room index free r s' out index' free'
OneFed (stop Stop.Refused) s room index free c idle resolution r s' out index' free' = Unread 4 s room index free r s' out index' free'

-- 1 for a packet that opened a flow
abbrev pub count_of : Bool → ℕ
count_of b = cond b 1 0

-- ## The bytes of the packet's key are the last of its form

module _ (batch : List ℕ) (at : ℕ) (some : at < length batch) (p : Packet) (next : ℕ) (here : Here batch at some p next) (from : ℕ)
    (start : from ≡ at + length (facts.write p.facts)) where
  size : next ≡ from + length (key_bytes p.key)
  size = omega (arith, here.behind, ap length (packet_writes p) ∙ length-append (facts.write p.facts) (key_bytes p.key))

  key_fits : from ≤ next
  key_fits = omega (arith, size)

  key_here : take (next - from) (drop from batch) ≡ key_bytes p.key
  key_here =
      let rest : drop from batch ≡ key_bytes p.key ++ drop next batch =
      ap (λ (k : ℕ). drop k batch) start ∙ sym (drop-drop (length (facts.write p.facts)) at batch)
      ∙ ap (drop (length (facts.write p.facts)))
      (here.bytes ∙ ap (λ (l : List ℕ). l ++ drop next batch) (packet_writes p) ∙ append_assoc (facts.write p.facts) (key_bytes p.key) (drop next batch))
      ∙ drop_at (facts.write p.facts) (key_bytes p.key ++ drop next batch) (length (facts.write p.facts)) refl in
      ap (take (next - from)) rest ∙ take_at (key_bytes p.key) (drop next batch) (next - from) (omega (arith, size))

-- ## The ways out

module _ (s index free leaving : List ℕ) (c : ℕ) (idle : Idle) (resolution : TimeResolution) (batch : List ℕ) (at : ℕ)
    (ask : OneAsked s index free leaving c idle resolution batch at) where
  -- what is refused before it is a packet
  cut : read_at packet batch at ≡ stop Stop.Short → (room : List ℕ) (r : Taken) → stop_number r.step.refusal ≡ 9
      → OneFed (read_at packet batch at) s room index free c idle resolution r s room index free
  cut e room r n =
      subst (λ (x : Read Packet ℕ). OneFed x s room index free c idle resolution r s room index free) (sym e)
      (record { answer = n; state = refl; output = refl; index_is = refl; free_is = refl })

  no_packet : read_at packet batch at ≡ stop Stop.Refused → (room : List ℕ) (r : Taken) → stop_number r.step.refusal ≡ 4
      → OneFed (read_at packet batch at) s room index free c idle resolution r s room index free
  no_packet e room r n =
      subst (λ (x : Read Packet ℕ). OneFed x s room index free c idle resolution r s room index free) (sym e)
      (record { answer = n; state = refl; output = refl; index_is = refl; free_is = refl })

  module _ (a : Result (PacketFacts × ℕ) Stop) (first : stands a ≡ read_at facts batch at) where
    pub one_facts_stopped : (why : Stop) → a ≡ Err why → (room : List ℕ) (r : Taken) → stop_number r.step.refusal ≡ refusal_number (refusal_of why)
        → OneFed (read_at packet batch at) s room index free c idle resolution r s room index free
    one_facts_stopped Stop.Short e room r n = cut (facts_short batch at (sym first ∙ ap stands e)) room r n
    one_facts_stopped Stop.Refused e room r n = no_packet (facts_refused batch at (sym first ∙ ap stands e)) room r n

    pub one_facts : (f : PacketFacts) (from : ℕ) → a ≡ Ok (f, from) → read_at facts batch at ≡ got f from
    one_facts f from e = sym first ∙ ap stands e

  module _ (f : PacketFacts) (from : ℕ) (facts-read : read_at facts batch at ≡ got f from) where
    -- a packet whose key was read, and where its key lies
    module _ (k : FlowKey) (next : ℕ) (key_read_lem : read_at key batch from ≡ got k next) where
      abbrev whole : Packet
      whole = record { facts = f; key = k }

      packet_read_lem : read_at packet batch at ≡ got whole next
      packet_read_lem = facts_key batch at f from facts-read k next key_read_lem

      here_read : Here batch at ask.within whole next
      here_read = packet_here batch at ask.within whole next packet_read_lem

      start : from ≡ at + length (facts.write f)
      start = ends_behind facts batch at ask.within f from facts-read

      key_lies : take (next - from) (drop from batch) ≡ key_bytes k
      key_lies = key_here batch at ask.within whole next here_read from start

      one_done : (room s' out index' free' : List ℕ) (r : Taken) → r.next ≡ next → PacketDone whole s room c idle resolution r.step s' out index' free'
          → OneFed (read_at packet batch at) s room index free c idle resolution r s' out index' free'
      one_done room s' out index' free' r n d =
          subst (λ (x : Read Packet ℕ). OneFed x s room index free c idle resolution r s' out index' free') (sym packet_read_lem) (d, n)

    -- ## The general way

    module _ (b : Result (FlowKey × ℕ) Stop) (second : stands b ≡ read_at key batch from) where
      pub one_key_stopped : (why : Stop) → b ≡ Err why → (room : List ℕ) (r : Taken) → stop_number r.step.refusal ≡ refusal_number (refusal_of why)
          → OneFed (read_at packet batch at) s room index free c idle resolution r s room index free
      one_key_stopped Stop.Short h room r n = cut (facts_key_short batch at f from facts-read (sym second ∙ ap stands h)) room r n
      one_key_stopped Stop.Refused h room r n = no_packet (facts_key_refused batch at f from facts-read (sym second ∙ ap stands h)) room r n

      module _ (k : FlowKey) (next : ℕ) (h : b ≡ Ok (k, next)) where
        key_got : read_at key batch from ≡ got k next
        key_got = sym second ∙ ap stands h

        pub key_starts : from ≤ next
        key_starts = key_fits batch at ask.within (whole k next key_got) next (here_read k next key_got) from (start k next key_got)

        pub key_ends : next ≤ length batch
        key_ends = (here_read k next key_got).within

        pub one_asked : PacketAsked s index free leaving c idle resolution (record { facts = f; key = k }) (take (next - from) (drop from batch))
        one_asked =
            record { call = ask.call; list = ask.list; in_range = (here_read k next key_got).in_range; key = key_lies k next key_got }

        pub one_fed : (room s' out index' free' : List ℕ) (r : Taken) → r.next ≡ next
            → PacketDone (record { facts = f; key = k }) s room c idle resolution r.step s' out index' free'
            → OneFed (read_at packet batch at) s room index free c idle resolution r s' out index' free'
        one_fed = one_done k next key_got

    -- ## The short way

    module _ (b : Option Plain) (seen : b ≡ plain_at batch from) (x : Plain) (h : b ≡ Some x) where
      plain_got : read_at key batch from ≡ got (key_read batch from) x.next
      plain_got = plain_read batch from (sym seen ∙ h)

      pub steady_asked : SteadyAsked s index c idle f batch from x
      steady_asked = record {
        free = free;
        resolution = resolution;
        call = ask.call;
        in_range = (here_read (key_read batch from) x.next plain_got).in_range;
        plain = sym h ∙ seen;
      }

      pub steady_fed : (taken : Bool) (s' : List ℕ) → SteadyTaken (record { facts = f; key = key_read batch from }) s index c idle taken s' → taken ≡ true
          → (room : List ℕ) (r : Taken) → r.step ≡ quiet_step → r.next ≡ x.next
          → OneFed (read_at packet batch at) s room index free c idle resolution r s' room index free
      steady_fed taken s' told e room r quiet n =
          one_done (key_read batch from) x.next plain_got room s' room index free r n
          (subst (λ (z : Step). PacketDone (record { facts = f; key = key_read batch from }) s room c idle resolution z s' room index free) (sym quiet)
          (told.taken e room free resolution ask.call))

  -- where the short way was not taken, nothing has happened
  module _ (s' : List ℕ) (same : s' ≡ s) where
    pub left_asked : OneAsked s' index free leaving c idle resolution batch at
    left_asked = subst (λ (z : List ℕ). OneAsked z index free leaving c idle resolution batch at) (sym same) ask

    pub left_fed : (room : List ℕ) (r : Taken) (s2 out index' free' : List ℕ)
        → OneFed (read_at packet batch at) s' room index free c idle resolution r s2 out index' free'
        → OneFed (read_at packet batch at) s room index free c idle resolution r s2 out index' free'
    left_fed room r s2 out index' free' =
        subst (λ (z : List ℕ). OneFed (read_at packet batch at) z room index free c idle resolution r s2 out index' free') same
