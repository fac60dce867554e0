-- A batch fed to a state that the caller lends. Assumes nothing.
use Rattle.forms.specs.declared.refusal.Refusal.TheVariants.{Damaged}
use Rattle.std.specs.Prelude.{ℕ, ◌≤◌, ◌≡◌, refl, Bool, true, false, List, length, Some}
use Rattle.std.proofs.Common.{sym, ap, ◌∙◌, subst}
use Rattle.memory.specs.Bytes.{part}
use Rattle.wire.specs.RecordForm.{resolution_from}
use Rattle.table.specs.Header.{header_of}
use Rattle.table.specs.declared.Header.{Header}
use Rattle.flow.specs.declared.time.Idle.{Idle}
use Rattle.flow.specs.declared.time.TimeResolution.{TimeResolution}
use Rattle.state.specs.State.{settings_in, settings_of, meaning}
use Rattle.state.specs.Check.{Checked}
use Rattle.sweeps.specs.Steps.{SoundReady}
use Rattle.sweeps.specs.StateLaws.{loaded_capacity, loaded_ready, nothing_done, checked_damaged}
use Rattle.engine.specs.declared.FeedAnswer.{FeedAnswer}
use Rattle.engine.specs.Batch.{parsed, feed_bytes}
use Rattle.engine.specs.Feed.{FedAs, Fed}
use Rattle.engine.specs.FeedLoop.{AllAsked, nothing_yet, stopped_by}

-- the call is in order on a sound state whose header was loaded
pub call_asked : (s index free leaving : List ℕ) → SoundReady s index free → (h : Header) → h ≡ header_of (part s 0 256)
    → (idle : Idle) → idle.timeout.0 ≡ h.timeout.0 → idle.lateness.0 ≡ h.lateness.0
    → (resolution : TimeResolution) → resolution ≡ resolution_from h.resolution → 4096 ≤ length leaving
    → AllAsked s index free leaving h.capacity idle resolution
unfolding settings_of
call_asked s index free leaving g h is idle t l resolution e many = record {
  call = record {
    sound = g.sound;
    ready = loaded_ready s h is g.sound index free g.ready;
    capacity = loaded_capacity s h is g.sound;
    timeout = t ∙ ap (λ (x : Header). x.timeout.0) is;
    lateness = l ∙ ap (λ (x : Header). x.lateness.0) is;
    resolution_is = e ∙ ap (λ (x : Header). resolution_from x.resolution) is;
  };
  list = many;
}

module _ (s room batch index free : List ℕ) (yes : Bool) (checked : Checked s yes index free) where
  pub fed_sound : yes ≡ true → (r : FeedAnswer) (after out : List ℕ)
      → FedAs (feed_bytes (settings_in s) (length room) batch (meaning s)) (parsed batch).packets s room r after out → Fed s batch room r after out
  fed_sound e r after out did = record { damaged = λ n. absurd (n (checked.decides.0 e)); told = λ sound. did }

  pub fed_damaged : yes ≡ false → (nothing : FeedAnswer) → nothing ≡ nothing_yet → (r : FeedAnswer) → r ≡ stopped_by (Some Damaged) nothing → Fed s batch room r s room
  fed_damaged e nothing n r is =
      subst (λ (x : FeedAnswer). Fed s batch room x s room) (sym (is ∙ ap (stopped_by (Some Damaged)) n))
      (record { damaged = λ bad. (nothing_done s room, refl, refl, refl); told = λ sound. absurd (checked_damaged s yes index free checked e sound) })
