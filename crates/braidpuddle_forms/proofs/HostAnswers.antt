-- What the functions on a host's own record answer, one law for each way out. Assumes nothing.
use Rattle.std.specs.Prelude.{Result, Ok, Err}
use Rattle.forms.specs.Refusals.{refusal_number}
use Rattle.forms.specs.declared.refusal.Refusal.{Refusal}
use Prim.Native.Nat.{ℕ, zero, suc, ◌^◌, ◌<◌}
use mathlib.Core.Path.{◌≡◌, refl, sym, ◌∙◌}
use mathlib.Core.Bool.{Bool, true, false, ◌&&◌}
use mathlib.Core.List.{List}
use native.Mathlib.Omega.{arith}
use borrow.Author.Tests.{leb-true}
use lib.Dec.{leb}
use Rattle.flow.specs.Observed.{begun_of, observed_of}
use Rattle.flow.specs.Sound.{sound_aside}
use Rattle.flow.specs.SoundLaws.{both}
use Rattle.flow.specs.declared.record.Direction.{Direction}
use Rattle.flow.specs.declared.record.FlowRecord.{FlowRecord}
use Rattle.flow.specs.declared.record.PacketFacts.{PacketFacts}
use Rattle.flow.specs.declared.time.TimeResolution.{TimeResolution}
use Rattle.wire.specs.RecordForm.{resolution_from}
use Rattle.words.specs.Words.{words_of, record_of, words_fit}
use Rattle.braidpuddle_forms.specs.Facts.{facts_fit, facts_from}
use Rattle.braidpuddle_forms.specs.Host.{begun_words, direction_named, counted_by, counted_words}

-- any number but 0 names the reverse direction
pub reverse_named : (n : ℕ) → (n ≡ 0 → ⊥) → Direction.Reverse ≡ direction_named n
reverse_named zero h = absurd (h refl)
reverse_named (suc n) h = refl

-- ---- begin

pub begin_fits : (ns : List ℕ) (fit low : Bool) → fit ≡ facts_fit ns → fit && low ≡ true → facts_fit ns ≡ true
begin_fits ns fit low judged fits = sym judged ∙ (both fit low fits).0

module _ (ns : List ℕ) (protocol : ℕ) (fit : Bool) (judged : fit ≡ facts_fit ns) (resolution : ℕ) (before : List ℕ) where
  pub begin_unfit : fit && leb protocol 255 ≡ false → (4, before) ≡ begun_words ns protocol resolution before
  begin_unfit unfit = rw (← judged, unfit)

  module _ (fits : fit && leb protocol 255 ≡ true) (f : PacketFacts) (made : f ≡ facts_from ns) (finest : TimeResolution)
      (named : finest ≡ resolution_from resolution) (b : Result FlowRecord Refusal) (says : b ≡ begun_of finest protocol f) where
    begin_so : (x : Result FlowRecord Refusal) → b ≡ x → counted_by x before ≡ begun_words ns protocol resolution before
    begin_so x is = rw (← judged, fits, ← made, ← named, ← says, is)

    pub begin_record : (r : FlowRecord) (ws : List ℕ) → b ≡ Ok r → ws ≡ words_of r → (0, ws) ≡ begun_words ns protocol resolution before
    begin_record r ws is words = rw words (begin_so (Ok r) is)

    pub begin_refused : (why : Refusal) → b ≡ Err why → (refusal_number why, before) ≡ begun_words ns protocol resolution before
    begin_refused why is = begin_so (Err why) is

pub protocol_fits : (fit : Bool) (protocol : ℕ) → fit && leb protocol 255 ≡ true → protocol < 2 ^ 8
protocol_fits fit protocol fits = omega (arith, leb-true protocol 255 (both fit (leb protocol 255) fits).1)

-- ---- count

pub words_judged : (ws : List ℕ) (fit : Bool) → fit ≡ words_fit ws → fit ≡ true → words_fit ws ≡ true
words_judged ws fit judged fits = sym judged ∙ fits

module _ (ws ns : List ℕ) (direction : ℕ) (fit : Bool) (judged : fit ≡ words_fit ws) where
  pub count_unfit : fit ≡ false → (3, ws) ≡ counted_words ws direction ns
  count_unfit unfit = rw (← judged, unfit)

  module _ (fits : fit ≡ true) (before : FlowRecord) (stood : before ≡ record_of ws) (known : Bool) (tested : known ≡ facts_fit ns) where
    -- where the packet's numbers do not fit, Damaged comes first
    module _ (out : known ≡ false) (sound : Bool) (weighed : sound ≡ sound_aside before) where
      pub count_packet : sound ≡ true → (4, ws) ≡ counted_words ws direction ns
      count_packet is = rw (← judged, fits, ← tested, out, ← stood, ← weighed, is)

      pub count_damaged : sound ≡ false → (3, ws) ≡ counted_words ws direction ns
      count_damaged is = rw (← judged, fits, ← tested, out, ← stood, ← weighed, is)

    module _ (in_range : known ≡ true) (f : PacketFacts) (made : f ≡ facts_from ns) (d : Direction) (named : d ≡ direction_named direction)
        (c : Result FlowRecord Refusal) (says : c ≡ observed_of before d f) where
      count_so : (x : Result FlowRecord Refusal) → c ≡ x → counted_by x ws ≡ counted_words ws direction ns
      count_so x is = rw (← judged, fits, ← tested, in_range, ← stood, ← made, ← named, ← says, is)

      pub counted : (after : FlowRecord) (words : List ℕ) → c ≡ Ok after → words ≡ words_of after → (0, words) ≡ counted_words ws direction ns
      counted after words is made-words = rw made-words (count_so (Ok after) is)

      pub count_refused : (why : Refusal) → c ≡ Err why → (refusal_number why, ws) ≡ counted_words ws direction ns
      count_refused why is = count_so (Err why) is
