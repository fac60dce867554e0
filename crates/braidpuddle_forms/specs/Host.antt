-- A host's own record as its 37 words: begun, and counted on. Assumes nothing.
use Rattle.forms.specs.Refusals.{refusal_number}
use Rattle.forms.specs.declared.refusal.Refusal.{Refusal}
use Rattle.std.specs.Prelude.{ℕ, zero, suc, cond, ◌&&◌, List, leb, Result, Ok, Err}
use Rattle.flow.specs.Observed.{begun_of, observed_of}
use Rattle.flow.specs.Sound.{sound_aside}
use Rattle.flow.specs.declared.record.Direction.{Direction}
use Rattle.flow.specs.declared.record.FlowRecord.{FlowRecord}
use Rattle.wire.specs.RecordForm.{resolution_from}
use Rattle.words.specs.Words.{words_of, record_of, words_fit}
use Rattle.braidpuddle_forms.specs.Facts.{facts_fit, facts_from}

-- what beginning or counting answers, and the words afterwards: refused, they stay as they were
abbrev pub counted_by : Result FlowRecord Refusal → List ℕ → ℕ × List ℕ
counted_by (Ok r) before = (0, words_of r)
counted_by (Err why) before = (refusal_number why, before)

-- "begun with its first packet counted forward"; Packet, 4, where a field is out of range
abbrev pub begun_words : List ℕ → ℕ → ℕ → List ℕ → ℕ × List ℕ
begun_words ns protocol resolution before =
    cond (facts_fit ns && leb protocol 255) (counted_by (begun_of (resolution_from resolution) protocol (facts_from ns)) before) (4, before)

-- "in a direction it names": 0 is forward, any other number reverse
abbrev pub direction_named : ℕ → Direction
direction_named zero = Direction.Forward
direction_named (suc n) = Direction.Reverse

-- "Damaged (end reason aside), Packet or Spent, in that order"
abbrev pub counted_words : List ℕ → ℕ → List ℕ → ℕ × List ℕ
counted_words ws direction ns =
    cond (words_fit ws)
    (cond (facts_fit ns)
    (counted_by (observed_of (record_of ws) (direction_named direction) (facts_from ns)) ws)
    (cond (sound_aside (record_of ws)) 4 3, ws))
    (3, ws)
