-- What a slot says once a record is stored in it. Assumes nothing.
use Rattle.std.specs.Prelude.{None}
use Prim.Native.Nat.{ℕ, ◌≤◌}
use mathlib.Core.Path.{◌≡◌, sym, ap, ◌∙◌, subst}
use mathlib.Core.Bool.{true}
use mathlib.Core.List.{List, ◌∷◌}
use native.Mathlib.Omega.{arith}
use lib.ListN.{length, drop, get_or, length-take, length-drop}
use Rattle.memory.specs.Bytes.{part, patch, bytes_of}
use Rattle.memory.proofs.Laws.{drop_behind}
use Rattle.memory.proofs.Words.{length_bytes}
use Rattle.slots.specs.Table.{is_used, key_of}
use Rattle.slots.proofs.Laws.{keyed_used, keyed_key}
use Rattle.table.specs.Due.{end_of}
use Rattle.table.proofs.SlotLaws.{end_word, stored_used, stored_key, stored_words, keyed_length}
use Rattle.words.specs.Words.{words_of, record_of, words_fit}
use Rattle.words.specs.Kept.{record_back, length_words, fits_in_range, words_below}
use Rattle.index.specs.Hash.{key_from, key_from_lem}
use Rattle.key.specs.KeyTheorems.{KeyInRange, key_at_most}
use Rattle.key.specs.declared.key.FlowKey.{FlowKey}
use Rattle.flow.specs.Sound.{sound_aside}
use Rattle.flow.specs.declared.record.FlowRecord.{FlowRecord}
use Rattle.rules.specs.Engine.{key_bytes}
use Rattle.rules.specs.EngineLaws.{SoundFlow}
use Rattle.state.specs.Slot.{key_in, words_in, record_in, flow_in, SoundSlot}
use Rattle.state.specs.Meaning.{record_of_flow}
use Rattle.act.specs.Keep.{flow_under}

-- ## The slot of a flow's key bytes and words

module _ (k : FlowKey) (r : FlowRecord) (flow : SoundFlow k r) (unended : r.time.end_reason ≡ None) (b : List ℕ)
    (key : key_of b ≡ key_bytes k) (words : words_in b ≡ words_of r) where
  name_is : key_in b ≡ k
  unfolding key_in
  name_is = ap key_from key ∙ key_from_lem k flow.key

  record_is : record_in b ≡ r
  unfolding record_in
  record_is = ap record_of words ∙ record_back r unended

  -- it has that flow
  pub flow_is : flow_in b ≡ flow_under k r
  unfolding flow_in
  flow_is = λ t. record { name = name_is t; held = record_is t }

  -- and its end
  pub end_is : end_of b ≡ r.time.end.0
  unfolding words_in words_of
  end_is = end_word b ∙ ap (λ (ws : List ℕ). get_or ws 1 0) words

  -- and is sound
  pub sound_is : SoundSlot b
  sound_is = record {
    in_range = subst KeyInRange (sym name_is) flow.key;
    key = ap key_bytes name_is ∙ sym key;
    words = λ n low.
        omega (arith, ap (λ (ws : List ℕ). get_or ws n 0) words, words_below {r = r} (record_of_flow k r flow) flow.sound n low);
    fit = ap words_fit words ∙ fits_in_range {r = r} (record_of_flow k r flow);
    sound = ap sound_aside record_is ∙ flow.sound;
  }

-- ## A record's words in a slot

-- the slot with a record's words
abbrev pub stored_slot : FlowRecord → List ℕ → List ℕ
stored_slot r b = patch b 80 (bytes_of (words_of r))

module _ (k : FlowKey) (r : FlowRecord) (flow : SoundFlow k r) (b : List ℕ) (long : length b ≡ 624) where
  pub words_stored : words_in (stored_slot r b) ≡ words_of r
  unfolding words_in
  words_stored =
      stored_words b (words_of r) (omega arith) (length_words r) (words_below {r = r} (record_of_flow k r flow) flow.sound)

  pub used_stored : is_used (stored_slot r b) ≡ is_used b
  used_stored = stored_used b (words_of r) (omega arith) (length_words r)

  pub spare_stored : drop 376 (stored_slot r b) ≡ drop 376 b
  spare_stored =
      drop_behind b 80 (bytes_of (words_of r)) 376 (omega (arith, length_bytes (words_of r), length_words r)) (omega arith)

  -- the key bytes of a slot end before its record
  pub key_stored : length (key_of b) ≤ 72 → key_of (stored_slot r b) ≡ key_of b
  unfolding key_of part
  key_stored short =
      stored_key b (words_of r) (omega arith) (length_words r)
      (omega (arith, length-take (get_or b 1 0) (drop 2 b), length-drop 2 b))

-- the key bytes of a sound slot are at most 72
pub key_short : (b : List ℕ) → SoundSlot b → length (key_of b) ≤ 72
key_short b h = omega (arith, ap length h.key, key_at_most (key_in b) h.in_range)

-- ## A key in a slot

-- the slot with a key's bytes
abbrev pub keyed_slot : List ℕ → List ℕ → List ℕ
keyed_slot bytes b = patch b 0 (1 ∷ length bytes ∷ bytes)

module _ (bytes b : List ℕ) (short : length bytes ≤ 72) (long : length b ≡ 624) where
  pub length_keyed : length (keyed_slot bytes b) ≡ 624
  length_keyed = keyed_length b bytes (omega arith) (omega arith) ∙ long

  pub used_keyed : is_used (keyed_slot bytes b) ≡ true
  used_keyed = keyed_used b bytes (omega arith)

  pub key_keyed : key_of (keyed_slot bytes b) ≡ bytes
  key_keyed = keyed_key b bytes (omega arith)

  pub spare_keyed : drop 376 (keyed_slot bytes b) ≡ drop 376 b
  spare_keyed = drop_behind b 0 (1 ∷ length bytes ∷ bytes) 376 (omega arith) (omega arith)
