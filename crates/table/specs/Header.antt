-- The header of a state, 256 bytes: six words, and spare bytes behind them.
use Rattle.std.specs.Prelude.{ℕ, ◌^◌, ◌<◌, List, [], ◌∷◌, ◌++◌, replicate}
use Rattle.memory.specs.Bytes.{num, le, part, patch, bytes_of}
use Rattle.flow.specs.declared.time.Nanos.{Nanos}
use Rattle.table.specs.declared.Header.{Header}

-- the header that bytes stand for: each field is the word at its place
unfoldable pub header_of : List ℕ → Header
header_of b =
    record {
      layout = num (part b 0 8);
      capacity = num (part b 8 8);
      timeout = record { 0 = num (part b 16 8) };
      lateness = record { 0 = num (part b 24 8) };
      resolution = num (part b 32 8);
      clock = record { 0 = num (part b 40 8) };
    }

-- the fields in the order of their places
abbrev pub header_words : Header → List ℕ
header_words h = h.layout ∷ h.capacity ∷ h.timeout.0 ∷ h.lateness.0 ∷ h.resolution ∷ h.clock.0 ∷ []

-- the 256 bytes of a header whose spare bytes are 0
unfoldable pub header_bytes : Header → List ℕ
header_bytes h = bytes_of (header_words h) ++ replicate 208 0

-- each field fits its word
pub record HeaderFits (h : Header) : Type 0 where
  pub layout : h.layout < 2 ^ 64
  pub capacity : h.capacity < 2 ^ 64
  pub timeout : h.timeout.0 < 2 ^ 64
  pub lateness : h.lateness.0 < 2 ^ 64
  pub resolution : h.resolution < 2 ^ 64
  pub clock : h.clock.0 < 2 ^ 64

-- the header's bytes with another clock
unfoldable pub with_clock : ℕ → List ℕ → List ℕ
with_clock w b = patch b 40 (le 8 w)

-- the header of an engine that was just opened
abbrev pub blank_header : ℕ → Nanos → Nanos → ℕ → Header
blank_header capacity timeout lateness resolution =
    record { layout = 1; capacity = capacity; timeout = timeout; lateness = lateness; resolution = resolution; clock = record { 0 = 0 } }
