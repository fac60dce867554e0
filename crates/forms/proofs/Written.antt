-- Bytes stored one behind the other.
use Rattle.std.specs.Prelude.{ℕ, suc, Some, None, true, leb, ◌+◌, ◌-◌, ◌≤◌, ◌<◌, ◌≡◌, refl, List, [], ◌∷◌, ◌++◌, length, take, drop, set}
use Rattle.std.proofs.Common.{ap, sym, ◌∙◌, arith, append_assoc, le-leb, add-one, add-zero}
use Rattle.std.proofs.lemmas.Bool.{lt-leb}
use Rattle.std.proofs.lemmas.List.{take_at, take-append-drop, take_more_set, set_split, drop-set-lt, drop-drop, length-append, length-take-le, length-drop}
use Rattle.std.proofs.lemmas.List.Edits.{sets, sets-eq}
use Rattle.std.proofs.Math.Seq.{drop-append-add, length-sets}
use Rattle.forms.specs.Number.{number_bytes}
use Rattle.forms.specs.Lone.{wrote, write_one, wrote_front}
use Rattle.forms.specs.Put.{Put, stored, sets_append, sets_out, written, Writes}

-- nothing
pub written_none : (at : ℕ) (old : List ℕ) → written at [] old ≡ old
unfolding written
written_none at old = rw add-zero (take-append-drop at old)

-- a byte, and a byte with others behind it
pub written_byte : (at b : ℕ) (old : List ℕ) → at < length old → set old at b ≡ written at (b ∷ []) old
unfolding written
written_byte at b old h = set_split old at b h ∙ rw (← add-one at) refl

pub written_more : (at b : ℕ) (l out : List ℕ) → at < length out → written (at + 1) l (set out at b) ≡ written at (b ∷ l) out
unfolding written
written_more at b l out h =
    let past : at < at + 1 + length l = omega arith in
    let gap : at + 1 + length l ≡ at + suc (length l) = omega arith in
    rw (take_more_set out at b h, drop-set-lt (at + 1 + length l) out at b past, append_assoc, gap) refl

-- one behind the other
pub writes_then : {at n end : ℕ} {a b old mid new : List ℕ} → Writes at a old mid n → Writes n b mid new end → Writes at (a ++ b) old new end
unfolding written
writes_then {at} {n} {end} {a} {b} {old} {mid} {new} w v =
    let front = take at old ++ a in
    let tail = drop (at + length a) old in
    let size : length front ≡ n = omega (arith, length-append (take at old) a, length-take-le at old (omega (arith, w.room)), w.ends) in
    let whole : mid ≡ front ++ tail = w.stored ∙ sym (append_assoc (take at old) a tail) in
    let first : take n mid ≡ front = rw whole (take_at front tail n size) in
    let rest : drop (at + length a + length b) old ≡ drop (at + length (a ++ b)) old = ap (λ (k : ℕ). drop k old) (omega (arith, length-append a b)) in
    let second : drop (n + length b) mid ≡ drop (at + length (a ++ b)) old =
    rw (whole, ← size) (drop-append-add front tail (length b) ∙ drop-drop (length b) (at + length a) old ∙ rest) in
    record {
      room = omega (arith, length-append a b, v.room, w.room, ap length whole, length-append front tail, length-drop (at + length a) old, size, w.ends);
      stored = v.stored ∙ rw (first, second) (simp append_assoc);
      ends = omega (arith, length-append a b, v.ends, w.ends);
    }

pub writes_byte : (at b : ℕ) (old : List ℕ) → at < length old → Writes at (b ∷ []) old (set old at b) (at + 1)
writes_byte at b old h = record { room = omega arith; stored = written_byte at b old h; ends = refl }

-- what a writer that minds the room answers there
pub writes_put : {at end : ℕ} {bytes old new : List ℕ} → Writes at bytes old new end → Put old (Some at) bytes new (Some end)
unfolding written
writes_put {at} {end} {bytes} {old} {new} w = record {
  holds = w.stored ∙ sym (append_assoc (take at old) bytes (drop (at + length bytes) old)) ∙ sym (sets-eq bytes old at w.room);
  next = rw (le-leb (at + length bytes) (length old) w.room, w.ends) refl;
}

pub wrote_whole : {end : ℕ} {bytes old new : List ℕ} (other : ℕ) → Writes 0 bytes old new end → (wrote end, new) ≡ write_one other true bytes old
wrote_whole {end} {bytes} {old} {new} other w =
    let size : end ≡ length bytes = omega (arith, w.ends) in
    wrote_front other true bytes old refl end size (omega (arith, w.room)) (writes_put w)

-- where there is too little
pub put_short : (at : ℕ) (bytes old new : List ℕ) → length old < at + length bytes → new ≡ stored old (Some at) bytes → Put old (Some at) bytes new None
put_short at bytes old new h e = record { holds = e; next = rw (lt-leb (at + length bytes) (length old) h) refl }

-- what is stored of bytes that end past the end of the output
pub first_stored : (bytes : List ℕ) {at m : ℕ} {old new : List ℕ} → Writes at (take (length old - at) bytes) old new m → at < length old → length old < at + length bytes
    → new ≡ stored old (Some at) bytes
first_stored bytes {at} {m} {old} {new} v inside short =
    let room = length old - at in
    let few : room ≤ length bytes = omega arith in
    let count : length (take room bytes) ≡ room = length-take-le room bytes few in
    let size : at + length (take room bytes) ≡ length old = omega arith in
    let all : sets old at bytes ≡ sets (sets old at (take room bytes)) (at + length (take room bytes)) (drop room bytes) =
    ap (λ (l : List ℕ). sets old at l) (sym (take-append-drop room bytes)) ∙ sets_append old at (take room bytes) (drop room bytes) in
    (writes_put v).holds
    ∙ sym (sets_out (sets old at (take room bytes)) (at + length (take room bytes)) (drop room bytes) (omega (arith, length-sets old at (take room bytes))))
    ∙ sym all

-- the bytes of a value, at the front of a buffer
pub buffered : {n : ℕ} {bytes zeros buffer : List ℕ} → Writes 0 bytes zeros buffer n → take n buffer ≡ bytes
unfolding written
buffered {n} {bytes} {zeros} {buffer} w = rw w.stored (take_at bytes (drop (0 + length bytes) zeros) n (omega (arith, w.ends)))

pub none_stored : (at : ℕ) (bytes old : List ℕ) → length old ≤ at → old ≡ stored old (Some at) bytes
none_stored at bytes old h = sym (sets_out old at bytes h)

pub wrote_number : {end v : ℕ} {old new : List ℕ} (most : ℕ) → v ≤ most → Writes 0 (number_bytes v) old new end → (wrote end, new) ≡ write_one 4 (leb v most) (number_bytes v) old
wrote_number {end} {v} {old} {new} most h w = rw (le-leb v most h) (wrote_whole 4 w)
