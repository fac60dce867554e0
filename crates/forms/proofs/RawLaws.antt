-- Raw bytes at the front, and how they are written.
use Rattle.std.specs.Prelude.{ℕ, suc, ◌-◌, ◌/◌, ◌%◌, ◌^◌, ◌≤◌, ◌<◌, ◌≡◌, refl, List, Option, [], ◌∷◌, ◌++◌, length, get_or, take, drop}
use Rattle.std.proofs.Common.{sym, ap, ◌∙◌, arith, take_all, lt-ltb, zero-add}
use Rattle.std.proofs.Math.Nat.{div-div-eq-div-mul}
use Rattle.std.specs.Int.{w16, w32, w64, to_be_bytes}
use Rattle.forms.specs.Form.{got, stop, byte, byte_reads, byte_ends, raw, raw_writes, raw_one_writes}
use Rattle.forms.specs.Put.{Put, Writes}
use Rattle.forms.specs.Raw.{RawAt, raw_short}
use Rattle.forms.specs.declared.stop.Stop.{Stop}
use Rattle.forms.proofs.Found.{front_got, front_stop}

-- a byte at the front of a slice, as a pattern [first, rest @ ..] names it
pub byte_first : (s : List ℕ) → 1 ≤ length s → get_or s 0 0 < 256 → got (get_or s 0 0) (take (length s - 1) (drop 1 s)) ≡ byte.read s
byte_first [] h k = absurd (omega arith)
byte_first (b ∷ s) h k = rw (byte_reads, lt-ltb b 256 k) (ap (λ (l : List ℕ). got b l) (take_all (length (b ∷ s) - 1) s (omega arith)))

pub byte_last : (s : List ℕ) → length s < 1 → stop Stop.Short ≡ byte.read s
byte_last [] h = sym byte_ends
byte_last (b ∷ s) h = absurd (omega arith)

-- n bytes there
module _ (s : List ℕ) (n : ℕ) where
  pub raw_first_got : (v : ℕ) → RawAt s 0 n v → got v (take (length s - n) (drop n s)) ≡ (raw n).read s
  raw_first_got v p = front_got (raw n) s v n (rw (zero-add n) at p.takes.reads)

  pub raw_first_short : ((k : ℕ) → k < length s → get_or s k 0 < 256) → 1 ≤ n → length s < n → stop Stop.Short ≡ (raw n).read s
  raw_first_short bytes o h = front_stop (raw n) s Stop.Short (raw_short s bytes 0 n o (omega arith))

  pub raw_below : (v : ℕ) → RawAt s 0 n v → v < 256 ^ n
  raw_below v p = p.below

-- the bytes of a number, one by one
one_more : (n v : ℕ) {l : List ℕ} → (raw (suc n)).write (v / 256) ≡ l → (raw (suc (suc n))).write v ≡ l ++ (v % 256 ∷ [])
one_more n v e = raw_writes n v ∙ ap (λ (l : List ℕ). l ++ (v % 256 ∷ [])) e

raw_2 : (v : ℕ) → (raw 2).write v ≡ v / 256 ∷ v % 256 ∷ []
raw_2 v = one_more 0 v (raw_one_writes (v / 256))

raw_4 : (v : ℕ) → (raw 4).write v ≡ v / 256 / 256 / 256 ∷ v / 256 / 256 % 256 ∷ v / 256 % 256 ∷ v % 256 ∷ []
raw_4 v = one_more 2 v (one_more 1 (v / 256) (raw_2 (v / 256 / 256)))

raw_8 : (v : ℕ) → (raw 8).write v
    ≡ v / 256 / 256 / 256 / 256 / 256 / 256 / 256 ∷ v / 256 / 256 / 256 / 256 / 256 / 256 % 256 ∷ v / 256 / 256 / 256 / 256 / 256 % 256 ∷ v / 256 / 256 / 256 / 256 % 256
    ∷ v / 256 / 256 / 256 % 256 ∷ v / 256 / 256 % 256 ∷ v / 256 % 256 ∷ v % 256 ∷ []
raw_8 v = one_more 6 v (one_more 5 (v / 256) (one_more 4 (v / 256 / 256) (one_more 3 (v / 256 / 256 / 256) (raw_4 (v / 256 / 256 / 256 / 256)))))

two : (v : ℕ) → v < 2 ^ 16 → (raw 2).write v ≡ to_be_bytes w16 v
two v h = let top : v / 256 ≡ v / 256 % 256 = omega arith in raw_2 v ∙ ap (λ (x : ℕ). x ∷ v % 256 ∷ []) top

four : (v : ℕ) → v < 2 ^ 32 → (raw 4).write v ≡ to_be_bytes w32 v
four v h =
    let q : v / 256 / 256 ≡ v / 65536 = div-div-eq-div-mul v 256 256 in
    let r : v / 256 / 256 / 256 ≡ v / 16777216 % 256 = omega arith in
    raw_4 v ∙ rw (r, q) refl

eight : (v : ℕ) → v < 2 ^ 64 → (raw 8).write v ≡ to_be_bytes w64 v
eight v h =
    let q : v / 256 / 256 ≡ v / 65536 = div-div-eq-div-mul v 256 256 in
    let r : v / 65536 / 256 ≡ v / 16777216 = div-div-eq-div-mul v 65536 256 in
    let t : v / 16777216 / 256 ≡ v / 4294967296 = div-div-eq-div-mul v 16777216 256 in
    let u : v / 4294967296 / 256 ≡ v / 1099511627776 = div-div-eq-div-mul v 4294967296 256 in
    let w : v / 1099511627776 / 256 ≡ v / 281474976710656 = div-div-eq-div-mul v 1099511627776 256 in
    let x : v / 281474976710656 / 256 ≡ v / 72057594037927936 = div-div-eq-div-mul v 281474976710656 256 in
    let top : v / 72057594037927936 ≡ v / 72057594037927936 % 256 = omega arith in
    raw_8 v ∙ rw (q, r, t, u, w, x) (ap (λ (y : ℕ). y ∷ v / 281474976710656 % 256 ∷ v / 1099511627776 % 256 ∷ v / 4294967296 % 256 ∷ v / 16777216 % 256 ∷ v / 65536 % 256 ∷ v / 256 % 256 ∷ v % 256 ∷ []) top)

module _ {at end v : ℕ} {l old new : List ℕ} where
  pub two_bytes : l ≡ to_be_bytes w16 v → v < 2 ^ 16 → Writes at l old new end → Writes at ((raw 2).write v) old new end
  two_bytes e h w = rw (two v h) (rw e at w)

  pub four_bytes : l ≡ to_be_bytes w32 v → v < 2 ^ 32 → Writes at l old new end → Writes at ((raw 4).write v) old new end
  four_bytes e h w = rw (four v h) (rw e at w)

  pub eight_bytes : l ≡ to_be_bytes w64 v → v < 2 ^ 64 → Writes at l old new end → Writes at ((raw 8).write v) old new end
  eight_bytes e h w = rw (eight v h) (rw e at w)

-- the same at a place that may be full
module _ {v : ℕ} {place end : Option ℕ} {l old new : List ℕ} where
  pub two_put : l ≡ to_be_bytes w16 v → v < 2 ^ 16 → Put old place l new end → Put old place ((raw 2).write v) new end
  two_put e h p = rw (two v h) (rw e at p)

  pub four_put : l ≡ to_be_bytes w32 v → v < 2 ^ 32 → Put old place l new end → Put old place ((raw 4).write v) new end
  four_put e h p = rw (four v h) (rw e at p)

  pub eight_put : l ≡ to_be_bytes w64 v → v < 2 ^ 64 → Put old place l new end → Put old place ((raw 8).write v) new end
  eight_put e h p = rw (eight v h) (rw e at p)
