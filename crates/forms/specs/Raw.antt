-- Raw bytes: n of them read at once, and written by halves.
use Rattle.std.specs.Prelude.{ℕ, zero, suc, ◌+◌, ◌*◌, ◌/◌, ◌%◌, ◌^◌, ◌<◌, ◌≤◌, ◌≡◌, refl, List, [], ◌∷◌, ◌++◌, Bool, true, false, ltb, length, get_or, Option}
use Rattle.std.proofs.Common.{sym, ap, ◌∙◌, append_assoc, append-nil, arith, add-one, pow-suc, mod-lt, add-zero, ltb-true, ltb-false}
use Rattle.std.proofs.Math.Nat.{one-le-pow, div-div-eq-div-mul}
use Rattle.std.proofs.Math.Arith.{mod-mul}
use Rattle.forms.specs.Form.{byte, raw, raw_zero, raw_writes, raw_one_writes}
use Rattle.forms.specs.At.{read_at, byte_at, byte_end}
use Rattle.forms.specs.Field.{At, Short, Taken, raw_first, raw_taken, raw_below}
use Rattle.forms.specs.Put.{Put, put_then}
use Rattle.forms.specs.Form.{stop}
use Rattle.forms.specs.declared.stop.Stop.{Stop}

-- ---- reading

-- r is the number that the n bytes from `at` on make
pub record RawAt (s : List ℕ) (at n r : ℕ) : Type 0 where
  pub below : r < 256 ^ n
  pub takes : Taken (raw n) s (At at) r (At (at + n))

-- a byte of the list, and none behind its end
module _ {s : List ℕ} {at : ℕ} where
  byte_here : {b : ℕ} → at < length s → b ≡ get_or s at 0 → b < 256 → Taken byte s (At at) b (At (at + 1))
  byte_here {b} h e w = record { reads = byte_at s at b h e w }

  byte_none : length s ≤ at → Taken byte s (At at) 0 Short
  byte_none h = record { reads = byte_end s at h }

pub raw_at_first : {s : List ℕ} {at b : ℕ} → at < length s → b ≡ get_or s at 0 → b < 256 → RawAt s at 1 b
raw_at_first h e w = record { below = omega arith; takes = raw_first (byte_here h e w) }

pub raw_at_more : {s : List ℕ} {at i v b : ℕ} → RawAt s at i v → 1 ≤ i → at + i < length s → b ≡ get_or s (at + i) 0 → b < 256 → RawAt s at (i + 1) (v * 256 + b)
raw_at_more {s} {at} {i} {v} {b} p o h e w =
    let place : at + i + 1 ≡ at + (i + 1) = omega arith in
    record {
      below = raw_below v b i p.below (omega arith);
      takes = rw (ap At place) at (raw_taken i o p.takes (byte_here h e w));
    }

module _ (s : List ℕ) (bytes : (k : ℕ) → k < length s → get_or s k 0 < 256) (at : ℕ) where
  -- where n bytes are left, they make a number
  run : (n : ℕ) → at + suc n ≤ length s → (v : ℕ) × RawAt s at (suc n) v
  run zero h = (get_or s at 0, raw_at_first (omega arith) refl (bytes at (omega arith)))
  run (suc n) h =
      let (v, p) = run n (omega arith) in
      let last = get_or s (at + suc n) 0 in
      let more = raw_at_more p (omega arith) (omega arith) refl (bytes (at + suc n) (omega arith)) in
      (v * 256 + last, rw add-one at more)

  -- where fewer are left, reading stops too early
  cut : (n : ℕ) → length s < at + suc n → (v : ℕ) × Taken (raw (suc n)) s (At at) v Short
  cut zero h = (0, raw_first (byte_none (omega arith)))
  cut (suc n) h = go (ltb (length s) (at + suc n)) refl (λ k. cut n k)
    where
      go : (t : Bool) → ltb (length s) (at + suc n) ≡ t → (length s < at + suc n → (v : ℕ) × Taken (raw (suc n)) s (At at) v Short)
          → (v : ℕ) × Taken (raw (suc (suc n))) s (At at) v Short
      go true e ih =
          let (v, p) = ih (ltb-true (length s) (at + suc n) e) in
          let none : Taken byte s Short 0 Short = record { reads = refl } in
          (v * 256 + 0, rw add-one at (raw_taken (suc n) (omega arith) p none))
      go false e ih =
          let all = ltb-false (length s) (at + suc n) e in
          let (v, p) = run n all in
          (v * 256 + 0, rw add-one at (raw_taken (suc n) (omega arith) p.takes (byte_none (omega arith))))

  pub raw_short : (n : ℕ) → 1 ≤ n → length s < at + n → stop Stop.Short ≡ read_at (raw n) s at
  raw_short zero o h = absurd (omega arith)
  raw_short (suc n) o h = (cut n h).1.reads

-- ---- writing

-- one more byte behind n of them, also behind none
raw_behind : (n v : ℕ) → v < 256 ^ suc n → (raw (suc n)).write v ≡ (raw n).write (v / 256) ++ (v % 256 ∷ [])
raw_behind zero v h =
    let small : v % 256 ≡ v = omega arith in
    raw_one_writes v ∙ rw (raw_zero, small)
raw_behind (suc n) v h = raw_writes n v

-- the first m of m + n bytes, and the n behind them
pub raw_split : (n m v : ℕ) → 1 ≤ m → (raw (m + n)).write v ≡ (raw m).write (v / 256 ^ n) ++ (raw n).write (v % 256 ^ n)
raw_split zero m v h =
    let all : v / 1 ≡ v = omega arith in
    rw (add-zero m, all, raw_zero) (sym (append-nil ((raw m).write v)))
raw_split (suc n) zero v h = absurd (omega arith)
raw_split (suc n) (suc m) v h =
    let some : 0 < 256 ^ n = one-le-pow n 256 (omega arith) in
    let power : 256 ^ suc n ≡ 256 ^ n * 256 = pow-suc 256 n in
    let other : 256 ^ suc n ≡ 256 * 256 ^ n = omega arith in
    let low : v % 256 ^ suc n ≡ (v / 256 % 256 ^ n) * 256 + v % 256 = rw power (mod-mul v some (omega arith)) in
    let up : v / 256 / 256 ^ n ≡ v / 256 ^ suc n = div-div-eq-div-mul v 256 (256 ^ n) ∙ ap (λ (k : ℕ). v / k) (sym other) in
    let below : v % 256 ^ suc n < 256 ^ suc n = mod-lt v (rw power (omega arith)) in
    let less : suc (m + n) ≡ suc m + n = omega arith in
    let whole : (raw (suc (m + n))).write (v / 256) ≡ (raw (suc m)).write (v / 256 / 256 ^ n) ++ (raw n).write (v / 256 % 256 ^ n) = rw less (raw_split n (suc m) (v / 256) h) in
    let first : v % 256 ^ suc n / 256 ≡ v / 256 % 256 ^ n = omega arith in
    let last : v % 256 ^ suc n % 256 ≡ v % 256 = omega arith in
    let count : suc m + suc n ≡ suc (suc (m + n)) = omega arith in
    rw count
    (raw_writes (m + n) v
    ∙ ap (λ (l : List ℕ). l ++ (v % 256 ∷ [])) (whole)
    ∙ append_assoc ((raw (suc m)).write (v / 256 / 256 ^ n)) ((raw n).write (v / 256 % 256 ^ n)) (v % 256 ∷ [])
    ∙ rw (up, ← first, ← last) (ap (λ (l : List ℕ). (raw (suc m)).write (v / 256 ^ suc n) ++ l) (sym (raw_behind n (v % 256 ^ suc n) below))))

-- two bytes, and twice as many
pub put_raw2 : {l m k : List ℕ} {p q r : Option ℕ} (v : ℕ) → Put l p (v / 256 ∷ []) m q → Put m q (v % 256 ∷ []) k r → Put l p ((raw 2).write v) k r
put_raw2 v a b = rw (raw_writes 0 v, raw_one_writes) (put_then a b)

put_twice : (n : ℕ) → 1 ≤ n → {l m k : List ℕ} {p q r : Option ℕ} (v : ℕ) → Put l p ((raw n).write (v / 256 ^ n)) m q → Put m q ((raw n).write (v % 256 ^ n)) k r
    → Put l p ((raw (n + n)).write v) k r
put_twice n h v a b = rw (raw_split n n v h) (put_then a b)

module _ {l m k : List ℕ} {p q r : Option ℕ} (v : ℕ) where
  pub put_raw4 : Put l p ((raw 2).write (v / 65536)) m q → Put m q ((raw 2).write (v % 65536)) k r → Put l p ((raw 4).write v) k r
  put_raw4 a b = put_twice 2 (omega arith) v a b

  pub put_raw8 : Put l p ((raw 4).write (v / 4294967296)) m q → Put m q ((raw 4).write (v % 4294967296)) k r → Put l p ((raw 8).write v) k r
  put_raw8 a b = put_twice 4 (omega arith) v a b
