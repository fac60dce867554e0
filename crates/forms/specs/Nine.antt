-- A number of nine groups, read at once: the eight before the last have more behind them, and the last is not 0.
use Rattle.std.specs.Prelude.{ℕ, ◌+◌, ◌-◌, ◌*◌, ◌/◌, ◌≤◌, ◌<◌, ◌≡◌, refl, Bool, true, false, ◌&&◌, List, ltb, leb, length, get_or}
use Rattle.std.proofs.Common.{sym, ◌∙◌, arith, le-leb, ltb-true, leb-true}
use Rattle.std.proofs.lemmas.Bool.{lt-leb}
use Rattle.forms.specs.Form.{got}
use Rattle.forms.specs.Number.{number, number_reads}
use Rattle.forms.specs.At.{read_at}
use Rattle.forms.specs.Loop.{Reading, reading_start, reading_next, reading_last}

-- the four bytes from `at` on are groups that more follow
unfoldable pub four_more : List ℕ → ℕ → Bool
four_more s at = leb 128 (get_or s at 0) && leb 128 (get_or s (at + 1) 0) && leb 128 (get_or s (at + 2) 0) && leb 128 (get_or s (at + 3) 0)

-- the nine bytes from `at` on are a number of nine groups
unfoldable pub is_nine : List ℕ → ℕ → Bool
is_nine s at = leb (at + 9) (length s) && (four_more s at && four_more s (at + 4) && ltb 0 (get_or s (at + 8) 0) && ltb (get_or s (at + 8) 0) 128)

-- the same of their values
pub record FourMore (s : List ℕ) (at : ℕ) : Type 0 where
  pub first : 128 ≤ get_or s at 0
  pub second : 128 ≤ get_or s (at + 1) 0
  pub third : 128 ≤ get_or s (at + 2) 0
  pub fourth : 128 ≤ get_or s (at + 3) 0

-- what four groups count, read from bytes
pub record FourRead (s : List ℕ) (at value : ℕ) : Type 0 where
  pub counts : value ≡ (get_or s at 0 - 128) + 128 * (get_or s (at + 1) 0 - 128) + 16384 * (get_or s (at + 2) 0 - 128) + 2097152 * (get_or s (at + 3) 0 - 128)
  pub first : get_or s at 0 < 256
  pub second : get_or s (at + 1) 0 < 256
  pub third : get_or s (at + 2) 0 < 256
  pub fourth : get_or s (at + 3) 0 < 256
  pub small : value < 268435456

both : (p q : Bool) → p && q ≡ true → (p ≡ true) × (q ≡ true)
both true q h = (refl, h)
both false q h = let z : ◌≡◌ {A = ℕ} 0 1 = cc in absurd (omega arith)

-- the nine bytes from `at` on are a number of nine groups, of their values
pub record Nine (s : List ℕ) (at : ℕ) : Type 0 where
  pub inside : at + 9 ≤ length s
  pub low : FourMore s at
  pub high : FourMore s (at + 4)
  pub least : 0 < get_or s (at + 8) 0
  pub last : get_or s (at + 8) 0 < 128

-- the value is the number there
pub record NineRead (s : List ℕ) (at value : ℕ) : Type 0 where
  pub inside : at + 9 ≤ length s
  pub reads : got value (at + 9) ≡ read_at (number 18446744073709551615) s at

four_more_lem : (s : List ℕ) (at : ℕ) → four_more s at ≡ true → FourMore s at
unfolding four_more
four_more_lem s at e =
    let a = leb 128 (get_or s at 0) in
    let b = leb 128 (get_or s (at + 1) 0) in
    let c = leb 128 (get_or s (at + 2) 0) in
    let d = leb 128 (get_or s (at + 3) 0) in
    let (abc, fourth) = both (a && b && c) d e in
    let (ab, third) = both (a && b) c abc in
    let (first, second) = both a b ab in
    record {
      first = leb-true 128 (get_or s at 0) first;
      second = leb-true 128 (get_or s (at + 1) 0) second;
      third = leb-true 128 (get_or s (at + 2) 0) third;
      fourth = leb-true 128 (get_or s (at + 3) 0) fourth;
    }

pub is_nine_lem : (s : List ℕ) (at : ℕ) (r : Bool) → r ≡ is_nine s at → r ≡ true → Nine s at
unfolding is_nine
is_nine_lem s at r is e =
    let a = four_more s at in
    let b = four_more s (at + 4) in
    let c = ltb 0 (get_or s (at + 8) 0) in
    let d = ltb (get_or s (at + 8) 0) 128 in
    let (room, abcd) = both (leb (at + 9) (length s)) (a && b && c && d) (sym is ∙ e) in
    let (abc, last) = both (a && b && c) d abcd in
    let (ab, least) = both (a && b) c abc in
    let (low, high) = both a b ab in
    record {
      inside = leb-true (at + 9) (length s) room;
      low = four_more_lem s at low;
      high = four_more_lem s (at + 4) high;
      least = ltb-true 0 (get_or s (at + 8) 0) least;
      last = ltb-true (get_or s (at + 8) 0) 128 last;
    }

module _ (s : List ℕ) (at : ℕ) where
  pub four_tested : {t : Bool} → t ≡ (leb 128 (get_or s at 0) && leb 128 (get_or s (at + 1) 0) && leb 128 (get_or s (at + 2) 0) && leb 128 (get_or s (at + 3) 0)) → t ≡ four_more s at
  unfolding four_more
  four_tested e = e

  pub nine_short : length s < at + 9 → false ≡ is_nine s at
  unfolding is_nine
  nine_short h = rw (lt-leb (at + 9) (length s) h)

  pub nine_tested : {t : Bool} → at + 9 ≤ length s
      → t ≡ (four_more s at && four_more s (at + 4) && ltb 0 (get_or s (at + 8) 0) && ltb (get_or s (at + 8) 0) 128) → t ≡ is_nine s at
  unfolding is_nine
  nine_tested h e = rw (le-leb (at + 9) (length s) h) e

pub four_read : (s : List ℕ) (at a b c d : ℕ) → FourMore s at → a ≡ get_or s at 0 → b ≡ get_or s (at + 1) 0 → c ≡ get_or s (at + 2) 0 → d ≡ get_or s (at + 3) 0
    → a < 256 → b < 256 → c < 256 → d < 256 → FourRead s at (a - 128 + 128 * (b - 128) + 16384 * (c - 128) + 2097152 * (d - 128))
four_read s at a b c d more p q r t u v w x =
    record { counts = rw (p, q, r, t); first = rw (← p) u; second = rw (← q) v; third = rw (← r) w; fourth = rw (← t) x; small = omega arith }

-- groups are read up to i, and what is still to come has room for any number below `room`
record Grouped (s : List ℕ) (at i scale value room : ℕ) : Type 0 where
  least : ℕ
  most : ℕ
  reading : Reading s at 18446744073709551615 i least most scale value
  low : least ≤ 1
  wide : room ≤ most + 1

grouped_start : (s : List ℕ) (at : ℕ) → Grouped s at at 1 0 18446744073709551616
grouped_start s at = record { least = 0; most = 18446744073709551615; reading = reading_start s at 18446744073709551615; low = omega arith; wide = omega arith }

after_group : (b room most : ℕ) → b < 256 → 2 ≤ room → 128 * room ≤ most + 1 → (b ≤ most) × (room ≤ (most - b) / 128 + 1 + 1)
after_group b room most small two wide = (omega arith, omega arith)

module _ {s : List ℕ} {at : ℕ} where
  -- one group more
  group_more : {i scale value big : ℕ} (j room : ℕ) → j ≡ i + 1 → Grouped s at i scale value big → 2 ≤ room → 128 * room ≤ big → i < length s → 128 ≤ get_or s i 0
      → get_or s i 0 < 256 → Grouped s at j (scale * 128) (value + scale * (get_or s i 0 - 128)) room
  group_more {i} {scale} {value} {big} j room e g two less inside large small =
      let (fits, left) = after_group (get_or s i 0) room g.most small two (omega (arith, g.wide)) in
      let above : g.least ≤ get_or s i 0 = omega (arith, g.low) in
      record {
        least = 1;
        most = (g.most - get_or s i 0) / 128 + 1;
        reading = rw e (reading_next g.reading (get_or s i 0) inside refl small above fits large);
        low = omega arith;
        wide = left;
      }

  -- and four
  module _ (i scale value big v room : ℕ) (g : Grouped s at i scale value big) (two : 2 ≤ room) (less : 268435456 * room ≤ big) (inside : i + 4 ≤ length s) (more : FourMore s i) (read : FourRead s i v) where
    four_groups : Grouped s at (i + 4) (scale * 128 * 128 * 128 * 128)
        (value + scale * (get_or s i 0 - 128) + scale * 128 * (get_or s (i + 1) 0 - 128) + scale * 128 * 128 * (get_or s (i + 2) 0 - 128)
        + scale * 128 * 128 * 128 * (get_or s (i + 3) 0 - 128))
        room
    four_groups =
        let g₁ = group_more (i + 1) (2097152 * room) refl g (omega arith) (omega arith) (omega arith) more.first read.first in
        let g₂ = group_more (i + 2) (16384 * room) (omega arith) g₁ (omega arith) (omega arith) (omega arith) more.second read.second in
        let g₃ = group_more (i + 3) (128 * room) (omega arith) g₂ (omega arith) (omega arith) (omega arith) more.third read.third in
        group_more (i + 4) room (omega arith) g₃ two (omega arith) (omega arith) more.fourth read.fourth

-- what eight groups and a ninth count, group by group and by fours
by_fours : (a b c d e f g h last low high : ℕ) → low ≡ a + 128 * b + 16384 * c + 2097152 * d → high ≡ e + 128 * f + 16384 * g + 2097152 * h
    → low + 268435456 * (high + 268435456 * last)
    ≡ 0 + 1 * a + 1 * 128 * b + 1 * 128 * 128 * c + 1 * 128 * 128 * 128 * d + 1 * 128 * 128 * 128 * 128 * e + 1 * 128 * 128 * 128 * 128 * 128 * f
    + 1 * 128 * 128 * 128 * 128 * 128 * 128 * g
    + 1 * 128 * 128 * 128 * 128 * 128 * 128 * 128 * h
    + 1 * 128 * 128 * 128 * 128 * 128 * 128 * 128 * 128 * last
by_fours a b c d e f g h last low high p q = omega arith

-- what the nine groups count is the number there
module _ (s : List ℕ) (at low high last : ℕ) (n : Nine s at) (lower : FourRead s at low) (higher : FourRead s (at + 4) high) (is : last ≡ get_or s (at + 8) 0) where
  pub nine_read : NineRead s at (low + 268435456 * (high + 268435456 * last))
  nine_read =
      let g₄ = four_groups at 1 0 18446744073709551616 low 68719476736 (grouped_start s at) (omega arith) (omega arith) (omega (arith, n.inside)) n.low lower in
      let g₈ = four_groups (at + 4) (1 * 128 * 128 * 128 * 128) _ 68719476736 high 256 g₄ (omega arith) (omega arith) (omega (arith, n.inside)) n.high higher in
      let eight : at + 4 + 4 ≡ at + 8 = omega arith in
      let here : last ≡ get_or s (at + 4 + 4) 0 = rw eight is in
      let small : last < 128 = rw is n.last in
      let least : g₈.least ≤ last = omega (arith, g₈.low, n.least, is) in
      let read = reading_last g₈.reading last (omega (arith, n.inside)) here (omega arith) least (omega (arith, g₈.wide)) small in
      let place : at + 4 + 4 + 1 ≡ at + 9 = omega arith in
      let same = by_fours _ _ _ _ _ _ _ _ last low high lower.counts higher.counts in
      record { inside = n.inside; reads = rw number_reads (rw (← place, same) read) }
