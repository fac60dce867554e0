-- The test of a header is exact. Assumes nothing.
use Rattle.std.specs.Prelude.{ℕ, ◌+◌, ◌-◌, ◌*◌, ◌/◌, ◌%◌, ◌^◌, ◌≤◌, ◌<◌, ◌≡◌, refl, ◌⊎◌, Bool, true, false, cond, ◌&&◌, ◌||◌, eqb, leb, ltb}
use Rattle.std.proofs.Common.{sym, ap, ◌∙◌, ⊎_elim, inl, inr, arith, eq-eqb, ne_eqb, le-leb, lt-ltb, le-ltb, eqb-true, leb-true, ltb-true, ltb-false}
use Rattle.std.proofs.lemmas.Bool.{false≢true, eqb-false}
use Rattle.memory.proofs.Laws.{same_or, less_or}
use Rattle.table.specs.declared.Header.{Header}
use Rattle.flow.specs.Idle.{lateness_of}
use Rattle.state.specs.State.{GivenBy, SoundHeader}

-- T is a whole number of milliseconds or held at the top, and L follows from it
abbrev pub times_given : ℕ → ℕ → Bool
times_given T L = (eqb (T % 1000000) 0 || eqb T (2 ^ 64 - 1)) && eqb L (lateness_of T)

abbrev pub rest_sound : Header → ℕ → Bool
rest_sound h bytes =
    eqb h.layout 1 && leb (256 + 640 * h.capacity) bytes && times_given h.timeout.0 h.lateness.0 && leb h.resolution 1
    && (ltb 0 h.timeout.0 || eqb h.clock.0 0)

unfoldable pub sound_header : Header → ℕ → Bool
sound_header h bytes = cond (eqb h.capacity 0 || ltb 4096 h.capacity) false (rest_sound h bytes)

-- ## Tests and facts

pub both_true : (a b : Bool) → (a && b) ≡ true → (a ≡ true) × (b ≡ true)
both_true true b e = (refl, e)
both_true false b e = absurd (false≢true e)

pub true_both : (a b : Bool) → a ≡ true → b ≡ true → (a && b) ≡ true
true_both true b p q = q
true_both false b p q = absurd (false≢true p)

one_true : (a b : Bool) → (a || b) ≡ true → (a ≡ true) ⊎ (b ≡ true)
one_true true b e = inl refl
one_true false b e = inr e

true_left : (a b : Bool) → a ≡ true → (a || b) ≡ true
true_left true b e = refl
true_left false b e = absurd (false≢true e)

true_right : (a b : Bool) → b ≡ true → (a || b) ≡ true
true_right true b e = refl
true_right false b e = e

neither : (a b : Bool) → a ≡ false → b ≡ false → (a || b) ≡ false
neither true b p q = p
neither false b p q = q

-- ## T that opening can give

given_yes : (T : ℕ) → T < 2 ^ 64 → (eqb (T % 1000000) 0 || eqb T (2 ^ 64 - 1)) ≡ true → GivenBy T
given_yes T small e = ⊎_elim
    (λ (w : eqb (T % 1000000) 0 ≡ true).
    let z : T % 1000000 ≡ 0 = eqb-true (T % 1000000) 0 w in
    record { timeout = record { 0 = T / 1000000 }; small = omega arith; gives = omega arith })
    (λ (w : eqb T (2 ^ 64 - 1) ≡ true).
    let z : T ≡ 2 ^ 64 - 1 = eqb-true T (2 ^ 64 - 1) w in
    record { timeout = record { 0 = 18446744073710 }; small = omega arith; gives = omega arith })
    (one_true (eqb (T % 1000000) 0) (eqb T (2 ^ 64 - 1)) e)

given_no : (T : ℕ) → GivenBy T → (eqb (T % 1000000) 0 || eqb T (2 ^ 64 - 1)) ≡ true
given_no T g = ⊎_elim
    (λ (l : g.timeout.0 * 1000000 < 2 ^ 64).
    let z : T % 1000000 ≡ 0 = omega (arith, g.gives) in
    true_left (eqb (T % 1000000) 0) (eqb T (2 ^ 64 - 1)) (eq-eqb (T % 1000000) 0 z))
    (λ m.
    let z : T ≡ 2 ^ 64 - 1 = omega (arith, g.gives) in
    true_right (eqb (T % 1000000) 0) (eqb T (2 ^ 64 - 1)) (eq-eqb T (2 ^ 64 - 1) z))
    (less_or (g.timeout.0 * 1000000) (2 ^ 64))

-- ## The whole header

rest_yes : (h : Header) (bytes : ℕ) → h.timeout.0 < 2 ^ 64 → 1 ≤ h.capacity → h.capacity ≤ 4096 → rest_sound h bytes ≡ true → SoundHeader h bytes
rest_yes h bytes small some most e =
    let T = h.timeout.0 in
    let L = h.lateness.0 in
    let a = eqb h.layout 1 in
    let b = leb (256 + 640 * h.capacity) bytes in
    let c = times_given T L in
    let d = leb h.resolution 1 in
    let f = ltb 0 T || eqb h.clock.0 0 in
    let p4 = both_true (a && b && c && d) f e in
    let p3 = both_true (a && b && c) d p4.0 in
    let p2 = both_true (a && b) c p3.0 in
    let p1 = both_true a b p2.0 in
    let q = both_true (eqb (T % 1000000) 0 || eqb T (2 ^ 64 - 1)) (eqb L (lateness_of T)) p2.1 in
    record {
      layout = eqb-true h.layout 1 p1.0;
      some = some;
      most = most;
      long = leb-true (256 + 640 * h.capacity) bytes p1.1;
      timeout = given_yes T small q.0;
      lateness = eqb-true L (lateness_of T) q.1;
      resolution = leb-true h.resolution 1 p3.1;
      still = λ z. ⊎_elim
          (λ (w : ltb 0 T ≡ true). absurd (omega (arith, ltb-true 0 T w)))
          (λ (w : eqb h.clock.0 0 ≡ true). eqb-true h.clock.0 0 w) (one_true (ltb 0 T) (eqb h.clock.0 0) p4.1);
    }

rest_no : (h : Header) (bytes : ℕ) → SoundHeader h bytes → rest_sound h bytes ≡ true
rest_no h bytes k =
    let T = h.timeout.0 in
    let L = h.lateness.0 in
    let a = eqb h.layout 1 in
    let b = leb (256 + 640 * h.capacity) bytes in
    let c = times_given T L in
    let d = leb h.resolution 1 in
    let f = ltb 0 T || eqb h.clock.0 0 in
    true_both (a && b && c && d) f
    (true_both (a && b && c) d
    (true_both (a && b) c (true_both a b (eq-eqb h.layout 1 k.layout) (le-leb (256 + 640 * h.capacity) bytes k.long))
    (true_both (eqb (T % 1000000) 0 || eqb T (2 ^ 64 - 1)) (eqb L (lateness_of T)) (given_no T k.timeout) (eq-eqb L (lateness_of T) k.lateness)))
    (le-leb h.resolution 1 k.resolution))
    (⊎_elim
    (λ (z : T ≡ 0). true_right (ltb 0 T) (eqb h.clock.0 0) (eq-eqb h.clock.0 0 (k.still z)))
    (λ n. true_left (ltb 0 T) (eqb h.clock.0 0) (lt-ltb 0 T (omega arith))) (same_or T 0))

pub header_yes : (h : Header) (bytes : ℕ) → h.timeout.0 < 2 ^ 64 → sound_header h bytes ≡ true → SoundHeader h bytes
unfolding sound_header
header_yes h bytes small e = go (eqb h.capacity 0 || ltb 4096 h.capacity) refl e
  where
    go : (t : Bool) → (eqb h.capacity 0 || ltb 4096 h.capacity) ≡ t → cond t false (rest_sound h bytes) ≡ true → SoundHeader h bytes
    go true q w = absurd (false≢true w)
    go false q w = rest_yes h bytes small (some (eqb h.capacity 0) (ltb 4096 h.capacity) refl refl q).0 (some (eqb h.capacity 0) (ltb 4096 h.capacity) refl refl q).1 w
      where
        some : (a b : Bool) → eqb h.capacity 0 ≡ a → ltb 4096 h.capacity ≡ b → (a || b) ≡ false → (1 ≤ h.capacity) × (h.capacity ≤ 4096)
        some true b p r z = absurd (false≢true (sym z))
        some false true p r z = absurd (false≢true (sym z))
        some false false p r z =
            let n = eqb-false h.capacity 0 p in
            let m = ltb-false 4096 h.capacity r in
            (omega arith, omega arith)

pub header_no : (h : Header) (bytes : ℕ) → SoundHeader h bytes → sound_header h bytes ≡ true
unfolding sound_header
header_no h bytes k =
    ap (λ (t : Bool). cond t false (rest_sound h bytes))
    (neither (eqb h.capacity 0) (ltb 4096 h.capacity) (ne_eqb h.capacity 0 (λ z. omega (arith, k.some))) (le-ltb 4096 h.capacity k.most))
    ∙ rest_no h bytes k

-- ## The ways out of the test

pub times_told : (T L l : ℕ) → l ≡ lateness_of T → ((eqb (T % 1000000) 0 || eqb T (2 ^ 64 - 1)) && eqb L l) ≡ times_given T L
times_told T L l e = ap (λ (x : ℕ). (eqb (T % 1000000) 0 || eqb T (2 ^ 64 - 1)) && eqb L x) e

pub capacity_small : (n : ℕ) → (eqb n 0 || ltb 4096 n) ≡ false → n ≤ 4096
capacity_small n e = ⊎_elim
    (λ (l : n < 4097). omega arith)
    (λ m. absurd (false≢true (sym e ∙ true_right (eqb n 0) (ltb 4096 n) (lt-ltb 4096 n (omega arith))))) (less_or n 4097)

pub capacity_refused : (h : Header) (bytes : ℕ) → (eqb h.capacity 0 || ltb 4096 h.capacity) ≡ true → false ≡ sound_header h bytes
unfolding sound_header
capacity_refused h bytes e = sym (ap (λ (t : Bool). cond t false (rest_sound h bytes)) e)

pub rest_told : (h : Header) (bytes : ℕ) (t : Bool) → t ≡ times_given h.timeout.0 h.lateness.0 → (eqb h.capacity 0 || ltb 4096 h.capacity) ≡ false
    → (eqb h.layout 1 && leb (256 + 640 * h.capacity) bytes && t && leb h.resolution 1 && (ltb 0 h.timeout.0 || eqb h.clock.0 0)) ≡ sound_header h bytes
unfolding sound_header
rest_told h bytes t e q =
    ap (λ (x : Bool). eqb h.layout 1 && leb (256 + 640 * h.capacity) bytes && x && leb h.resolution 1 && (ltb 0 h.timeout.0 || eqb h.clock.0 0)) e
    ∙ sym (ap (λ (x : Bool). cond x false (rest_sound h bytes)) q)
