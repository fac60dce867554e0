-- Document 01's sentences on reading, as theorems, once for every form: what was written is read back; Short exactly where the
-- bytes are a proper, non-empty beginning of some form; refused otherwise exactly where they neither begin with a form nor are
-- such a beginning.
use Rattle.std.specs.Prelude.{ℕ, ◌-◌, ◌≤◌, ◌≡◌, refl, List, [], ◌∷◌, ◌++◌, length}
use Rattle.std.proofs.Common.{sym, ap, ◌∙◌, append-nil, arith, length-append}
use Rattle.forms.specs.Form.{Form, Read, got, and_then, short_begins, begins_short}
use Rattle.forms.specs.Number.{number, number_bytes, number_writes, number_ends, number_below, below_number}
use Rattle.forms.specs.At.{placed_front}
use Rattle.forms.specs.Lone.{value, refusal, answered, read_one}
use Rattle.forms.specs.Form.{stop}
use Rattle.forms.specs.declared.stop.Stop.{Stop}

-- s begins with a form: that of a value that has one
pub record Begun {A : Type 0} (f : Form A) (s : List ℕ) : Type 0 where
  pub whole : A
  pub behind : List ℕ
  pub valid : f.valid whole
  pub bytes : s ≡ f.write whole ++ behind

-- s is a proper, non-empty beginning of some form: at least one byte is missing
pub record Beginning {A : Type 0} (f : Form A) (s : List ℕ) : Type 0 where
  pub some : s ≡ [] → ⊥
  pub whole : A
  pub missing : ℕ
  pub behind : List ℕ
  pub valid : f.valid whole
  pub bytes : s ++ missing ∷ behind ≡ f.write whole

-- Of any form of at least one byte; `other` is the refusal of what has no such form, 4 or 8.
module _ {A : Type 0} (other : ℕ) (f : Form A) (ends : f.read [] ≡ stop Stop.Short) where
  -- no form is empty
  pub filled : (a : A) → f.valid a → f.write a ≡ [] → ⊥
  filled a v e =
      let h : f.read [] ≡ got a [] = rw e at (rw append-nil at (f.there a [] v)) in
      let z : ◌≡◌ {A = ℕ} 0 1 = cc ends in omega arith

  -- the answer, by what reading the bytes finds
  by_read : (b : ℕ) (s : List ℕ) (r : Read A (List ℕ)) → f.read (b ∷ s) ≡ r
      → read_one other f (b ∷ s) ≡ answered other (and_then r (λ a rest. got a (length (b ∷ s) - length rest)))
  by_read b s r e = rw (placed_front f.read (b ∷ s), e)

  -- "Every form is read back to what was written", whatever stands behind it
  pub read_back : (a : A) (rest : List ℕ) → f.valid a → read_one other f (f.write a ++ rest) ≡ value a (length (f.write a))
  read_back a rest v = go (f.write a) refl
    where
      go : (w : List ℕ) → f.write a ≡ w → read_one other f (w ++ rest) ≡ value a (length w)
      go [] e = absurd (filled a v e)
      go (b ∷ w) e =
          let n : length ((b ∷ w) ++ rest) - length rest ≡ length (b ∷ w) = omega (arith, length-append (b ∷ w) rest) in
          by_read b (w ++ rest) (got a rest) (rw e at (f.there a rest v)) ∙ ap (λ (k : ℕ). value a k) n

  -- what is read was written so
  pub was_written : (s : List ℕ) (a : A) (n : ℕ) → read_one other f s ≡ value a n → (rest : List ℕ) × f.valid a × (s ≡ f.write a ++ rest) × (n ≡ length (f.write a))
  was_written [] a n e = let z : ◌≡◌ {A = ℕ} 0 1 = cc in absurd (omega arith)
  was_written (b ∷ s) a n e = go (f.read (b ∷ s)) refl
    where
      go : (r : Read A (List ℕ)) → f.read (b ∷ s) ≡ r → (rest : List ℕ) × f.valid a × (b ∷ s ≡ f.write a ++ rest) × (n ≡ length (f.write a))
      go (got x rest) q =
          let is : value x (length (b ∷ s) - length rest) ≡ value a n = sym (by_read b s (got x rest) q) ∙ e in
          let same : x ≡ a = cc in
          let used : length (b ∷ s) - length rest ≡ n = cc in
          let (v, w) = f.back (b ∷ s) x rest q in
          let size = ap length w ∙ length-append (f.write x) rest in
          let count : n ≡ length (f.write x) = omega arith in
          (rest, rw same at v, rw same at w, rw same at count)
      go (stop Stop.Short) q = let is = sym (by_read b s (stop Stop.Short) q) ∙ e in let z : ◌≡◌ {A = ℕ} 0 1 = cc in absurd (omega arith)
      go (stop Stop.Refused) q = let is = sym (by_read b s (stop Stop.Refused) q) ∙ e in let z : ◌≡◌ {A = ℕ} 0 1 = cc in absurd (omega arith)

  -- 9, Short, exactly where the bytes are a proper, non-empty beginning of some form
  module _ (not_IsShort : other ≡ 9 → ⊥) where
    pub short_only : (s : List ℕ) → read_one other f s ≡ refusal 9 → Beginning f s
    short_only [] e = let same : other ≡ 9 = cc in absurd (not_IsShort same)
    short_only (b ∷ s) e = go (f.read (b ∷ s)) refl
      where
        go : (r : Read A (List ℕ)) → f.read (b ∷ s) ≡ r → Beginning f (b ∷ s)
        go (got x rest) q = let is = sym (by_read b s (got x rest) q) ∙ e in let z : ◌≡◌ {A = ℕ} 0 1 = cc in absurd (omega arith)
        go (stop Stop.Short) q =
            let (a, m, t, v, w) = short_begins f (b ∷ s) q in
            record { some = λ n. absurd (omega (arith, ap length n)); whole = a; missing = m; behind = t; valid = v; bytes = w }
        go (stop Stop.Refused) q =
            let is : refusal other ≡ refusal 9 = sym (by_read b s (stop Stop.Refused) q) ∙ e in
            let same : other ≡ 9 = cc in
            absurd (not_IsShort same)

    pub is_short : (s : List ℕ) → Beginning f s → read_one other f s ≡ refusal 9
    is_short [] h = absurd (h.some refl)
    is_short (b ∷ s) h = by_read b s (stop Stop.Short) (begins_short f (b ∷ s) h.whole h.missing h.behind h.valid h.bytes)

    -- `other` exactly where they neither begin with a form nor are such a beginning
    pub other_only : (s : List ℕ) → read_one other f s ≡ refusal other → (Begun f s → ⊥) × (Beginning f s → ⊥)
    other_only s e = (begun, beginning)
      where
        begun : Begun f s → ⊥
        begun h =
            let is : read_one other f s ≡ value h.whole (length (f.write h.whole)) = rw h.bytes (read_back h.whole h.behind h.valid) in
            let z : ◌≡◌ {A = ℕ} 0 1 = cc e in omega arith

        beginning : Beginning f s → ⊥
        beginning h = let is = is_short s h in let same : other ≡ 9 = cc e in not_IsShort same

    pub is_other : (s : List ℕ) → (Begun f s → ⊥) → (Beginning f s → ⊥) → read_one other f s ≡ refusal other
    is_other [] n m = refl
    is_other (b ∷ s) n m = go (f.read (b ∷ s)) refl
      where
        go : (r : Read A (List ℕ)) → f.read (b ∷ s) ≡ r → read_one other f (b ∷ s) ≡ refusal other
        go (got x rest) q =
            let (v, w) = f.back (b ∷ s) x rest q in
            absurd (n (record { whole = x; behind = rest; valid = v; bytes = w }))
        go (stop Stop.Short) q = absurd (m (short_only (b ∷ s) (by_read b s (stop Stop.Short) q)))
        go (stop Stop.Refused) q = by_read b s (stop Stop.Refused) q

-- ---- the lone number

pub number_read_back : (most v : ℕ) (rest : List ℕ) → v ≤ most → read_one 4 (number most) (number_bytes v ++ rest) ≡ value v (length (number_bytes v))
number_read_back most v rest h = rw number_writes at (read_back 4 (number most) (number_ends most) v rest (below_number most v h))

pub number_was_written : (most : ℕ) (s : List ℕ) (v n : ℕ) → read_one 4 (number most) s ≡ value v n
    → (rest : List ℕ) × (v ≤ most) × (s ≡ number_bytes v ++ rest) × (n ≡ length (number_bytes v))
number_was_written most s v n e =
    let (rest, ok, bytes, used) = was_written 4 (number most) (number_ends most) s v n e in
    (rest, number_below most v ok, rw number_writes at bytes, rw number_writes at used)

-- Short, 9, exactly where the bytes are a proper, non-empty beginning of some number's form within the bound
pub number_short_only : (most : ℕ) (s : List ℕ) → read_one 4 (number most) s ≡ refusal 9 → Beginning (number most) s
number_short_only most = short_only 4 (number most) (number_ends most) (λ e. omega arith)

pub number_is_short : (most : ℕ) (s : List ℕ) → Beginning (number most) s → read_one 4 (number most) s ≡ refusal 9
number_is_short most = is_short 4 (number most) (number_ends most) (λ e. omega arith)

-- refused as 4 exactly where they neither begin with a number's form nor are such a beginning
pub number_refused_only : (most : ℕ) (s : List ℕ) → read_one 4 (number most) s ≡ refusal 4 → (Begun (number most) s → ⊥) × (Beginning (number most) s → ⊥)
number_refused_only most = other_only 4 (number most) (number_ends most) (λ e. omega arith)

pub number_is_refused : (most : ℕ) (s : List ℕ) → (Begun (number most) s → ⊥) → (Beginning (number most) s → ⊥) → read_one 4 (number most) s ≡ refusal 4
number_is_refused most = is_other 4 (number most) (number_ends most) (λ e. omega arith)
