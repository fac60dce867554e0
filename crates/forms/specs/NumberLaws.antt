-- The forms of the numbers of a width, as those of any numbers.
use Rattle.std.specs.Prelude.{ℕ, suc, ◌+◌, ◌≡◌, refl, List, Option, None, Some}
use Rattle.std.proofs.Common.{ap, ◌∙◌}
use Rattle.std.proofs.Math.Numerals.{add-one}
use Rattle.forms.specs.Form.{Read, got, and_then, over_reads, stop}
use Rattle.forms.specs.Number.{number, number_bytes}
use Rattle.forms.specs.Optional.{to_opt, opt_undo, number8, number16, number32, optional8, optional16, optional32, optional8_writes, optional16_writes, optional32_writes}
use Rattle.forms.specs.Numbers.{optional_of}

itself : (r : Read ℕ (List ℕ)) → r ≡ and_then r (λ n rest. got n rest)
itself (got n rest) = refl
itself (stop why) = refl

-- a number is itself
pub number_itself : (most : ℕ) (s : List ℕ) → (number most).read s ≡ and_then ((number most).read s) (λ n rest. got n rest)
number_itself most s = itself ((number most).read s)

pub optional8_is : (s : List ℕ) → optional8.read s ≡ and_then ((number 256).read s) (λ n rest. got (to_opt None (λ k. Some k) n) rest)
unfolding optional8
optional8_is s = over_reads (to_opt None Some) number8 (number 256) (opt_undo None Some number8 refl add-one 256) s

pub optional16_is : (most : ℕ) (s : List ℕ) → (optional16 most).read s ≡ and_then ((number (most + 1)).read s) (λ n rest. got (to_opt None (λ k. Some k) n) rest)
unfolding optional16
optional16_is most s = rw add-one (over_reads (to_opt None Some) number16 (number (suc most)) (opt_undo None Some number16 refl add-one (suc most)) s)

pub optional32_is : (s : List ℕ) → optional32.read s ≡ and_then ((number 4294967296).read s) (λ n rest. got (to_opt None (λ k. Some k) n) rest)
unfolding optional32
optional32_is s = over_reads (to_opt None Some) number32 (number 4294967296) (opt_undo None Some number32 refl add-one 4294967296) s

pub same8 : (o : Option ℕ) → number8 o ≡ optional_of (λ n. n) o
same8 None = refl
same8 (Some v) = refl

pub optional8_bytes : (o : Option ℕ) → optional8.write o ≡ number_bytes (optional_of (λ n. n) o)
optional8_bytes o = optional8_writes o ∙ ap number_bytes (same8 o)

pub same16 : (o : Option ℕ) → number16 o ≡ optional_of (λ n. n) o
same16 None = refl
same16 (Some v) = refl

pub optional16_bytes : (most : ℕ) (o : Option ℕ) → (optional16 most).write o ≡ number_bytes (optional_of (λ n. n) o)
optional16_bytes most o = optional16_writes most o ∙ ap number_bytes (same16 o)

pub same32 : (o : Option ℕ) → number32 o ≡ optional_of (λ n. n) o
same32 None = refl
same32 (Some v) = refl

pub optional32_bytes : (o : Option ℕ) → optional32.write o ≡ number_bytes (optional_of (λ n. n) o)
optional32_bytes o = optional32_writes o ∙ ap number_bytes (same32 o)
