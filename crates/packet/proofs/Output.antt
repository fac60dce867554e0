-- Bytes behind bytes at the front of the output. Assumes nothing.
use Prim.Native.Nat.{ℕ, ◌+◌, ◌-◌, ◌≤◌}
use mathlib.Core.Path.{◌≡◌, ap, ◌∙◌}
use mathlib.Core.List.{List, [], ◌++◌, append-nil}
use native.Mathlib.Omega.{arith}
use lib.ListN.{length, take, drop, length-append, length-drop, drop_of_length-le}
use lib.Seq.{take_all}
use borrow.Rule.Slice.PartMut.{put_mid}
use Rattle.memory.specs.Bytes.{patch}
use Rattle.memory.proofs.Laws.{patch_join}
use Rattle.act.specs.Settle.{Filled}

-- `&mut out[used..]`
lent_rest : (out : List ℕ) (used : ℕ) → take (length out - used) (drop used out) ≡ drop used out
lent_rest out used = take_all (length out - used) (drop used out) (omega (arith, length-drop used out))

-- it came back with bytes at its front
rest_back : (out t : List ℕ) (used : ℕ) (bs : List ℕ) → t ≡ patch (take (length out - used) (drop used out)) 0 bs
    → put_mid used (length out - used) out t ≡ patch out used bs
unfolding patch
rest_back out t used bs e =
    let short : length (drop used out) ≤ length out - used = omega (arith, length-drop used out) in
    let none : drop (length out - used) (drop used out) ≡ [] = drop_of_length-le (drop used out) short in
    ap (λ (y : List ℕ). take used out ++ (t ++ y)) none
    ∙ ap (λ (y : List ℕ). take used out ++ y) (append-nil t ∙ e ∙ ap (λ (y : List ℕ). bs ++ drop (length bs) y) (lent_rest out used))

-- so both stand at the front, one behind the other
pub filled_both : (room xs out : List ℕ) (a : ℕ) (ys t : List ℕ) (b : ℕ) → Filled xs room out a → Filled ys (take (length out - a) (drop a out)) t b
    → length xs + length ys ≤ length room → Filled (xs ++ ys) room (put_mid a (length out - a) out t) (a + b)
filled_both room xs out a ys t b p q fits =
    let at : a ≡ 0 + length xs = omega (arith, p.bytes) in
    record {
      output =
          rest_back out t a ys q.output ∙ ap (λ (o : List ℕ). patch o a ys) p.output
          ∙ ap (λ (k : ℕ). patch (patch room 0 xs) k ys) at ∙ patch_join room 0 xs ys (omega arith);
      bytes = omega (arith, p.bytes, q.bytes, length-append xs ys);
    }
