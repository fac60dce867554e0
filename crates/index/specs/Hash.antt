-- The hash of a key's bytes: the shard's formula on the key, 19 bits of it, so that a key and its reverse have the same.
use Rattle.std.specs.Prelude.{ℕ, ◌<◌, ◌≡◌, List, []}
use Rattle.std.proofs.Common.{sym, ap, ◌∙◌, append-nil, arith}
use Rattle.key.specs.Key.{reversed_key}
use Rattle.key.specs.Shard.{shard_of, same_shard}
use Rattle.key.specs.KeyForm.{key}
use Rattle.key.specs.KeyOr.{key_or}
use Rattle.key.specs.KeyTheorems.{KeyInRange, key_valid}
use Rattle.key.specs.declared.key.FlowKey.{FlowKey}

-- the key that bytes begin with; where there is none, one of zeros
unfoldable pub key_from : List ℕ → FlowKey
key_from bytes = key_or (key.read bytes)

-- the hash of the key that bytes begin with
unfoldable pub hash_of : List ℕ → ℕ
hash_of bytes = shard_of (key_from bytes) 524288

-- ---- laws

-- from a key's own bytes the key comes back
pub key_from_lem : (k : FlowKey) → KeyInRange k → key_from (key.write k) ≡ k
unfolding key_from
key_from_lem k inside = ap (λ (bytes : List ℕ). key_or (key.read bytes)) (sym (append-nil (key.write k))) ∙ ap key_or (key.there k [] (key_valid k inside))

-- what a division by 524,288 leaves
shard_small : (k : FlowKey) → shard_of k 524288 < 524288
unfolding shard_of
shard_small k = omega arith

-- 19 bits
pub hash_small : (bytes : List ℕ) → hash_of bytes < 524288
unfolding hash_of
hash_small bytes = shard_small (key_from bytes)

-- the hash of a key's bytes is its shard among 524,288
pub hash_of_lem : (k : FlowKey) → KeyInRange k → hash_of (key.write k) ≡ shard_of k 524288
unfolding hash_of
hash_of_lem k inside = ap (λ (l : FlowKey). shard_of l 524288) (key_from_lem k inside)

-- a key and its reverse have the same
pub hash_reversed : (k : FlowKey) → KeyInRange k → KeyInRange (reversed_key k) → hash_of (key.write (reversed_key k)) ≡ hash_of (key.write k)
hash_reversed k inside turned = hash_of_lem (reversed_key k) turned ∙ same_shard k 524288 ∙ sym (hash_of_lem k inside)
