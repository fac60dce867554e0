-- A key given as bytes, and what is asked of it. Assumes nothing.
use Rattle.std.specs.Prelude.{ℕ, ◌-◌, ◌^◌, true, List, None, Option, Some}
use Rattle.forms.specs.Lone.{Written, unwritten, write_one}
use Rattle.key.specs.KeyForm.{key}
use Rattle.key.specs.declared.key.FlowKey.{FlowKey}

-- what is asked of a key; 2^64 − 1 where there is none
abbrev pub of_key : Option FlowKey → (FlowKey → ℕ) → ℕ
of_key (Some k) ask = ask k
of_key None ask = 2 ^ 64 - 1

-- the IP version; 0 for none
abbrev pub version_number : Option ℕ → ℕ
version_number None = 0
version_number (Some v) = v

-- the form of the key that is made of the one given; Packet, 4, where there is none
abbrev pub key_written : Option FlowKey → (FlowKey → FlowKey) → List ℕ → Written × List ℕ
key_written (Some k) make out = write_one 4 true (key.write (make k)) out
key_written None make out = (unwritten 4, out)
