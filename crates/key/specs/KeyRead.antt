-- Where the parts of a key stand, one behind the other.
use Prim.Native.Nat.{ℕ}
use Rattle.std.specs.Prelude.{◌≡◌, List, [], ◌∷◌, None, Option}
use Rattle.std.proofs.Math.Path.{refl}
use Rattle.forms.specs.Form.{byte, raw}
use Rattle.forms.specs.Number.{number}
use Rattle.forms.specs.Optional.{optional16}
use Rattle.forms.specs.Field.{Next, Taken, pair_taken, over_taken, only_taken, follow_taken, choice_taken}
use Rattle.key.specs.KeyForm.{endpoints_tag, no_endpoints, ports, association, gre, endpoints, address_tag, v4, v6, address, mac, vlan_count, untagged, single, double, vlan, encapsulation, key}
use Rattle.key.specs.declared.key.Address.{Address}
use Rattle.key.specs.declared.key.Address.TheVariants.{V4}
use Rattle.key.specs.declared.key.Endpoints.{Endpoints}
use Rattle.key.specs.declared.key.Endpoints.TheVariants.{Ports, None}
use Rattle.key.specs.declared.link.MacAddress.{MacAddress}
use Rattle.key.specs.declared.vlan.VlanTags.{VlanTags}
use Rattle.key.specs.declared.vlan.VlanTags.TheVariants.{Untagged}
use Rattle.key.specs.declared.encapsulation.Encapsulation.{Encapsulation}

-- what stands behind each tag
module _ {s : List ℕ} {n₀ n₁ : Next} {a : ℕ} where
  pub v4_made : Taken (raw 4) s n₀ a n₁ → Taken v4.form s n₀ (V4 a) n₁
  v4_made p = over_taken V4 _ _ _ p

  module _ {n₂ : Next} {b : ℕ} where
    pub ports_made : Taken (number 65535) s n₀ a n₁ → Taken (number 65535) s n₁ b n₂ → Taken ports.form s n₀ (Ports a b) n₂
    ports_made p q = over_taken _ _ _ _ (pair_taken p q)

    pub mac_made : Taken (raw 2) s n₀ a n₁ → Taken (raw 4) s n₁ b n₂ → Taken mac s n₀ (record { high = a; low = b }) n₂
    unfolding mac
    mac_made p q = over_taken _ _ _ _ (pair_taken p q)

-- by the tag
module _ {s : List ℕ} {n₀ n₁ : Next} {t : ℕ} (tag : Taken byte s n₀ t n₁) where
  module _ {e : Endpoints} {n₂ : Next} where
    pub ports_taken : t ≡ 1 → Taken ports.form s n₁ e n₂ → Taken endpoints s n₀ e n₂
    unfolding endpoints
    ports_taken h q = choice_taken endpoints_tag no_endpoints (ports ∷ association ∷ gre ∷ []) tag 1 refl h q

  module _ {a : Address} {n₂ : Next} where
    pub v4_taken : t ≡ 4 → Taken v4.form s n₁ a n₂ → Taken address s n₀ a n₂
    unfolding address
    v4_taken h q = choice_taken address_tag v4 (v6 ∷ []) tag 4 refl h q

  pub untagged_taken : t ≡ 0 → Taken vlan s n₀ Untagged n₁
  unfolding vlan
  untagged_taken e = choice_taken vlan_count untagged (single ∷ double ∷ []) tag 0 refl e (only_taken Untagged tag)

-- by the kind
module _ {s : List ℕ} {n₀ n₁ : Next} {k : ℕ} (kind : Taken (number 256) s n₀ k n₁) where
  pub no_tunnel_taken : k ≡ 0 → Taken encapsulation s n₀ None n₁
  unfolding encapsulation
  no_tunnel_taken e = follow_taken _ _ _ _ (rw e at kind) (only_taken None kind)

-- the key, part by part
pub key_made : {s : List ℕ} {n₀ n₁ n₂ n₃ n₄ n₅ n₆ n₇ n₈ n₉ : Next} {p : ℕ} {t : Option ℕ} {e : Endpoints} {a b : Address} {m n : MacAddress} {g : VlanTags} {c : Option Encapsulation}
    → Taken (number 255) s n₀ p n₁ → Taken (optional16 65535) s n₁ t n₂ → Taken endpoints s n₂ e n₃ → Taken address s n₃ a n₄ → Taken address s n₄ b n₅
    → Taken mac s n₅ m n₆ → Taken mac s n₆ n n₇ → Taken vlan s n₇ g n₈ → Taken encapsulation s n₈ c n₉
    → Taken key s n₀ (record { source = a; destination = b; endpoints = e; protocol = p; ethertype = t; source_mac = m; destination_mac = n; vlan = g; encapsulation = c }) n₉
unfolding key
key_made r₁ r₂ r₃ r₄ r₅ r₆ r₇ r₈ r₉ =
    over_taken _ _ _ _ (pair_taken r₁ (pair_taken r₂ (pair_taken r₃ (pair_taken r₄ (pair_taken r₅ (pair_taken r₆ (pair_taken r₇ (pair_taken r₈ r₉))))))))
