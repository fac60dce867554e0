-- Worked examples, computed.
use Rattle.std.specs.Prelude.{◌^◌, ◌-◌, ◌≡◌, refl, [], ◌∷◌}
use Rattle.forms.specs.Form.{got}
use Rattle.forms.specs.Number.{groups, number_bytes, read_groups}
use Rattle.forms.specs.Form.{stop}
use Rattle.forms.specs.declared.stop.Stop.{Stop}

-- 300 is AC 02, and is read back; 80 00 is refused
example_300 : number_bytes 300 ≡ 0xac ∷ 0x02 ∷ []
unfolding number_bytes groups
example_300 = refl

example_top : number_bytes (2 ^ 64 - 1) ≡ 255 ∷ 255 ∷ 255 ∷ 255 ∷ 255 ∷ 255 ∷ 255 ∷ 255 ∷ 255 ∷ 1 ∷ []
unfolding number_bytes groups
example_top = refl

read_300 : read_groups 0 65535 (0xac ∷ 0x02 ∷ 7 ∷ []) ≡ got 300 (7 ∷ [])
unfolding read_groups
read_300 = refl

read_80_00 : read_groups 0 65535 (0x80 ∷ 0x00 ∷ []) ≡ stop Stop.Refused
unfolding read_groups
read_80_00 = refl

-- a cut number is short only if some continuation is within the bound: FF may begin 255, FF 81 begins nothing up to 255, and 80
-- nothing up to 2
read_ff : read_groups 0 255 (0xff ∷ []) ≡ stop Stop.Short
unfolding read_groups
read_ff = refl

read_ff_81 : read_groups 0 255 (0xff ∷ 0x81 ∷ []) ≡ stop Stop.Refused
unfolding read_groups
read_ff_81 = refl

read_80 : read_groups 0 2 (0x80 ∷ []) ≡ stop Stop.Refused
unfolding read_groups
read_80 = refl

-- the largest 64-bit number takes ten bytes, and its tenth group is at most 1
read_top : read_groups 0 (2 ^ 64 - 1) (255 ∷ 255 ∷ 255 ∷ 255 ∷ 255 ∷ 255 ∷ 255 ∷ 255 ∷ 255 ∷ 1 ∷ []) ≡ got (2 ^ 64 - 1) []
unfolding read_groups
read_top = refl

read_past_top : read_groups 0 (2 ^ 64 - 1) (255 ∷ 255 ∷ 255 ∷ 255 ∷ 255 ∷ 255 ∷ 255 ∷ 255 ∷ 255 ∷ 2 ∷ []) ≡ stop Stop.Refused
unfolding read_groups
read_past_top = refl
