-- What is said of drawings beside what they are.
use Rattle.std.specs.Prelude.{◌≡◌, ℕ, ◌<◌}
use Rattle.block_draw.specs.Positions.{slot_x, slot_y}

-- no two slots have one place
abbrev pub SlotsStandApart : Type 0
SlotsStandApart = (s t : ℕ) → s < 128 → t < 128 → slot_x s ≡ slot_x t → slot_y s ≡ slot_y t → s ≡ t
