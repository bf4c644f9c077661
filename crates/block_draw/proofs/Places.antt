-- Slots and their places.
use Rattle.std.proofs.Common.{◌≡◌, ℕ, ◌<◌, arith}
use Rattle.block_draw.specs.Positions.{slot_x, slot_y}

-- what a slot's column and row leave of it
pub one_place : (s t : ℕ) → s < 128 → t < 128 → slot_x s ≡ slot_x t → slot_y s ≡ slot_y t → s ≡ t
unfolding slot_x slot_y
one_place s t few few' x y = omega (arith, few, few', x, y)
