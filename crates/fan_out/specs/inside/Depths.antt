-- How many movs stand between a result and its consumers.
use Rattle.std.specs.Prelude.{◌≡◌, ℕ, zero, suc, ◌+◌, ◌*◌, ◌^◌, ◌<◌, List, length, slice_get}
use Rattle.std.specs.Prelude.{Bool, Option, Some, ◌⊎◌}
use Rattle.trips_isa.specs.declared.form.Form.{Form}
use Rattle.trips_isa.specs.declared.form.Form.TheVariants.{Store, Branch}
use Rattle.trips_isa.specs.declared.block.Spot.{Spot}
use Rattle.trips_isa.specs.declared.block.Spot.TheVariants as spot
use Rattle.ir_forms.specs.declared.flow.FlowSource.{FlowSource}
use Rattle.fan_out.specs.inside.Fans.{Placed, Fan, form_fan, read_fan}

-- one of two targets is the spot
abbrev pub IsTarget : Option Spot → Option Spot → Spot → Type 0
IsTarget a b t = (a ≡ Some t) ⊎ (b ≡ Some t)

-- the mov of a fan, whose movs stand in slots from n on, that a way goes through to the spot
pub record Through (n : ℕ) (fan : Fan) (way : Spot → Type 0) (t : Spot) : Type 0 where
  pub slot : ℕ
  pub mov : Placed
  pub stands : slice_get fan.movs slot ≡ Some mov
  pub before : way (spot.Left (n + slot))
  pub feeds : IsTarget mov.inst.first mov.inst.second t

-- a result reaches a spot by a way with d movs on it
abbrev pub Way : ℕ → Fan → ℕ → Spot → Type 0
Way n fan zero t = IsTarget fan.first fan.second t
Way n fan (suc d) t = Through n fan (Way n fan d) t

-- a way to the spot with d movs, where 2 ^ d is less than a number
pub record IsNear (n : ℕ) (fan : Fan) (most : ℕ) (t : Spot) : Type 0 where
  pub movs : ℕ
  pub way : Way n fan movs t
  pub few : 2 ^ movs < most

-- the result of a node reaches each of its k consumers by at most ⌈log₂ k⌉ movs: by d with 2 ^ d < 2 * k
abbrev pub NodesAreNear : Type 0
NodesAreNear = (alone : Bool) (form : Form) (s : FlowSource) (n i : ℕ) (ts : List Spot) (t : Spot)
    → (form ≡ Store → ⊥) → (form ≡ Branch → ⊥)
    → slice_get ts i ≡ Some t → IsNear n (form_fan alone form s n ts) (2 * length ts) t

-- a read reaches each of its k consumers by as few, or by one more where they are no operands alone
abbrev pub ReadsAreNear : Type 0
ReadsAreNear = (s : FlowSource) (n i : ℕ) (ts : List Spot) (t : Spot)
    → slice_get ts i ≡ Some t → IsNear n (read_fan s n ts) (2 * length ts + 1) t
