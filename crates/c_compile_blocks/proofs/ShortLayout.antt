-- A layout, of which only one thing matters: that addresses are short.
use Rattle.std.proofs.Common.{ℕ, ◌^◌, ◌<◌, arith}
use Rattle.ir_forms.specs.inside.HyperRuns.{Layout}

-- a layout in which all addresses are 0
abbrev pub anywhere : Layout
anywhere = record { address = λ l. 0; label = λ a. 0 }

-- the address of this layout has 32 bits
pub short : (l : ℕ) → 0 < 2 ^ 32
short l = omega arith
