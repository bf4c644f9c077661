-- Needs that are counted no further than 17.
use Rattle.std.proofs.Common.{◌≡◌, ℕ, Option, Some, None, arith}
use Rattle.c_constant.specs.Need.{indexes_need}
use Rattle.c_constant.specs.inside.Need.{capped, capped_if}

-- the need of indexes whose own needs are counted so
pub indexes_capped : (r : Option ℕ) (i : ℕ)
    → capped (indexes_need (capped_if r) (capped i)) ≡ capped (indexes_need r i)
indexes_capped None i = omega arith
indexes_capped (Some r) i = omega arith
