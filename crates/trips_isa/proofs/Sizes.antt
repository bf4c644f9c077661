-- Facts of how many chunks a block takes.
use Rattle.std.proofs.Common.{ℕ, suc, ◌≤◌, List, [], ◌∷◌, Option, Some, None, arith}
use Rattle.trips_isa.specs.declared.block.Inst.{Inst}
use Rattle.trips_isa.specs.Images.{body_chunks}

-- a body has at least one chunk
pub body_chunks_some : (j : ℕ) (slots : List (Option Inst)) → 1 ≤ body_chunks j slots
body_chunks_some j [] = omega arith
body_chunks_some j (None ∷ slots) = omega (arith, body_chunks_some (suc j) slots)
body_chunks_some j (Some i ∷ slots) = omega (arith, body_chunks_some (suc j) slots)
