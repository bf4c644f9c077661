-- How many choosers a block has. Own.
use Rattle.std.specs.Prelude.{ℕ, zero, suc, ◌+◌, ◌^◌, ◌≤◌, Bool, List, length, slice_get}
use Rattle.trips_isa.specs.declared.node.Node.{Node}
use Rattle.block_cases.specs.Nodes.{one_if}
use Rattle.block_cases.specs.Choosers.{is_chooser}
use Rattle.block_cases.specs.Cases.{cases}

-- how many of the first n numbers pass a test
abbrev pub passing : (ℕ → Bool) → ℕ → ℕ
passing f zero = 0
passing f (suc n) = one_if (f 0) + passing (λ x. f (suc x)) n

-- the number of choosers among some nodes
abbrev pub choosers : List Node → ℕ
choosers ns = passing (λ x. is_chooser ns x (slice_get ns x)) (length ns)

-- there are no more cases than choices of a bit for each chooser
abbrev pub CasesAreFew : Type 0
CasesAreFew = (ns : List Node) → cases ns ≤ 2 ^ choosers ns
