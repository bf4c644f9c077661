-- The most that one pass through a function of a program can cost.
use Rattle.std.specs.Prelude.{ℕ, ◌+◌, max, List, [], ◌∷◌}
use Rattle.flat_lower.specs.inside.Tree.{Func, Source}
use Rattle.flat_lower.specs.inside.Sizes.{size_of}

-- the nodes and statements of the largest body
abbrev pub largest : List Func → ℕ
largest [] = 0
largest (f ∷ fs) = max (size_of f.body) (largest fs)

-- a call has a step besides
unfoldable pub most_of : Source → ℕ
most_of P = 1 + largest P.functions
