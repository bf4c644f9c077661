-- The output of a result, and that one output is the beginning of another.
use Rattle.std.specs.Prelude.{◌≡◌, ℕ, List, ◌++◌}
use Rattle.c_meaning_spec.specs.State.{Result, Go, Over}

-- what was put out before a result
abbrev pub output_of : Result → List ℕ
output_of (Go v s) = s.output
output_of (Over why s) = s.output

-- more goes on where out ends
pub record IsPrefix (out more : List ℕ) : Type 0 where
  pub rest : List ℕ
  pub joined : more ≡ out ++ rest
