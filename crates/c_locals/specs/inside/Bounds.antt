-- What a token adds to the numbers of a walk.
use Rattle.std.specs.Prelude.{◌≤◌, ◌+◌}
use Rattle.c_locals.specs.declared.state.State.{State}

-- at most one more of each
pub record Bounded (s s' : State) : Type 0 where
  -- objects
  pub count : s'.count ≤ s.count + 1
  -- brackets that are open in a declaration
  pub depth : s'.depth ≤ s.depth + 1
  -- braces that are open
  pub blocks : s'.blocks ≤ s.blocks + 1
  -- brackets of the other kinds that are open
  pub parens : s'.parens ≤ s.parens + 1
