-- What forms come to, one after another.
use Rattle.std.specs.Prelude.{ℕ, List, [], ◌∷◌, Result, Ok}
use Rattle.c_tree.specs.declared.Form.{Form}
use Rattle.c_pre.specs.declared.fault.PreFault.{PreFault}
use Rattle.c_pre.specs.declared.macros.Macro.{Macro}
use Rattle.c_pre.specs.declared.output.Output.{Output}
use Rattle.c_pre.specs.Macros.{Name, turns}
use Rattle.c_pre.specs.Outputs.{◌>>=◌, all_taken}

-- the turns of each of the forms, at this place, where these names are being replaced
abbrev pub each_taken : ℕ → ℕ → ℕ → List Macro → List Name → List Form → Output → Result Output PreFault
each_taken most at n ms hs [] o = Ok o
each_taken most at n ms hs (f ∷ fs) o = all_taken most at (turns n ms hs f) o >>= each_taken most at n ms hs fs
