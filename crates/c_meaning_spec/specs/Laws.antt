-- What an input is, and that an evaluation has not ended.
use Rattle.std.specs.Prelude.{◌≡◌, ℕ, ◌<◌, List, Some, slice_get}
use Rattle.c_meaning_spec.specs.declared.signal.Ending.TheVariants.{More, Undefined, Deep}
use Rattle.c_meaning_spec.specs.Eval.{Outcome, Stopped, Done}

-- an input is a list of bytes
abbrev pub IsInput : List ℕ → Type 0
IsInput input = (i b : ℕ) → slice_get input i ≡ Some b → b < 256

-- the evaluation has not ended
abbrev pub IsMore : Outcome → Type 0
IsMore (Stopped More out) = Unit {0}
IsMore (Stopped Undefined out) = ⊥
IsMore (Stopped Deep out) = ⊥
IsMore (Done out result steps) = ⊥
