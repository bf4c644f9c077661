-- That the calls of a built program do what the flat program's do, whatever its plan.
use Rattle.std.specs.Prelude.{ℕ, map}
use Rattle.ir_forms.specs.inside.FlatRuns.{calls_within}
use Rattle.hyper_build.specs.inside.Tree.{function_of}
use Rattle.hyper_build.specs.inside.World.{World, checks_of}
use Rattle.hyper_build.specs.inside.Follow.{CallsFollow}
use Rattle.hyper_build.specs.inside.Fits.{IsBuilt}

-- calls of every depth do what they mean, in all their endings
abbrev pub CallsClaim : Type 0
CallsClaim =
    (W : World) → IsBuilt W → (d : ℕ)
    → CallsFollow W (calls_within (checks_of W) (map function_of W.routines) W.base d)
