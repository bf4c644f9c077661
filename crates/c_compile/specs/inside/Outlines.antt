-- What the compiler makes of a flat program, with where the blocks of each function begin.
use Rattle.std.specs.Prelude.{◌≡◌, ℕ, List}
use Rattle.trips_isa.specs.declared.block.Image.{Image}
use Rattle.ir_forms.specs.inside.FlatCode.{Program}
use Rattle.grid_place.specs.declared.placed.Placing.{Placing}
use Rattle.hyper_build.specs.inside.FunctionParts.{entries_of}
use Rattle.hyper_build.specs.inside.Laws.{plan_of}
use Rattle.c_compile_laws.specs.inside.Compiled.{IsCompiled}

-- i is compiled of F by some plan, and these are the first blocks of F's functions by the same plan
pub record IsOutlined (F : Program) (p : Placing) (w : ℕ) (i : Image) (entries : List ℕ) : Type 0 where
  pub compiled : IsCompiled F p w i
  pub begin : entries ≡ entries_of (plan_of compiled.cuts compiled.joins compiled.groups) F
