-- What is said of every image that is compiled from a flat program which means a typed program.
use Rattle.std.specs.Prelude.{ℕ, ◌≤◌}
use Rattle.trips_isa.specs.declared.block.Image.{Image}
use Rattle.c_tree.specs.declared.typed.TypedProgram.{TypedProgram}
use Rattle.ir_forms.specs.inside.FlatCode.{Program}
use Rattle.ir_forms.specs.inside.FlatFits.{small_ifs_of_all}
use Rattle.grid_place.specs.declared.placed.Placing.{Placing}
use Rattle.c_compile_laws.specs.Counts.{guarded_in}
use Rattle.c_compile_laws.specs.inside.Compiled.{FlatMeans, IsCompiled}

-- of the image i of a program P, of a text of t tokens, whose blocks stand in the slots that a placing p says and do
-- at most w turns of a self loop besides one
abbrev pub OfCompiled : (TypedProgram → ℕ → ℕ → Placing → Image → Type 0) → Type 0
OfCompiled Says =
    (P : TypedProgram) (F : Program) (t : ℕ) (p : Placing) (w : ℕ) (i : Image) → FlatMeans P F t
    → IsCompiled F p w i → Says P t w p i

-- it has at least as many guarded instructions other than branches as the flat program has small ifs
abbrev pub GuardsSmallIfs : Type 0
GuardsSmallIfs =
    (P : TypedProgram) (F : Program) (t : ℕ) (p : Placing) (w : ℕ) (i : Image) → FlatMeans P F t
    → IsCompiled F p w i → small_ifs_of_all F.functions ≤ guarded_in i.blocks
