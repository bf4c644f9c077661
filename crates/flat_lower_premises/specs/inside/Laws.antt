-- What the flat program of a source gives the later passes.
use Rattle.std.specs.Prelude.{◌≡◌, ℕ, ◌+◌, ◌*◌, ◌^◌, ◌<◌, ◌≤◌, [], All, Option, Some, None, slice_get}
use Rattle.c_tree.specs.Limits.{most_parameters}
use Rattle.c_tree.specs.declared.Place.{Place}
use Rattle.trips_isa.specs.Stores.{data_size}
use Rattle.ir_forms.specs.inside.FlatCode.{Function, Program}
use Rattle.ir_forms.specs.inside.FlatFits.{FitsFunction, FitsCall, FitsProgram, steps_of_all}
use Rattle.ir_forms.specs.inside.FlatFits.{code_blocks_of_all}
use Rattle.ir_forms.specs.inside.Frames.{frames_at, frame_limit}
use Rattle.ir_forms.specs.inside.Limits.{most_statements}
use Rattle.flat_lower.specs.inside.Tree.{Func, Source}
use Rattle.flat_lower.specs.inside.Fits.{FitsSource}
use Rattle.flat_lower.specs.inside.Objects.{row_of}
use Rattle.flat_lower.specs.inside.Statements.{context_of, lowered}
use Rattle.flat_lower_premises.specs.inside.SourceNodes.{source_size}
use Rattle.flat_lower.specs.declared.around.Around.TheVariants as around
use Rattle.flat_lower_premises.specs.inside.Jumps.{JumpsInLoops}

-- each function has no more parameters than it may have, as many as a call has registers for
abbrev pub FewParams : Source → Type 0
FewParams P = (n : ℕ) (f : Func) → slice_get P.functions n ≡ Some f → f.params ≤ most_parameters

-- each function's jumps stand in its loops
abbrev pub PlacedJumps : Source → Type 0
PlacedJumps P =
    (n : ℕ) (f : Func) → slice_get P.functions n ≡ Some f → JumpsInLoops around.Nowhere f.body

-- a second size, where there is one, is a word
abbrev pub IsSmallRow : Option ℕ → Type 0
IsSmallRow None = Unit {0}
IsSmallRow (Some q) = q < 2 ^ 64

-- so is that of each array which a function names
abbrev pub SmallRows : Source → Type 0
SmallRows P =
    (n : ℕ) (f : Func) → slice_get P.functions n ≡ Some f → (p : Place)
    → IsSmallRow (row_of (context_of P.globals f) p)

-- a fitting program but for its length, each part named as there
pub record FitsButLength (P : Program) : Type 0 where
  pub each : (f : ℕ) (g : Function) → slice_get P.functions f ≡ Some g → FitsFunction P.functions g
  pub main : FitsCall P.functions P.main []
  pub bytes : All (λ b. b < 256) P.bytes
  pub room : frames_at P.bytes + frame_limit ≤ data_size

-- the flat program fits, but for its length
abbrev pub FitsOfAnyLength : Type 0
FitsOfAnyLength =
    (P : Source) → FitsSource P → FewParams P → PlacedJumps P → SmallRows P
    → FitsButLength (lowered P)

-- at most four flat statements for each function and node; an element of a local array of longs
-- takes four
abbrev pub FewStatements : Type 0
FewStatements = (P : Source) → steps_of_all (lowered P).functions ≤ 4 * source_size P

-- at most six blocks for each function and node, where each function has six besides its body's
abbrev pub FewBlocks : Type 0
FewBlocks = (P : Source) → code_blocks_of_all (lowered P).functions ≤ 6 * source_size P

-- the flat program of a source that is not too long fits
abbrev pub LoweredFits : Type 0
LoweredFits =
    (P : Source) → FitsSource P → FewParams P → PlacedJumps P → SmallRows P
    → 4 * source_size P ≤ most_statements → FitsProgram (lowered P)
