-- What the compiler makes of a flat program, whatever its plan and its placing.
use Rattle.std.specs.Prelude.{◌≡◌, ℕ, ◌*◌, ◌≤◌, Bool, List}
use Rattle.trips_isa.specs.declared.block.Block.{Block}
use Rattle.trips_isa.specs.declared.block.Image.{Image}
use Rattle.c_tree.specs.Limits.{most_tokens}
use Rattle.c_tree.specs.declared.typed.TypedProgram.{TypedProgram}
use Rattle.c_meaning_spec.specs.Eval.{eval}
use Rattle.ir_forms.specs.inside.FlatCode.{Program}
use Rattle.ir_forms.specs.inside.FlatFits.{FitsProgram, code_blocks_of_all}
use Rattle.ir_forms.specs.inside.FlatRuns.{checked, flat_run}
use Rattle.c_meaning_spec.specs.Laws.{IsInput}
use Rattle.flat_lower.specs.inside.Keeps.{Keeps}
use Rattle.reg_assign.specs.inside.Keeps.{KeepsTameRuns}
use Rattle.hyper_narrow.specs.inside.NarrowedCode.{Narrowed}
use Rattle.hyper_build.specs.inside.Laws.{built_program, plan_of, AreAssigned}
use Rattle.loop_unroll.specs.inside.Unrolled.{unrolled}
use Rattle.loop_unroll.specs.inside.Laws.{AsksAtMost}
use Rattle.grid_place.specs.declared.placed.Placing.{Placing}
use Rattle.c_compile_layout.specs.inside.Emitted.{image_of}
use Rattle.c_compile_blocks.specs.inside.Blocks.{AreMachineBlocks}
use Rattle.hyper_trim.specs.inside.Narrows.{Narrows}

-- F does what a typed program of a text of t tokens means, and is as small as the text
pub record FlatMeans (P : TypedProgram) (F : Program) (t : ℕ) : Type 0 where
  -- the steps that a pass through a function costs
  pub most : ℕ
  -- by the run with all checks, on each input of bytes
  pub keeps : (input : List ℕ) → IsInput input → (n : ℕ)
      → Keeps most (flat_run checked F input) n (eval P input n)
  pub fits : FitsProgram F
  -- as many as the lexer takes, at most
  pub few : t ≤ most_tokens
  -- and these are at most the text's tokens
  pub short : most ≤ t
  -- whatever plan cuts them
  pub blocks : code_blocks_of_all F.functions ≤ 12 * t

-- i is the image that the passes make of F: its calls keep what must be kept, its blocks end and its ifs are joined
-- where the answers of some plan say, a self loop does as many turns in its block as some list asks for, at most w
-- besides one, the blocks are trimmed and narrowed, and each stands in the slots that a placing says
pub record IsCompiled (F : Program) (p : Placing) (w : ℕ) (i : Image) : Type 0 where
  -- the variables that each call keeps, and their groups
  pub lists : List (List ℕ)
  pub groups : List (List (List ℕ))
  -- a list for each call, in at most five groups of at most 16 variables
  pub assigned : AreAssigned F lists groups
  -- calls that keep no more change no tame run
  pub keeps : KeepsTameRuns F lists
  -- where its blocks end, and which ifs are items of their block
  pub cuts : List Bool
  pub joins : List Bool
  -- how many turns each self loop does in one block
  pub times : List ℕ
  pub low : AsksAtMost w times
  -- what is left of the blocks that are built and unrolled so, with what outlasts each
  pub left : List Narrowed
  -- they do the same, block by block
  pub narrows : Narrows (unrolled times (built_program (plan_of cuts joins groups) F)) left
  -- with labels in the place of addresses
  pub blocks : List Block
  -- each is what the passes make of its narrowed block
  pub made : AreMachineBlocks p left blocks
  -- its labels resolved, and its globals beside
  pub is : i ≡ image_of blocks F.bytes
