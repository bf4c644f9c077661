-- The images of C texts, and what they do.
use Rattle.std.specs.Prelude.{ℕ, ◌-◌, ◌*◌, ◌≤◌, List, length}
use Rattle.trips_isa.specs.declared.block.Image.{Image}
use Rattle.c_tree.specs.declared.typed.TypedProgram.{TypedProgram}
use Rattle.c_pre.specs.Texts.{Tokens, Lexed}
use Rattle.c_tree.specs.Limits.{most_tokens}
use Rattle.c_front.specs.Fronts.{IsAccepted}
use Rattle.ir_forms.specs.inside.FlatCode.{Program}
use Rattle.c_compile_laws.specs.PlainIfs.{plain_ifs}
use Rattle.grid_place.specs.declared.placed.Placing.{Placing}
use Rattle.c_compile_laws.specs.Counts.{guarded_in}
use Rattle.c_compile_laws.specs.Bounds.{HasBounds}
use Rattle.c_compile_laws.specs.inside.Compiled.{IsCompiled}
use Rattle.c_compile_laws.specs.Runs.{DoesDeep, DoesFinished, DoesUnfinished, EndsAsEvaluated, NeverEnds}
use Rattle.c_compile.specs.inside.Flat.{IsFlatOf}

-- i is made of the text's flat program, its blocks stand in the slots that a placing says, and the block of a loop
-- does at most so many turns
pub record IsImageOf (text : List ℕ) (p : Placing) (turns : ℕ) (i : Image) : Type 0 where
  -- a block does one at least
  pub some : 1 ≤ turns
  pub flat : Program
  -- it is the text's, and does what the text means
  pub lowered : IsFlatOf text flat
  -- by some plan
  pub compiled : IsCompiled flat p (turns - 1) i

-- The image does what the text means: the text is accepted, and on each input the image's run ends
-- as the evaluation does, has a full stack where that is too deep, and goes on where that goes on.
pub record MeansText (text : List ℕ) (p : Placing) (turns : ℕ) (i : Image) : Type 0 where
  pub program : TypedProgram
  -- by lexer, grammar and typing
  pub accepted : IsAccepted text program
  pub tokens : Tokens
  -- the limits count its tokens
  pub lexed : Lexed most_tokens text tokens
  -- the same output and result, within 16 n + 6 blocks for n steps, however many turns a block does
  pub finished : DoesFinished program i
  -- the stack is full within as many
  pub deep : DoesDeep program i
  -- as far as n steps go, within as many blocks, and goes on; in a turn a block does no more steps than it has tokens
  pub unfinished : DoesUnfinished (turns * length tokens) program i
  -- how its run has ended says how the evaluation has: it traps only where that is undefined
  pub ends : EndsAsEvaluated (turns * length tokens) program i
  -- where no number of steps ends the evaluation, no number of blocks ends the run
  pub endless : NeverEnds program i
  -- it is good, and as small as the text
  pub bounds : HasBounds (length tokens) p i
  -- each plain if has a guarded instruction that is no branch
  pub guards : plain_ifs program ≤ guarded_in i.blocks
