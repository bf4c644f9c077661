-- What an image does that means a text of C: on every input it runs as the text's program is evaluated, whatever its
-- blocks are and wherever they stand (docs/LANGUAGE.md, docs/MACHINE.md).
use Rattle.std.specs.Prelude.{ℕ, ◌*◌, List, length}
use Rattle.trips_isa.specs.declared.block.Image.{Image}
use Rattle.c_tree.specs.declared.typed.TypedProgram.{TypedProgram}
use Rattle.c_tree.specs.Limits.{most_tokens}
use Rattle.c_pre.specs.Texts.{Tokens, Lexed}
use Rattle.c_front.specs.Fronts.{IsAccepted}
use Rattle.c_compile_laws.specs.Runs.{DoesDeep, DoesFinished, DoesUnfinished, EndsAsEvaluated, NeverEnds}

-- The image does what the text means: the text is accepted, and on each input the machine's run of the image, for any
-- budget of blocks, comes to what the evaluation of the text's program comes to. A block does at most so many turns
-- of a loop.
pub record DoesText (text : List ℕ) (turns : ℕ) (i : Image) : Type 0 where
  pub program : TypedProgram
  -- by lexer, grammar and typing
  pub accepted : IsAccepted text program
  pub tokens : Tokens
  -- the text's tokens; their number bounds the steps that one block does in a turn
  pub lexed : Lexed most_tokens text tokens
  -- where the evaluation is done within n steps, the run ends with its output and its result within 16 n + 6 blocks
  pub finished : DoesFinished program i
  -- where it is too deep within n steps, the stack is full within as many, with the same output
  pub deep : DoesDeep program i
  -- where it goes on after n steps, so does the run, which has put out the same within as many
  pub unfinished : DoesUnfinished (turns * length tokens) program i
  -- how the run has ended says how the evaluation has: it traps only where that is undefined
  pub ends : EndsAsEvaluated (turns * length tokens) program i
  -- where no number of steps ends the evaluation, no number of blocks ends the run
  pub endless : NeverEnds program i
