-- What a run of a text that ended with a result says of the text's evaluation.
use Rattle.std.specs.Prelude.{ℕ, ◌+◌, ◌*◌, ◌≤◌, List, ◌++◌, Option, length, codes}
use Rattle.trips_outside.specs.Outside.{Holds}
use Rattle.trips_isa.specs.declared.block.Image.{Image}
use Rattle.c_tree.specs.declared.typed.TypedProgram.{TypedProgram}
use Rattle.c_pre.specs.Texts.{Tokens, Lexed}
use Rattle.c_tree.specs.Limits.{most_tokens}
use Rattle.c_front.specs.Fronts.{IsAccepted}
use Rattle.c_meaning_spec.specs.Eval.{eval}
use Rattle.c_compile.specs.Images.{IsImageOf}
use Rattle.trips_requests.specs.declared.status.Status.{Status}
use Rattle.trips_requests.specs.declared.status.Status.TheVariants as status
use Rattle.trips_requests.specs.Texts.{output_and}
use Rattle.trips_answers.specs.Request.{Request, origin_held}
use Rattle.trips_answers.specs.Settings.{settings_of}
use Rattle.trips_answers.specs.Read.{HoldsInput}
use Rattle.trips_answers.specs.Table.{IsReported}
use Rattle.trips_answers.specs.Evaluated.{TellsResult}

-- A run of a text was reported to have ended with a result: the file is told to hold an accepted text, and the input
-- is told, as far as they are; and the evaluation of that text is undefined, or done with the output and the result
-- that are reported, whatever the budget.
pub record ResultMeans (held : List ℕ → Option (List ℕ)) (q : Request) (s : Status) (old new : Option (List ℕ))
    : Type 0 where
  -- the C text of the request's file, and the bytes of its input
  pub text : List ℕ
  pub input : List ℕ
  pub holds : Holds (origin_held held q.origin) text
  pub holds_input : HoldsInput q.input held input
  -- the typed program that the front end makes of the text, which is what is evaluated
  pub program : TypedProgram
  pub accepted : IsAccepted text program
  -- the text's tokens; their number bounds the steps that one block does in a turn
  pub tokens : Tokens
  pub lexed : Lexed most_tokens text tokens
  -- the image that has run, in the request's placing and with its turns of a loop in a block
  pub image : Image
  pub made : IsImageOf text q.placing q.unroll image
  -- what was reported of its run: an output and the digits of a result, and behind them what is shown
  pub output : List ℕ
  pub digits : List ℕ
  pub reported : IsReported image input (settings_of q) status.Ended (output_and output (codes "result " ++ digits)) s
      old new
  -- what the evaluation within any number of steps comes to
  pub means : (n : ℕ) → TellsResult output digits (n ≤ q.unroll * length tokens * (q.most + 1)) (eval program input n)
