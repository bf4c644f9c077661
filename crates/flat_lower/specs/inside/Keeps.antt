-- Beside what is believed of Keeps.antt: what a flat program does where the evaluation gave an outcome within n
-- steps.
use Rattle.std.specs.Prelude.{◌≡◌, ℕ, ℤ, ◌+◌, ◌*◌, ◌≤◌, List, Some}
use Rattle.c_tree.specs.declared.Kind.TheVariants.{Long}
use Rattle.c_tree.specs.declared.TypedProgram.{TypedProgram}
use Rattle.c_constant.specs.Kinds.{number}
use Rattle.c_meaning_spec.specs.declared.signal.Ending.TheVariants.{More, Undefined, Deep}
use Rattle.c_meaning_spec.specs.Eval.{Outcome, Stopped, Done, eval}
use Rattle.ir_forms.specs.inside.FlatSteps.{State, Res, Gave, TooDeep, Unfinished}
use Rattle.ir_forms.specs.inside.FlatCode.{Program}
use Rattle.ir_forms.specs.inside.FlatRuns.{checked, flat_run}
use Rattle.flat_lower.specs.inside.TreeViews.{source_of}
use Rattle.c_constant.specs.Kinds.{IsWord}
use Rattle.flat_lower.specs.inside.Statements.{lowered_program}
use Rattle.flat_lower.specs.inside.Fits.{FitsSource}
use Rattle.flat_lower.specs.inside.Sizes.{IsMost}
use Rattle.c_meaning_spec.specs.Laws.{IsInput}

-- A run here is one by the turns that it has. A turn is paid by the steps, eight a step; and the
-- steps are paid by the rounds, with as many a round as one pass through a function can cost.

-- the run ends with the word of a result: an int that main returned, or a long by which a call ended the run
pub record Finishes (run : ℕ → Res) (most steps : ℕ) (out : List ℕ) (result : ℤ) : Type 0 where
  pub turns : ℕ
  -- the result's word
  pub word : ℕ
  -- the state at the end
  pub to : State
  -- each step costs at most eight turns
  pub few : turns ≤ 8 * steps
  -- each round goes with at most `most` steps
  pub many : steps ≤ most * (to.rounds + 1)
  pub fits : IsWord Long word
  pub is : number Long word ≡ result
  pub output : to.output ≡ out
  -- with more turns too, which are left
  pub ends : (k : ℕ) → run (turns + k) ≡ Gave (Some word) to k

-- the run ends where a frame had no room
pub record Overflows (run : ℕ → Res) (n : ℕ) (out : List ℕ) : Type 0 where
  pub turns : ℕ
  -- each step costs at most eight turns
  pub few : turns ≤ 8 * n
  -- with more turns too
  pub ends : (k : ℕ) → run (turns + k) ≡ TooDeep out

-- the run has come as far as the evaluation, and has not ended
pub record GoesOn (run : ℕ → Res) (most n : ℕ) (out : List ℕ) : Type 0 where
  pub turns : ℕ
  -- those that the run has begun by then
  pub rounds : ℕ
  -- each step costs at most eight turns
  pub few : turns ≤ 8 * n
  -- each round goes with at most `most` steps
  pub many : n ≤ most * (rounds + 1)
  -- with the same output as the evaluation's
  pub is : run turns ≡ Unfinished out rounds

-- of an undefined evaluation nothing is said
abbrev pub Keeps : ℕ → (ℕ → Res) → ℕ → Outcome → Type 0
Keeps most run n (Stopped More out) = GoesOn run most n out
Keeps most run n (Stopped Undefined out) = Unit {0}
Keeps most run n (Stopped Deep out) = Overflows run n out
Keeps most run n (Done out result steps) = Finishes run most steps out result

-- A flat program does what the source means, where the source is as typing gives it: by the run
-- with all checks, none of whose answers is Wild, so that what it reads was set, what it loads and
-- saves it may, and nothing faults.
abbrev pub Means : TypedProgram → Program → Type 0
Means P flat =
    (most : ℕ) → FitsSource (source_of P) → IsMost (source_of P) most
    → (input : List ℕ) → IsInput input → (n : ℕ)
    → Keeps most (flat_run checked flat input) n (eval P input n)

-- the lowered program does
abbrev pub KeepsMeaning : Type 0
KeepsMeaning = (P : TypedProgram) → Means P (lowered_program P)
