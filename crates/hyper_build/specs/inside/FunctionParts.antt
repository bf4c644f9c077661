-- Which blocks of a built program come from which of its functions.
use Rattle.std.specs.Prelude.{◌≡◌, ℕ, ◌+◌, ◌≤◌, Bool, List, [], ◌∷◌, ◌++◌, All, length}
use Rattle.ir_forms.specs.inside.FlatCode.{Program}
use Rattle.ir_forms.specs.inside.Frames.{frame_limit, frames_at}
use Rattle.ir_forms.specs.inside.HyperCode.{Block}
use Rattle.hyper_build.specs.inside.Tree.{Plan, Routine, annotated_all}
use Rattle.hyper_build.specs.inside.Routines.{routine_size, routine_blocks, entry_from}
use Rattle.hyper_build.specs.inside.Laws.{plan_of, built_program}
use Rattle.hyper_build.specs.inside.Forward.{numbers_start, entries_from}

-- the number of the first block of each function of a program that is built by a plan
abbrev pub entries_of : Plan → Program → List ℕ
entries_of p P = entries_from p P.functions numbers_start

-- the blocks of each function by itself, of which the first stands at label e
abbrev pub parts_from : ℕ → (ℕ → ℕ) → ℕ → List Routine → List (List Block)
parts_from end entries e [] = []
parts_from end entries e (g ∷ gs) =
    routine_blocks end entries e g ∷ parts_from end entries (e + routine_size g) gs

-- the blocks of each function of a program that is built by a plan
abbrev pub function_parts : Plan → Program → List (List Block)
function_parts p P =
    let gs = annotated_all p 0 0 P.functions in
    parts_from (frames_at P.bytes + frame_limit) (entry_from 3 gs) 3 gs

-- parts, one behind the other
abbrev pub joined : List (List Block) → List Block
joined [] = []
joined (part ∷ parts) = part ++ joined parts

-- where parts begin that stand behind one another, the first of them at e
abbrev pub begins : ℕ → List (List Block) → List ℕ
begins e [] = []
begins e (part ∷ parts) = e ∷ begins (e + length part) parts

-- a program's blocks are three and then function by function, each from its entry on
pub record AreByFunction (p : Plan) (P : Program) : Type 0 where
  -- the start, the end and the full stack, which no function has made
  pub first : List Block
  pub three : length first ≡ 3
  pub all : built_program p P ≡ first ++ joined (function_parts p P)
  pub entries : entries_of p P ≡ begins 3 (function_parts p P)
  -- each function has a test of the stack and a way in at least, so that entries ascend
  pub some : All (λ part. 2 ≤ length part) (function_parts p P)
  -- and each has its entry
  pub each : length (function_parts p P) ≡ length P.functions

-- so they are for all lists of answers, all groups and every program
abbrev pub EntriesBegin : Type 0
EntriesBegin =
    (cuts joins : List Bool) (groups : List (List (List ℕ))) (P : Program)
    → AreByFunction (plan_of cuts joins groups) P
