-- What is known of built programs that are trimmed.
use Rattle.std.specs.Prelude.{ℕ, ◌≤◌, Bool, List, length}
use Rattle.ir_forms.specs.inside.FlatCode.{Program}
use Rattle.ir_forms.specs.inside.FlatFits.{FitsProgram, small_ifs_of_all}
use Rattle.ir_forms.specs.inside.FlatRuns.{flat_run}
use Rattle.ir_forms.specs.inside.HyperCode.{Block}
use Rattle.ir_forms.specs.inside.HyperFits.{IsFollowed, filled_in}
use Rattle.ir_forms.specs.inside.HyperRuns.{Layout}
use Rattle.ir_forms.specs.inside.HyperWords.{AreBytes, IsFaithful}
use Rattle.hyper_narrow.specs.inside.NarrowedCode.{Narrowed, bare}
use Rattle.hyper_narrow.specs.inside.NarrowedRuns.{narrowed_run}
use Rattle.reg_assign.specs.inside.Keeps.{tame_and, assigned_program}
use Rattle.hyper_build.specs.inside.Tree.{Plan}
use Rattle.hyper_build.specs.inside.Laws.{built_program, plan_of, AreAssigned}
use Rattle.hyper_build.specs.inside.Whole.{EndsSo}
use Rattle.hyper_trim.specs.inside.Narrows.{AllFit, Narrows}
use Rattle.c_compile_layout.specs.inside.Emitted.{most_blocks}
use Rattle.c_compile_blocks.specs.inside.Blocks.{FitsPasses}

-- the passes take what is left of a program whose blocks fit, lead to its blocks, and are as many as an image holds
abbrev pub TrimmedFits : Type 0
TrimmedFits =
    (P : List Block) (Q : List Narrowed) → 1 ≤ length P → length P ≤ most_blocks → IsFollowed P → AllFit P
    → Narrows P Q → FitsPasses Q

-- What is left of the blocks of a program whose calls keep what is assigned does what they do.
abbrev pub TrimmedKeepsAssigned : Type 0
TrimmedKeepsAssigned =
    (check : Bool) (at : Layout) (cuts joins : List Bool) (F : Program) (lists : List (List ℕ))
    (groups : List (List (List ℕ))) (Q : List Narrowed) (input : List ℕ) (n : ℕ) → FitsProgram F
    → AreAssigned F lists groups → Narrows (built_program (plan_of cuts joins groups) F) Q
    → IsFaithful at (length Q) → AreBytes input
    → EndsSo (narrowed_run check at Q F.bytes input) n
    (flat_run (tame_and check) (assigned_program F lists) input n)

-- and has as many filled ifs as the program has small ones
abbrev pub TrimmedKeepsSmallIfs : Type 0
TrimmedKeepsSmallIfs =
    (p : Plan) (F : Program) (Q : List Narrowed) → Narrows (built_program p F) Q
    → small_ifs_of_all F.functions ≤ filled_in (bare Q)
