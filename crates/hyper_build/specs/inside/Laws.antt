-- What the blocks of a flat program do, whatever the plan, and wherever they are laid out.
use Rattle.std.specs.Prelude.{◌≡◌, ℕ, zero, suc, ◌+◌, ◌≤◌, Bool, true, false, List, [], ◌∷◌, length}
use Rattle.std.specs.Prelude.{Some, slice_get}
use Rattle.ir_forms.specs.inside.FlatCode.{Function, Program}
use Rattle.ir_forms.specs.inside.FlatFits.{FitsProgram, code_blocks_of_all, small_ifs_of_all}
use Rattle.ir_forms.specs.inside.FlatRuns.{flat_run}
use Rattle.ir_forms.specs.inside.Frames.{frames_at}
use Rattle.ir_forms.specs.inside.HyperCode.{Block}
use Rattle.ir_forms.specs.inside.HyperFits.{FitsHyper, IsFollowed, filled_in}
use Rattle.ir_forms.specs.inside.HyperRuns.{Layout, hyper_run}
use Rattle.ir_forms.specs.inside.HyperWords.{AreBytes, IsFaithful}
use Rattle.reg_assign.specs.inside.Live.{AreCut, AreFew}
use Rattle.reg_assign.specs.inside.Keeps.{tame_and, keeping_all, assigned_program, KeepsOwn, FitsKept}
use Rattle.hyper_build.specs.inside.Tree.{Plan, annotated_all, is_saved}
use Rattle.hyper_build.specs.inside.Routines.{built}
use Rattle.hyper_build.specs.inside.Whole.{EndsSo}
use Rattle.ir_forms.specs.inside.Limits.{label_count}

-- the program whose calls keep what a plan's groups save
abbrev pub saved_program : Plan → Program → Program
saved_program p P = record {
  functions = keeping_all (λ k. is_saved (p.groups k)) 0 P.functions;
  bytes = P.bytes;
  main = P.main;
}

-- the blocks of a program by a plan
abbrev pub built_program : Plan → Program → List Block
built_program p P = built (frames_at P.bytes) (annotated_all p 0 0 P.functions) P.main

-- each call saves, in at most five groups, variables of its own function that stay over it
pub record FitsGroups (p : Plan) (P : Program) : Type 0 where
  pub own : (f : ℕ) (g : Function) → slice_get (saved_program p P).functions f ≡ Some g
      → KeepsOwn g.scalars g.body
  pub few : (k : ℕ) → length (p.groups k) ≤ 5

-- For every plan and every faithful layout, with or without the check of faults: where the flat
-- program's run ends, the blocks end so within two blocks a turn; where it has not ended, neither have
-- they, at a number of blocks that is no less than the rounds begun.
abbrev pub BuildKeepsMeaning : Type 0
BuildKeepsMeaning =
    (check : Bool) (at : Layout) (p : Plan) (P : Program) (input : List ℕ) (n : ℕ) → FitsProgram P
    → FitsGroups p P → IsFaithful at (length (built_program p P)) → AreBytes input
    → EndsSo (hyper_run check at (built_program p P) P.bytes input) n
    (flat_run (tame_and check) (saved_program p P) input n)

-- Of every plan: each exit leads to a block, and what comes back comes to the block that follows; there
-- are no more blocks than the flat code says; and where these are at most as many as an image may
-- have, each of them fits.
pub record AreBlocksOf (P : Program) (B : List Block) : Type 0 where
  pub followed : IsFollowed B
  -- three stand before all functions
  pub few : length B ≤ 3 + code_blocks_of_all P.functions
  -- labels are below `label_count`
  pub fit : length B ≤ label_count → (k : ℕ) (b : Block) → slice_get B k ≡ Some b → FitsHyper b

-- Whatever the plan, its blocks are such, where program and groups fit.
abbrev pub BuildGivesBlocks : Type 0
BuildGivesBlocks =
    (p : Plan) (P : Program) → FitsProgram P → FitsGroups p P → AreBlocksOf P (built_program p P)

-- Under every plan the blocks have at least as many filled if-items as the program has small ifs.
abbrev pub KeepsSmallIfs : Type 0
KeepsSmallIfs =
    (p : Plan) (P : Program) → small_ifs_of_all P.functions ≤ filled_in (built_program p P)

-- WHAT `assign` GIVES

-- a list of answers; at the places that it lacks a block ends
abbrev pub cuts_by : List Bool → ℕ → Bool
cuts_by [] i = true
cuts_by (c ∷ cs) zero = c
cuts_by (c ∷ cs) (suc i) = cuts_by cs i

-- a list of answers; at the places that it lacks an if ends its block
abbrev pub joins_by : List Bool → ℕ → Bool
joins_by [] i = false
joins_by (j ∷ js) zero = j
joins_by (j ∷ js) (suc i) = joins_by js i

-- the groups of each call; where there are none, none
abbrev pub groups_by : List (List (List ℕ)) → ℕ → List (List ℕ)
groups_by [] k = []
groups_by (gs ∷ more) zero = gs
groups_by (gs ∷ more) (suc k) = groups_by more k

-- a place is a statement or a function, by its number in the order of the program
abbrev pub plan_of : List Bool → List Bool → List (List (List ℕ)) → Plan
plan_of cuts joins groups = record {
  cut = cuts_by cuts;
  joined = joins_by joins;
  small = cuts_by cuts;
  groups = groups_by groups;
}

-- lists of variables that are kept, and their groups
pub record AreAssigned (P : Program) (lists : List (List ℕ)) (groups : List (List (List ℕ)))
    : Type 0
  where
    pub kept : FitsKept P lists
    -- each list is its groups in order, of at most 16 variables
    pub cut : AreCut lists groups
    -- at most five for a call
    pub few : AreFew groups

-- So of the program whose calls keep these variables, for all lists of answers.
abbrev pub KeepsAssigned : Type 0
KeepsAssigned =
    (check : Bool) (at : Layout) (cuts joins : List Bool) (P : Program) (lists : List (List ℕ))
    (groups : List (List (List ℕ))) (input : List ℕ) (n : ℕ) → FitsProgram P
    → AreAssigned P lists groups
    → IsFaithful at (length (built_program (plan_of cuts joins groups) P)) → AreBytes input
    → EndsSo (hyper_run check at (built_program (plan_of cuts joins groups) P) P.bytes input) n
    (flat_run (tame_and check) (assigned_program P lists) input n)

-- So are the blocks of what `assign` gives, for all lists of answers.
abbrev pub GivesAssigned : Type 0
GivesAssigned =
    (cuts joins : List Bool) (P : Program) (lists : List (List ℕ)) (groups : List (List (List ℕ)))
    → FitsProgram P → AreAssigned P lists groups
    → AreBlocksOf P (built_program (plan_of cuts joins groups) P)
