-- Blocks of a plan that cuts everywhere: small ones without if-items, those that save or restore a
-- group, and those of one small if.
use Rattle.std.specs.Prelude.{◌≡◌, ◌⊎◌, ℕ, ◌≤◌, true, false, List, [], length, Some}
use Rattle.std.specs.Prelude.{slice_get}
use Rattle.ir_forms.specs.inside.FlatCode.{Program}
use Rattle.ir_forms.specs.inside.FlatFits.{FitsProgram}
use Rattle.ir_forms.specs.declared.hyper.Exit.TheVariants as exit
use Rattle.ir_forms.specs.inside.HyperCode.{Tail, Leave, Test, Block}
use Rattle.ir_forms.specs.inside.HyperFits.{IsSmall, ifs_in}
use Rattle.ir_forms.specs.inside.HyperRuns.{jump}
use Rattle.reg_assign.specs.inside.Live.{AreSmall}
use Rattle.hyper_build.specs.inside.Tree.{Plan}
use Rattle.hyper_build.specs.inside.Passing.{saving, restoring}
use Rattle.hyper_build.specs.inside.SmallIfs.{HoldsSmallIf}
use Rattle.hyper_build.specs.inside.Laws.{built_program, FitsGroups, plan_of, AreAssigned}

-- a block that saves or restores at most 16 variables, and jumps
pub record IsGroupBlock (b : Block) : Type 0 where
  pub frame : ℕ
  pub variables : List ℕ
  -- the label of the block that goes on
  pub to : ℕ
  pub few : length variables ≤ 16
  pub is : (b ≡ saving frame variables (jump to)) ⊎ (b ≡ restoring frame variables (jump to))

-- an end that jumps at once
abbrev pub IsJump : Tail → Type 0
IsJump (Leave (exit.Jump l)) = Unit {0}
IsJump (Leave (exit.Call l back)) = ⊥
IsJump (Leave exit.Return) = ⊥
IsJump (Leave (exit.System l)) = ⊥
IsJump (Test t one other) = ⊥

-- each test of an end chooses between two jumps
abbrev pub TestsJump : Tail → Type 0
TestsJump (Leave e) = Unit {0}
TestsJump (Test t one other) = IsJump one × IsJump other

-- a small block that has a test only at its end, between two jumps
pub record IsSimple (b : Block) : Type 0 where
  pub small : IsSmall b
  pub plain : ifs_in b.items ≡ 0
  pub jumps : TestsJump b.tail

-- the three kinds of blocks that the passes behind are proved to take
abbrev pub IsLittle : Block → Type 0
IsLittle b = IsSimple b ⊎ (IsGroupBlock b ⊎ HoldsSmallIf b)

-- a plan that cuts at every place, joins nothing, and has groups of at most 16 variables
pub record CutsAll (p : Plan) : Type 0 where
  pub cut : (i : ℕ) → p.cut i ≡ true
  pub joined : (i : ℕ) → p.joined i ≡ false
  pub small : (i : ℕ) → p.small i ≡ true
  pub groups : (k : ℕ) → AreSmall (p.groups k)

-- each block of such a plan is little, so that some plan gives blocks which every pass takes
abbrev pub CutBlocksAreLittle : Type 0
CutBlocksAreLittle =
    (p : Plan) (P : Program) → FitsProgram P → FitsGroups p P → CutsAll p → (k : ℕ) (b : Block)
    → slice_get (built_program p P) k ≡ Some b → IsLittle b

-- so are all blocks of what `assign` gives, where every answer is to cut and no if is joined
abbrev pub AssignedAreLittle : Type 0
AssignedAreLittle =
    (P : Program) (lists : List (List ℕ)) (groups : List (List (List ℕ))) → FitsProgram P
    → AreAssigned P lists groups → (k : ℕ) (b : Block)
    → slice_get (built_program (plan_of [] [] groups) P) k ≡ Some b → IsLittle b
