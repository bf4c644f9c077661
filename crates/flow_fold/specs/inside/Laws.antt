-- Laws of the passes over flow blocks.
use Rattle.std.specs.Prelude.{Bool, List}
use Rattle.ir_forms.specs.declared.flow.FlowBlock.{FlowBlock}
use Rattle.flow_fold.specs.inside.Replaces.{Replaces}
use Rattle.flow_fold.specs.inside.Folds.{Folds}
use Rattle.flow_fold.specs.inside.Draws.{drawn}
use Rattle.flow_fold.specs.inside.Sweeps.{Sweeps}
use Rattle.flow_fold.specs.inside.SweepsAll.{SweepsAll}
use Rattle.flow_fold.specs.inside.Shares.{Shares}

-- a block may stand for itself
abbrev pub ReplacesItself : Type 0
ReplacesItself = (f : FlowBlock) → Replaces f f

-- one pass may follow another
abbrev pub ReplacesOn : Type 0
ReplacesOn = (f g h : FlowBlock) → Replaces f g → Replaces g h → Replaces f h

-- a block may stand for what it folds
abbrev pub FoldsReplace : Type 0
FoldsReplace = (f g : FlowBlock) → Folds f g → Replaces f g

-- and for what its writes draw
abbrev pub DrawsReplace : Type 0
DrawsReplace = (marks : List Bool) (f : FlowBlock) → Replaces f (drawn marks f)

-- and for what it sweeps
abbrev pub SweepsReplace : Type 0
SweepsReplace = (f g : FlowBlock) → Sweeps f g → Replaces f g

-- also where it sweeps all at once
abbrev pub SweepsAllReplace : Type 0
SweepsAllReplace = (f g : FlowBlock) → SweepsAll f g → Replaces f g

-- and for what it shares
abbrev pub SharesReplace : Type 0
SharesReplace = (f g : FlowBlock) → Shares f g → Replaces f g
