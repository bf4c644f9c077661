-- Laws of what passes over flow blocks keep.
use Rattle.ir_forms.specs.declared.flow.FlowBlock.{FlowBlock}
use Rattle.ir_forms.specs.inside.HyperRuns.{Layout}
use Rattle.hyper_narrow.specs.inside.NarrowedCode.{Narrowed}
use Rattle.hyper_narrow.specs.inside.NarrowedMeaning.{MeansNarrowed}
use Rattle.flow_ease.specs.inside.Eases.{Eases}
use Rattle.flow_ease.specs.inside.Tables.{FollowsTables}

-- a block may stand for itself
abbrev pub EasesItself : Type 0
EasesItself = (f : FlowBlock) → Eases f f

-- one pass may follow another
abbrev pub EasesOn : Type 0
EasesOn = (f g h : FlowBlock) → Eases f g → Eases g h → Eases f h

-- a block whose tables come to what tables of another come to means what the other means
abbrev pub MeansByTables : Type 0
MeansByTables =
    (at : Layout) (b : Narrowed) (f g : FlowBlock) → FollowsTables f g → MeansNarrowed at b f
    → MeansNarrowed at b g
