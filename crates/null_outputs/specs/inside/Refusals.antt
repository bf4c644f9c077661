-- Why a block is not completed: the first part of the completed block above its limit, with its
-- exact count.
use Rattle.std.specs.Prelude.{◌≡◌, ℕ, ◌<◌, ◌≤◌, length}
use Rattle.ir_forms.specs.declared.fault.Part.{Part}
use Rattle.ir_forms.specs.declared.fault.Part.TheVariants.{Insts, Reads, Writes, Numbers, Exits}
use Rattle.ir_forms.specs.declared.fault.FlowFault.{FlowFault}
use Rattle.ir_forms.specs.declared.fault.FlowFault.TheVariants.{TooBig, Memory}
use Rattle.ir_forms.specs.declared.flow.FlowBlock.{FlowBlock}
use Rattle.null_outputs.specs.inside.Wants.{complete}

-- the nodes, reads and writes of a block are as few as a machine block has room for, each node
-- counted as one instruction
pub record IsWithinLimits (c : FlowBlock) : Type 0 where
  -- the `mov`s that spread results are not counted here
  pub nodes : length c.nodes ≤ 128
  pub reads : length c.reads ≤ 32
  pub writes : length c.writes ≤ 32

-- a part is above its limit, and none before it is; completing adds no number and no exit
abbrev pub IsAbove : FlowBlock → Part → ℕ → Type 0
IsAbove c Insts n = (n ≡ length c.nodes) × (128 < n)
IsAbove c Reads n = (length c.nodes ≤ 128) × (n ≡ length c.reads) × (32 < n)
IsAbove c Writes n = (length c.nodes ≤ 128) × (length c.reads ≤ 32) × (n ≡ length c.writes) × (32 < n)
IsAbove c Numbers n = ⊥
IsAbove c Exits n = ⊥

-- why this block does not come out; nothing says when memory is wanting
abbrev pub IsOver : FlowBlock → FlowFault → Type 0
IsOver c (TooBig part n) = IsAbove c part n
IsOver c Memory = Unit {0}

-- why a block is not completed
abbrev pub IsRefusal : FlowBlock → FlowFault → Type 0
IsRefusal b fault = IsOver (complete b) fault
