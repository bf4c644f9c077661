-- Why a flow block is refused: the first part above its limit, with its exact count.
use Rattle.std.specs.Prelude.{◌≡◌, ℕ, ◌<◌, ◌≤◌, length}
use Rattle.ir_forms.specs.declared.flow.FlowBlock.{FlowBlock}
use Rattle.ir_forms.specs.declared.fault.Part.{Part}
use Rattle.ir_forms.specs.declared.fault.Part.TheVariants.{Insts, Reads, Writes, Numbers, Exits}
use Rattle.ir_forms.specs.declared.fault.FlowFault.{FlowFault}
use Rattle.ir_forms.specs.declared.fault.FlowFault.TheVariants.{TooBig, Memory}
use Rattle.fan_out.specs.inside.Targeted.{count_insts}

-- the numbers and the exits of a block that fits are never above their limits
abbrev pub IsAbove : FlowBlock → Part → ℕ → Type 0
IsAbove f Insts n = (n ≡ count_insts f) × (128 < n)
IsAbove f Reads n = (count_insts f ≤ 128) × (n ≡ length f.reads) × (32 < n)
IsAbove f Writes n = (count_insts f ≤ 128) × (length f.reads ≤ 32) × (n ≡ length f.writes) × (32 < n)
IsAbove f Numbers n = ⊥
IsAbove f Exits n = ⊥

-- why a flow block is refused; of want of memory nothing is said
abbrev pub IsRefusal : FlowBlock → FlowFault → Type 0
IsRefusal f (TooBig part n) = IsAbove f part n
IsRefusal f Memory = Unit {0}
