-- What `convert` asks for, and the blocks that it refuses.
use Rattle.std.specs.Prelude.{◌≡◌, ℕ, ◌<◌, ◌≤◌, length}
use Rattle.ir_forms.specs.declared.hyper.Exit.{Exit}
use Rattle.ir_forms.specs.declared.hyper.Exit.TheVariants as exit
use Rattle.ir_forms.specs.inside.HyperCode.{Tail, Leave, Test}
use Rattle.hyper_narrow.specs.inside.NarrowedCode.{Narrowed}
use Rattle.ir_forms.specs.inside.HyperFits.{exits_in}
use Rattle.ir_forms.specs.declared.fault.Part.{Part}
use Rattle.ir_forms.specs.declared.fault.Part.TheVariants.{Insts, Reads, Writes, Numbers, Exits}
use Rattle.ir_forms.specs.declared.fault.FlowFault.{FlowFault}
use Rattle.ir_forms.specs.declared.fault.FlowFault.TheVariants.{TooBig, Memory}
use Rattle.predication.specs.inside.Converted.{begun, all_nodes, predicated}
use Rattle.ir_forms.specs.inside.Limits.{label_count}

-- LABELS

-- labels are below this
abbrev pub label_end : ℕ
label_end = label_count

-- the labels that an exit's nodes hold; that of a system call stands in none
abbrev pub NamesLabel : Exit → Type 0
NamesLabel (exit.Jump l) = l < label_end
NamesLabel (exit.Call l back) = (l < label_end) × (back < label_end)
NamesLabel exit.Return = Unit {0}
NamesLabel (exit.System l) = Unit {0}

-- the labels of each exit of an end
abbrev pub NamesLabels : Tail → Type 0
NamesLabels (Leave e) = NamesLabel e
NamesLabels (Test t one other) = NamesLabels one × NamesLabels other

-- COUNTS

-- how much a flow block has of each part; its numbers are those of loads and stores
pub record Counts : Type 0 where
  -- nodes, each of which becomes an instruction
  pub insts : ℕ
  -- registers that are read
  pub reads : ℕ
  pub writes : ℕ
  -- of loads and stores
  pub numbers : ℕ
  pub exits : ℕ

-- the counts of a block that is converted, whatever they are
unfoldable pub counts_of : Narrowed → Counts
counts_of c = record {
  insts = length (all_nodes c.block);
  reads = length (predicated c).reads;
  writes = length (predicated c).writes;
  numbers = (begun c.block).number;
  exits = exits_in c.block.tail;
}

-- a machine block has room for these
pub record HasRoomFor (c : Counts) : Type 0 where
  pub insts : c.insts ≤ 128
  pub reads : c.reads ≤ 32
  pub writes : c.writes ≤ 32
  pub numbers : c.numbers ≤ 32
  pub exits : c.exits ≤ 8

-- a part is the first for which there is no room, and this is its count
abbrev pub IsAbove : Counts → Part → ℕ → Type 0
IsAbove c Insts n = (n ≡ c.insts) × (128 < n)
IsAbove c Reads n = (c.insts ≤ 128) × (n ≡ c.reads) × (32 < n)
IsAbove c Writes n = (c.insts ≤ 128) × (c.reads ≤ 32) × (n ≡ c.writes) × (32 < n)
IsAbove c Numbers n =
    (c.insts ≤ 128) × (c.reads ≤ 32) × (c.writes ≤ 32) × (n ≡ c.numbers) × (32 < n)
IsAbove c Exits n =
    (c.insts ≤ 128) × (c.reads ≤ 32) × (c.writes ≤ 32) × (c.numbers ≤ 32) × (n ≡ c.exits) × (8 < n)

-- why a block is refused; memory may be wanting at any time
abbrev pub IsRefusal : Counts → FlowFault → Type 0
IsRefusal c (TooBig part n) = IsAbove c part n
IsRefusal c Memory = Unit {0}
