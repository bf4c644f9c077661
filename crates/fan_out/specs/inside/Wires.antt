-- The wires of a flow block: each operand, guard and write with each source that it names.
use Rattle.std.specs.Prelude.{ℕ, suc, Bool, true, false, List, [], ◌∷◌, ◌++◌}
use Rattle.std.specs.Prelude.{Option, Some, None}
use Rattle.trips_isa.specs.declared.block.Spot.{Spot}
use Rattle.trips_isa.specs.declared.block.Spot.TheVariants as spot
use Rattle.trips_isa.specs.declared.block.Sense.{Sense}
use Rattle.trips_isa.specs.declared.block.Sense.TheVariants.{Always, OnTrue, OnFalse}
pub use Rattle.fan_out.specs.declared.wiring.Wire.{Wire}
use Rattle.ir_forms.specs.declared.flow.FlowSource.{FlowSource}
use Rattle.ir_forms.specs.declared.flow.FlowSource.TheVariants.{Node}
use Rattle.ir_forms.specs.declared.flow.Guard.{Guard}
use Rattle.ir_forms.specs.declared.flow.FlowNode.{FlowNode}
use Rattle.ir_forms.specs.declared.flow.FlowWrite.{FlowWrite}
use Rattle.ir_forms.specs.declared.flow.FlowBlock.{FlowBlock}
use Rattle.ir_forms.specs.inside.FlowRegular.{same_source}

-- the wires of a spot, one from each of its sources, with what is noted of it
abbrev pub wired_to : Spot → ℕ → List FlowSource → List Wire
wired_to t o [] = []
wired_to t o (s ∷ rest) = (record { spot = t; source = s; note = o }) ∷ wired_to t o rest

-- what is noted of a guard: 1 where it is met by a test that fails
abbrev pub sense_note : Sense → ℕ
sense_note Always = 0
sense_note OnTrue = 0
sense_note OnFalse = 1

-- what is noted of a guard, where there is one
abbrev pub guard_note : Option Guard → ℕ
guard_note None = 0
guard_note (Some g) = sense_note g.sense

-- the source of a predicate, where there is a guard
abbrev pub guard_sources : Option Guard → List FlowSource
guard_sources None = []
guard_sources (Some g) = Node g.node ∷ []

-- the wires of node j: those of its operands and of its predicate
abbrev pub node_wires : ℕ → FlowNode → List Wire
node_wires j n = wired_to (spot.Left j) 0 n.left
    ++ (wired_to (spot.Right j) 0 n.right ++ wired_to (spot.Pred j) (guard_note n.guard) (guard_sources n.guard))

-- the wires of the nodes from number j on
abbrev pub nodes_wires : ℕ → List FlowNode → List Wire
nodes_wires j [] = []
nodes_wires j (n ∷ ns) = node_wires j n ++ nodes_wires (suc j) ns

-- the wires of the writes from number w on, with their registers
abbrev pub writes_wires : ℕ → List FlowWrite → List Wire
writes_wires w [] = []
writes_wires w (x ∷ xs) = wired_to (spot.Write w) x.register x.sources ++ writes_wires (suc w) xs

-- node i stands in slot i, and write w is write slot w
abbrev pub wires : FlowBlock → List Wire
wires b = nodes_wires 0 b.nodes ++ writes_wires 0 b.writes

-- a spot before others, where its source is the one that is meant
abbrev pub if_same : Bool → Spot → List Spot → List Spot
if_same true t rest = t ∷ rest
if_same false t rest = rest

-- the spots that name a source, as often as they do
abbrev pub uses : FlowSource → List Wire → List Spot
uses s [] = []
uses s (x ∷ xs) = if_same (same_source s x.source) x.spot (uses s xs)
