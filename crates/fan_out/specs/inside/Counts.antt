-- How many instructions a flow block's machine block has, whatever their number.
use Rattle.std.specs.Prelude.{ℕ, zero, suc, ◌+◌, Bool, true, false, ◌&&◌, List, [], ◌∷◌, ◌++◌, length}
use Rattle.trips_isa.specs.declared.form.Form.{Form}
use Rattle.trips_isa.specs.declared.form.Form.TheVariants.{General, Immediate, Load, Store, Branch}
use Rattle.trips_isa.specs.declared.form.Form.TheVariants.{Constant}
use Rattle.trips_isa.specs.Forms.{form_of}
use Rattle.ir_forms.specs.declared.flow.FlowSource.{FlowSource}
use Rattle.ir_forms.specs.declared.flow.FlowSource.TheVariants.{Read, Node}
use Rattle.ir_forms.specs.declared.flow.FlowNode.{FlowNode}
use Rattle.ir_forms.specs.declared.flow.FlowWrite.{FlowWrite}
use Rattle.ir_forms.specs.declared.flow.FlowBlock.{FlowBlock}
use Rattle.ir_forms.specs.inside.FlowRegular.{same_source}
use Rattle.fan_out.specs.inside.Wires.{guard_sources}

-- b before others, where it is noted
abbrev pub if_noted : Bool → Bool → List Bool → List Bool
if_noted true b rest = b ∷ rest
if_noted false b rest = rest

-- b for each time that a source stands among these
abbrev pub noted : Bool → FlowSource → List FlowSource → List Bool
noted b s [] = []
noted b s (x ∷ xs) = if_noted (same_source s x) b (noted b s xs)

-- for each use of a source, whether it is an operand
abbrev pub node_kinds : FlowSource → FlowNode → List Bool
node_kinds s n = noted true s n.left ++ (noted true s n.right
    ++ noted false s (guard_sources n.guard))

-- for each use of a source by some nodes, whether it is an operand
abbrev pub nodes_kinds : FlowSource → List FlowNode → List Bool
nodes_kinds s [] = []
nodes_kinds s (n ∷ ns) = node_kinds s n ++ nodes_kinds s ns

-- for each use of a source by some writes, that it is no operand
abbrev pub writes_kinds : FlowSource → List FlowWrite → List Bool
writes_kinds s [] = []
writes_kinds s (x ∷ xs) = noted false s x.sources ++ writes_kinds s xs

-- for each use of a source in a block, whether it is an operand
abbrev pub kinds : FlowSource → FlowBlock → List Bool
kinds s f = nodes_kinds s f.nodes ++ writes_kinds s f.writes

-- whether all uses are operands
abbrev pub all_true : List Bool → Bool
all_true [] = true
all_true (b ∷ bs) = b && all_true bs

-- the movs of a tree whose root is a mov, by the number of its spots
abbrev pub tree_count : ℕ → ℕ
tree_count zero = 0
tree_count (suc zero) = 1
tree_count (suc (suc k)) = suc k

-- the movs of a form with one target, by the number of its spots
abbrev pub one_count : ℕ → ℕ
one_count zero = 0
one_count (suc zero) = 0
one_count (suc (suc k)) = suc k

-- the movs of a form with two targets, by the number of its spots
abbrev pub two_count : ℕ → ℕ
two_count zero = 0
two_count (suc zero) = 0
two_count (suc (suc k)) = k

-- the movs of a node of a form, by the number of its spots
abbrev pub form_count : Form → ℕ → ℕ
form_count General k = two_count k
form_count Immediate k = one_count k
form_count Load k = one_count k
form_count Constant k = one_count k
form_count Store k = 0
form_count Branch k = 0

-- the movs of a read, by whether all its spots are operands and by their number
abbrev pub read_count : Bool → ℕ → ℕ
read_count true k = two_count k
read_count false k = tree_count k

-- the nodes from number j on and their movs
abbrev pub nodes_count : FlowBlock → ℕ → List FlowNode → ℕ
nodes_count f j [] = 0
nodes_count f j (n ∷ ns) = 1 + form_count (form_of n.op) (length (kinds (Node j) f))
    + nodes_count f (suc j) ns

-- the movs of some reads
abbrev pub reads_count : FlowBlock → List ℕ → ℕ
reads_count f [] = 0
reads_count f (r ∷ rs) = read_count (all_true (kinds (Read r) f)) (length (kinds (Read r) f))
    + reads_count f rs
