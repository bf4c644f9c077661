-- Nodes that need no guard, since they wait for a token that comes only where the guard is met.
use Rattle.std.specs.Prelude.{ℕ, nat_eq, Bool, true, false, ◌&&◌, ◌||◌, not, List, [], ◌∷◌, Option, Some, None}
use Rattle.std.specs.Prelude.{slice_get}
use Rattle.trips_isa.specs.declared.form.Form.{Form}
use Rattle.trips_isa.specs.declared.form.Form.TheVariants.{Branch}
use Rattle.trips_isa.specs.Forms.{form_of, role_of, takes_left, takes_right}
use Rattle.ir_forms.specs.declared.flow.FlowSource.{FlowSource}
use Rattle.ir_forms.specs.declared.flow.FlowSource.TheVariants.{Read, Node}
use Rattle.ir_forms.specs.declared.flow.Guard.{Guard}
use Rattle.ir_forms.specs.declared.flow.FlowNode.{FlowNode}
use Rattle.flow_fold.specs.inside.Copies.{covers}

-- whether a guard is another
abbrev pub is_under : Option Guard → Guard → Bool
is_under None g = false
is_under (Some a) g = covers (Some a) (Some g)

-- whether a node takes an operand all of whose sources wait
abbrev pub operands_wait : (List FlowSource → Bool) → FlowNode → Bool
operands_wait wait n =
    (takes_left (role_of n.op) && wait n.left) || (takes_right (role_of n.op) && wait n.right)

-- whether a node gives no token where a guard is not met: it has this guard, or takes an operand that waits
abbrev pub node_waits : (List FlowSource → Bool) → Guard → FlowNode → Bool
node_waits wait g n = is_under n.guard g || operands_wait wait n

-- whether a node that there is does
abbrev pub waits_at : (List FlowSource → Bool) → Guard → Option FlowNode → Bool
waits_at wait g None = false
waits_at wait g (Some n) = node_waits wait g n

-- whether a source is a node other than node j that does
abbrev pub source_waits : (List FlowSource → Bool) → List FlowNode → ℕ → Guard → FlowSource → Bool
source_waits wait nodes j g (Read r) = false
source_waits wait nodes j g (Node k) = not (nat_eq k j) && waits_at wait g (slice_get nodes k)

-- whether all sources are such
abbrev pub all_wait : (List FlowSource → Bool) → List FlowNode → ℕ → Guard → List FlowSource → Bool
all_wait wait nodes j g [] = true
all_wait wait nodes j g (s ∷ rest) = source_waits wait nodes j g s && all_wait wait nodes j g rest

-- operands that are not looked at
abbrev pub none_wait : List FlowSource → Bool
none_wait ss = false

-- whether sources have a guard themselves
abbrev pub wait_once : List FlowNode → ℕ → Guard → List FlowSource → Bool
wait_once nodes j g ss = all_wait none_wait nodes j g ss

-- or take such
abbrev pub wait_twice : List FlowNode → ℕ → Guard → List FlowSource → Bool
wait_twice nodes j g ss = all_wait (wait_once nodes j g) nodes j g ss

-- or take what takes such
abbrev pub wait_thrice : List FlowNode → ℕ → Guard → List FlowSource → Bool
wait_thrice nodes j g ss = all_wait (wait_twice nodes j g) nodes j g ss

-- whether a form is that of branches
abbrev pub is_exit : Form → Bool
is_exit Branch = true
is_exit _ = false

-- whether node j, which has a guard, needs none
abbrev pub may_free : List FlowNode → ℕ → FlowNode → Option Guard → Bool
may_free nodes j n None = false
may_free nodes j n (Some g) = not (is_exit (form_of n.op)) && operands_wait (wait_thrice nodes j g) n

-- a node without its guard
abbrev pub without_guard : FlowNode → FlowNode
without_guard n = record n { guard = None }
