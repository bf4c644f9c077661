-- Tests that tell whether another does not hold, and tests of a test against 0 that are such.
use Rattle.std.specs.Prelude.{ℕ, nat_eq, Bool, true, false, ◌&&◌, ◌||◌, cond, List, [], ◌∷◌, Option, Some, None}
use Rattle.std.specs.Prelude.{slice_get}
use Rattle.trips_isa.specs.declared.op.Op.{Op}
use Rattle.trips_isa.specs.declared.op.Op.TheVariants as op
use Rattle.trips_isa.specs.declared.form.Form.{Form}
use Rattle.trips_isa.specs.declared.form.Form.TheVariants.{General}
use Rattle.trips_isa.specs.Forms.{form_of}
use Rattle.ir_forms.specs.declared.flow.FlowSource.{FlowSource}
use Rattle.ir_forms.specs.declared.flow.FlowSource.TheVariants.{Read, Node}
use Rattle.ir_forms.specs.declared.flow.FlowNode.{FlowNode}
use Rattle.flow_fold.specs.inside.Copies.{covers}
use Rattle.flow_fold.specs.inside.Immediates.{is_small}
use Rattle.flow_fold.specs.inside.Tests.{is_zero}

-- the test that holds where another does not
abbrev pub opposite_of : Op → Option Op
opposite_of op.Teq = Some op.Tne
opposite_of op.Tne = Some op.Teq
opposite_of op.Tlt = Some op.Tge
opposite_of op.Tle = Some op.Tgt
opposite_of op.Tgt = Some op.Tle
opposite_of op.Tge = Some op.Tlt
opposite_of op.Tltu = Some op.Tgeu
opposite_of op.Tleu = Some op.Tgtu
opposite_of op.Tgtu = Some op.Tleu
opposite_of op.Tgeu = Some op.Tltu
opposite_of op.Teqi = Some op.Tnei
opposite_of op.Tnei = Some op.Teqi
opposite_of op.Tlti = Some op.Tgei
opposite_of op.Tlei = Some op.Tgti
opposite_of op.Tgti = Some op.Tlei
opposite_of op.Tgei = Some op.Tlti
opposite_of op.Tltui = Some op.Tgeui
opposite_of op.Tleui = Some op.Tgtui
opposite_of op.Tgtui = Some op.Tleui
opposite_of op.Tgeui = Some op.Tltui
opposite_of _ = None

-- whether an operation tells whether its operand is its immediate
abbrev pub is_teqi : Op → Bool
is_teqi op.Teqi = true
is_teqi _ = false

-- whether a form takes its right operand from a node
abbrev pub is_general : Form → Bool
is_general General = true
is_general _ = false

-- whether there is no source
abbrev pub is_empty : List FlowSource → Bool
is_empty [] = true
is_empty (s ∷ rest) = false

-- whether another operation may take the operands of a node: its immediate is no label, and nothing stands at its
-- right but what its form takes
abbrev pub hands_on : FlowNode → Bool
hands_on c = is_small c.imm && (is_general (form_of c.op) || is_empty c.right)

-- a node that tests the other way what another tests
abbrev pub with_opposite : FlowNode → FlowNode → Op → FlowNode
with_opposite n c o = record n { op = o; imm = c.imm; left = c.left; right = c.right }

-- the same, where there is such a test
abbrev pub with_some : FlowNode → FlowNode → Option Op → Option FlowNode
with_some n c None = None
with_some n c (Some o) = Some (with_opposite n c o)

-- the same of a node c that fires wherever the node does
abbrev pub opposed_by : FlowNode → FlowNode → Option FlowNode
opposed_by n c = cond (covers c.guard n.guard && hands_on c) (with_some n c (opposite_of c.op)) None

-- the same of a node that there is
abbrev pub opposed_at : FlowNode → Option FlowNode → Option FlowNode
opposed_at n None = None
opposed_at n (Some c) = opposed_by n c

-- the same of what some sources are alone, which is another node than node j
abbrev pub opposed_in : List FlowNode → ℕ → FlowNode → List FlowSource → Option FlowNode
opposed_in nodes j n [] = None
opposed_in nodes j n (Read r ∷ rest) = None
opposed_in nodes j n (Node k ∷ []) = cond (nat_eq k j) None (opposed_at n (slice_get nodes k))
opposed_in nodes j n (Node k ∷ (s ∷ rest)) = None

-- node j, which tells whether a test does not hold, as the opposite test
abbrev pub opposed : List FlowNode → ℕ → FlowNode → Option FlowNode
opposed nodes j n = cond (is_teqi n.op && (is_zero n.imm && is_empty n.right)) (opposed_in nodes j n n.left) None
