-- A step of the pass *fold*: one node of a block becomes another, which does the same with fewer tokens.
use Rattle.std.specs.Prelude.{◌≡◌, ℕ, ℤ, Bool, true, List, [], Some, slice_get, slice_set}
use Rattle.trips_isa.specs.declared.op.Op.{Op}
use Rattle.ir_forms.specs.declared.flow.FlowSource.{FlowSource}
use Rattle.ir_forms.specs.declared.flow.FlowNode.{FlowNode}
use Rattle.ir_forms.specs.declared.flow.FlowBlock.{FlowBlock}
use Rattle.trips_isa.specs.Forms.{form_of}
use Rattle.ir_forms.specs.declared.flow.Guard.{Guard}
use Rattle.flow_fold.specs.inside.Computed.{computed}
use Rattle.flow_fold.specs.inside.Copies.{copied, guard_copied}
use Rattle.flow_fold.specs.inside.Draws.{all_behind}
use Rattle.flow_fold.specs.inside.Immediates.{immediate_of, small_of}
use Rattle.flow_fold.specs.inside.Mirrors.{mirror_of, mirrored}
use Rattle.flow_fold.specs.inside.Offsets.{offset_of}
use Rattle.flow_fold.specs.inside.Opposites.{opposed}
use Rattle.flow_fold.specs.inside.Sums.{added}
use Rattle.flow_fold.specs.inside.Tests.{tells_bit, as_copy}
use Rattle.flow_fold.specs.inside.Negatives.{is_negative, as_negative}
use Rattle.flow_fold.specs.inside.Waits.{may_free, without_guard}

-- a node whose right operand is the immediate of its new operation
abbrev pub with_constant : FlowNode → Op → ℤ → FlowNode
with_constant n o i = record n { op = o; imm = i; right = [] }

-- a node with another left operand
abbrev pub with_left : FlowNode → List FlowSource → FlowNode
with_left n ss = record n { left = ss }

-- a node with another right operand
abbrev pub with_right : FlowNode → List FlowSource → FlowNode
with_right n ss = record n { right = ss }

-- a node with another guard
abbrev pub with_guard : FlowNode → Guard → FlowNode
with_guard n g = record n { guard = Some g }

-- the rules by which node j becomes another, among the nodes of its block
pub data Turns (nodes : List FlowNode) (j : ℕ) (n m : FlowNode) : Type 0 where
  -- a small constant at the right moves into the immediate
  immediate : (i : ℤ) (o : Op) → small_of nodes n.right ≡ Some i → immediate_of n.op ≡ Some o
      → m ≡ with_constant n o i → Turns nodes j n m
  -- the operands stand the other way round
  mirror : (o : Op) → mirror_of n.op ≡ Some o → m ≡ mirrored n o → Turns nodes j n m
  -- what a copy at the left copies is taken itself
  left_copy : (ss : List FlowSource) → copied nodes j n.guard n.left ≡ Some ss → m ≡ with_left n ss
      → Turns nodes j n m
  -- what a copy at the right copies is taken itself
  right_copy : (ss : List FlowSource) → copied nodes j n.guard n.right ≡ Some ss → m ≡ with_right n ss
      → Turns nodes j n m
  -- what stands behind the sources at the left is taken itself, and so at the right
  left_behind : (marks : List Bool) → m ≡ with_left n (all_behind nodes marks j n.left) → Turns nodes j n m
  right_behind : (marks : List Bool) → m ≡ with_right n (all_behind nodes marks j n.right) → Turns nodes j n m
  -- what the node of the guard copies is the node of the guard
  guard_copy : (g : Guard) → guard_copied nodes j n.guard ≡ Some g → m ≡ with_guard n g → Turns nodes j n m
  -- what a load's or a store's address adds goes into its offset
  offset : offset_of nodes j n (form_of n.op) ≡ Some m → Turns nodes j n m
  -- what is added to a sum is added at once
  sum : added nodes j n n.left ≡ Some m → Turns nodes j n m
  -- whether a word that is 0 or 1 is not 0 is the word itself
  told : tells_bit nodes j n ≡ true → m ≡ as_copy n → Turns nodes j n m
  -- whether a test does not hold is the opposite test
  opposite : opposed nodes j n ≡ Some m → Turns nodes j n m
  -- what is computed of constants alone is a constant
  compute : computed nodes n ≡ Some m → Turns nodes j n m
  -- a constant whose upper 48 bits are ones is that of one `gens`
  negative : is_negative nodes j n ≡ true → m ≡ as_negative n → Turns nodes j n m
  -- what waits for a token that comes only where its guard is met needs no guard
  freed : may_free nodes j n n.guard ≡ true → m ≡ without_guard n → Turns nodes j n m

-- a block with another node at a place
abbrev pub with_node : FlowBlock → ℕ → FlowNode → FlowBlock
with_node f j m = record f { nodes = slice_set f.nodes j m }

-- g is f with one node turned
pub record Folds (f g : FlowBlock) : Type 0 where
  pub place : ℕ
  pub old : FlowNode
  pub new : FlowNode
  pub there : slice_get f.nodes place ≡ Some old
  pub turns : Turns f.nodes place old new
  pub becomes : g ≡ with_node f place new
