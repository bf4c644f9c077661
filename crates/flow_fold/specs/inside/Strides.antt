-- A step of the pass *stride*: a node that gives what another gives and a small number more adds it to what the other
-- gives, so that the turns of a loop over an array come to one address.
use Rattle.std.specs.Prelude.{◌≡◌, ◌≢◌, ℕ, ℤ, pos, ◌*ℤ◌, true, List, [], ◌∷◌, Some, slice_get}
use Rattle.trips_isa.specs.declared.op.Op.{Op}
use Rattle.trips_isa.specs.declared.op.Op.TheVariants.{Add, Addi, Slli, Muli}
use Rattle.ir_forms.specs.declared.flow.FlowSource.TheVariants.{Node}
use Rattle.ir_forms.specs.declared.flow.FlowNode.{FlowNode}
use Rattle.ir_forms.specs.declared.flow.FlowBlock.{FlowBlock}
use Rattle.flow_fold.specs.inside.Copies.{covers}
use Rattle.flow_fold.specs.inside.Folds.{with_node}
use Rattle.flow_fold.specs.inside.Immediates.{is_small}
use Rattle.flow_fold.specs.inside.Offsets.{if_small}
use Rattle.flow_fold.specs.inside.Sums.{adds}

-- an operation with immediate i multiplies by w
pub data Times (o : Op) (i w : ℤ) : Type 0 where
  -- a shift by one place
  by_2 : o ≡ Slli → i ≡ pos 1 → w ≡ pos 2 → Times o i w
  -- by two
  by_4 : o ≡ Slli → i ≡ pos 2 → w ≡ pos 4 → Times o i w
  -- by three
  by_8 : o ≡ Slli → i ≡ pos 3 → w ≡ pos 8 → Times o i w
  -- a multiplication by a small number that is not below 0
  by_itself : (k : ℕ) → o ≡ Muli → i ≡ pos k → is_small i ≡ true → w ≡ i → Times o i w

-- a multiple that node n makes is b more where node c adds a small number to what is multiplied
pub data Multiple (nodes : List FlowNode) (c n : FlowNode) (b : ℤ) : Type 0 where
  -- the number that is added, times that which multiplies
  multiple : (d w : ℤ) → adds nodes c c.op ≡ Some d → Times n.op n.imm w → if_small d w (d *ℤ w) ≡ Some b
      → Multiple nodes c n b

-- node n gives what node a gives and b more, where node k, which is c, stands at an operand of n and adds a small
-- number to what stands there in a
pub data Ahead (nodes : List FlowNode) (k : ℕ) (c a n : FlowNode) (b : ℤ) : Type 0 where
  -- both multiply by one number
  scaled : n.left ≡ Node k ∷ [] → a.left ≡ c.left → a.right ≡ n.right → a.op ≡ n.op → a.imm ≡ n.imm
      → Multiple nodes c n b → Ahead nodes k c a n b
  -- both add something else, at the right
  at_left : n.left ≡ Node k ∷ [] → a.left ≡ c.left → a.right ≡ n.right → a.op ≡ Add → n.op ≡ Add
      → adds nodes c c.op ≡ Some b → Ahead nodes k c a n b
  -- or at the left
  at_right : n.right ≡ Node k ∷ [] → a.right ≡ c.left → a.left ≡ n.left → a.op ≡ Add → n.op ≡ Add
      → adds nodes c c.op ≡ Some b → Ahead nodes k c a n b

-- a node that adds b to what node i gives, wherever node n fires
abbrev pub sum_on : ℕ → FlowNode → ℤ → FlowNode
sum_on i n b = record n { op = Addi; imm = b; number = 0; left = Node i ∷ []; right = [] }

-- g is f with one node the sum of what another gives and a small number; that node, and the one between them, fire
-- wherever it does
pub record Strides (f g : FlowBlock) : Type 0 where
  -- the node that becomes the sum, at its place
  pub place : ℕ
  pub node : FlowNode
  pub there : slice_get f.nodes place ≡ Some node
  -- the one whose token it takes then, at another
  pub other : ℕ
  pub base : FlowNode
  pub standing : slice_get f.nodes other ≡ Some base
  pub apart : other ≢ place
  -- it gives one wherever the sum is wanted
  pub base_guard : covers base.guard node.guard ≡ true
  -- the one between them, which adds the number
  pub middle : ℕ
  pub step : FlowNode
  pub between : slice_get f.nodes middle ≡ Some step
  pub aside : middle ≢ place
  pub step_guard : covers step.guard node.guard ≡ true
  -- and what it comes to
  pub number : ℤ
  pub ahead : Ahead f.nodes middle step base node number
  -- nothing else changes
  pub becomes : g ≡ with_node f place (sum_on other node number)
