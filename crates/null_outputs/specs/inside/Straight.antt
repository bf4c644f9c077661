-- Blocks whose outputs hang on nodes that are not guarded and cannot be absent.
use Rattle.std.specs.Prelude.{◌≡◌, ℕ, ◌<◌, ◌≤◌, true, List, [], ◌∷◌, Some, None, slice_get, length}
use Rattle.trips_isa.specs.Forms.{role_of, takes_left, takes_right}
use Rattle.ir_forms.specs.declared.flow.FlowSource.{FlowSource}
use Rattle.ir_forms.specs.declared.flow.FlowSource.TheVariants.{Read, Node}
use Rattle.ir_forms.specs.declared.flow.FlowNode.{FlowNode}
use Rattle.ir_forms.specs.declared.flow.FlowWrite.{FlowWrite}
use Rattle.ir_forms.specs.declared.flow.FlowBlock.{FlowBlock}
use Rattle.ir_forms.specs.inside.FlowFits.{in_mask}
use Rattle.null_outputs.specs.inside.Groups.{stores_of}

-- a source that stands before node y
abbrev pub IsBefore : ℕ → FlowSource → Type 0
IsBefore y (Read r) = Unit {0}
IsBefore y (Node j) = j < y

-- a list has a source, and the first stands before node y
abbrev pub IsFed : ℕ → List FlowSource → Type 0
IsFed y [] = ⊥
IsFed y (s ∷ ss) = IsBefore y s

-- The first nodes of the block are not guarded, each operand of theirs has a source that stands before
-- it, and each write and number of the mask has one among them; the nodes behind may be guarded.
pub record IsStraight (b : FlowBlock) : Type 0 where
  -- how many these are
  pub front : ℕ
  pub within : front ≤ length b.nodes
  pub guards : (y : ℕ) (n : FlowNode) → y < front → slice_get b.nodes y ≡ Some n → n.guard ≡ None
  pub left : (y : ℕ) (n : FlowNode) → y < front → slice_get b.nodes y ≡ Some n
      → takes_left (role_of n.op) ≡ true → IsFed y n.left
  pub right : (y : ℕ) (n : FlowNode) → y < front → slice_get b.nodes y ≡ Some n
      → takes_right (role_of n.op) ≡ true → IsFed y n.right
  -- its first source is a read, or one of these nodes
  pub writes : (j : ℕ) (w : FlowWrite) → slice_get b.writes j ≡ Some w → IsFed front w.sources
  -- its first store is one of them
  pub numbers : (k : ℕ) → in_mask b.mask k ≡ true → IsFed front (stores_of 0 b.nodes k)
