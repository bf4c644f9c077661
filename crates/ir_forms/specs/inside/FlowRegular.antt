-- Flow blocks that can be given targets: what holds besides that they fit.
use Rattle.std.specs.Prelude.{◌≡◌, ◌≢◌, ℕ, ◌<◌, Bool, true, false, ◌==◌, ◌||◌, List, [], ◌∷◌, Option}
use Rattle.std.specs.Prelude.{Some, None, All, slice_get}
use Rattle.trips_isa.specs.declared.form.Form.{Form}
use Rattle.trips_isa.specs.declared.form.Form.TheVariants.{Load, Store, Branch}
use Rattle.trips_isa.specs.declared.block.Sense.TheVariants.{Always}
use Rattle.trips_isa.specs.Forms.{form_of, role_of, takes_left, takes_right}
use Rattle.ir_forms.specs.declared.flow.FlowSource.{FlowSource}
use Rattle.ir_forms.specs.declared.flow.FlowSource.TheVariants.{Read, Node}
use Rattle.ir_forms.specs.declared.flow.Guard.{Guard}
use Rattle.ir_forms.specs.declared.flow.FlowNode.{FlowNode}
use Rattle.ir_forms.specs.declared.flow.FlowWrite.{FlowWrite}
use Rattle.ir_forms.specs.declared.flow.FlowBlock.{FlowBlock}
use Rattle.ir_forms.specs.inside.FlowFits.{in_mask}

-- USES

-- whether two sources are the same read or the same node
abbrev pub same_source : FlowSource → FlowSource → Bool
same_source (Read a) (Read b) = a == b
same_source (Read a) (Node k) = false
same_source (Node j) (Read b) = false
same_source (Node j) (Node k) = j == k

-- whether a source is among some
abbrev pub is_among : FlowSource → List FlowSource → Bool
is_among s [] = false
is_among s (x ∷ rest) = same_source s x || is_among s rest

-- whether a guard names the source
abbrev pub guards_by : FlowSource → Option Guard → Bool
guards_by s None = false
guards_by s (Some g) = same_source s (Node g.node)

-- whether an operand or a guard of some nodes names the source
abbrev pub nodes_name : FlowSource → List FlowNode → Bool
nodes_name s [] = false
nodes_name s (n ∷ rest) =
    is_among s n.left || (is_among s n.right || (guards_by s n.guard || nodes_name s rest))

-- whether one of some writes names the source
abbrev pub writes_name : FlowSource → List FlowWrite → Bool
writes_name s [] = false
writes_name s (w ∷ rest) = is_among s w.sources || writes_name s rest

-- whether anything in the block names the source
abbrev pub is_named : FlowBlock → FlowSource → Bool
is_named b s = nodes_name s b.nodes || writes_name s b.writes

-- FORMS

-- an operand that the role does not take has no source
pub record TakesOnly (n : FlowNode) : Type 0 where
  pub left : takes_left (role_of n.op) ≡ false → n.left ≡ []
  pub right : takes_right (role_of n.op) ≡ false → n.right ≡ []

-- a store or a branch, which hands no token on
abbrev pub is_silent : Form → Bool
is_silent Store = true
is_silent Branch = true
is_silent _ = false

-- a block whose registers, numbers and reads are told apart
pub record IsRegular (b : FlowBlock) : Type 0 where
  -- different registers are written
  pub registers : (i j : ℕ) (v w : FlowWrite) → slice_get b.writes i ≡ Some v
      → slice_get b.writes j ≡ Some w → v.register ≡ w.register → i ≡ j
  -- loads have different numbers, which are outside the mask
  pub loads : (i j : ℕ) (m n : FlowNode) → slice_get b.nodes i ≡ Some m
      → slice_get b.nodes j ≡ Some n → form_of m.op ≡ Load → form_of n.op ≡ Load
      → m.number ≡ n.number → i ≡ j
  pub unmasked : (j : ℕ) (n : FlowNode) → slice_get b.nodes j ≡ Some n → form_of n.op ≡ Load
      → in_mask b.mask n.number ≡ false
  -- stores have numbers of the mask
  pub masked : (j : ℕ) (n : FlowNode) → slice_get b.nodes j ≡ Some n → form_of n.op ≡ Store
      → in_mask b.mask n.number ≡ true
  -- sources stand only at operands that a node's role takes
  pub operands : (j : ℕ) (n : FlowNode) → slice_get b.nodes j ≡ Some n → TakesOnly n
  -- a guard has a sense
  pub guards : (j : ℕ) (n : FlowNode) (g : Guard) → slice_get b.nodes j ≡ Some n → n.guard ≡ Some g
      → g.sense ≢ Always
  -- each register that is read stands once in the list, and something takes its word
  pub low : All (λ r. r < 128) b.reads
  pub reads : (i j r : ℕ) → slice_get b.reads i ≡ Some r → slice_get b.reads j ≡ Some r → i ≡ j
  pub used : (i r : ℕ) → slice_get b.reads i ≡ Some r → is_named b (Read r) ≡ true
  -- nothing takes a token of a store or a branch
  pub silent : (j : ℕ) (n : FlowNode) → slice_get b.nodes j ≡ Some n
      → is_silent (form_of n.op) ≡ true → is_named b (Node j) ≡ false
