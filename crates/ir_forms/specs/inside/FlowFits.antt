-- Beside what is believed of FlowFits.antt: flow blocks that the passes take.
use Rattle.std.specs.Prelude.{◌≡◌, ◌≢◌, ℕ, ◌+◌, ◌/◌, ◌%◌, ◌^◌, nat_lt, nat_eq, ◌<◌, ◌≤◌, ℤ, pos}
use Rattle.std.specs.Prelude.{Bool, true, false, ◌&&◌, not, cond, List, [], ◌∷◌, Option, Some, None}
use Rattle.std.specs.Prelude.{All, slice_get, length}
use Rattle.std.specs.List.{Contains}
use Rattle.trips_isa.specs.declared.op.Op.{Op}
use Rattle.trips_isa.specs.declared.op.Op.TheVariants.{Bro, Callo}
use Rattle.trips_isa.specs.declared.form.Form.{Form}
use Rattle.trips_isa.specs.declared.form.Form.TheVariants.{General, Immediate, Load, Store, Branch}
use Rattle.trips_isa.specs.declared.form.Form.TheVariants.{Constant}
use Rattle.trips_isa.specs.declared.block.Token.TheVariants.{Null}
use Rattle.trips_isa.specs.Forms.{form_of}
use Rattle.trips_isa.specs.Fits.{FitsSigned, FitsConstant}
use Rattle.trips_isa.specs.Rule.{Answer}
use Rattle.ir_forms.specs.declared.flow.FlowSource.{FlowSource}
use Rattle.ir_forms.specs.declared.flow.FlowSource.TheVariants.{Read, Node}
use Rattle.ir_forms.specs.declared.flow.Guard.{Guard}
use Rattle.ir_forms.specs.declared.flow.FlowNode.{FlowNode}
use Rattle.ir_forms.specs.declared.flow.FlowWrite.{FlowWrite}
use Rattle.ir_forms.specs.declared.flow.FlowBlock.{FlowBlock}
use Rattle.ir_forms.specs.inside.Limits.{label_count}
use Rattle.ir_forms.specs.inside.FlowRuns.{Computes, OnPath, count, tokens, exits, guard_token}
use Rattle.ir_forms.specs.FlowFits.{is_branch}

-- FIELDS

-- a label, or the offset that it becomes
abbrev pub FitsLabel : Op → ℤ → Type 0
FitsLabel Bro label = FitsSigned label_count label
FitsLabel Callo label = FitsSigned label_count label
FitsLabel op label = label ≡ pos 0

-- the fields of a node of a form are in their widths, and those that the form does not have are 0
abbrev pub FitsNodeForm : Form → FlowNode → Type 0
FitsNodeForm General n = (n.imm ≡ pos 0) × (n.number ≡ 0)
FitsNodeForm Immediate n = FitsSigned 256 n.imm × (n.number ≡ 0)
FitsNodeForm Load n = FitsSigned 256 n.imm × (n.number < 32)
FitsNodeForm Store n = FitsSigned 256 n.imm × (n.number < 32)
FitsNodeForm Branch n = FitsLabel n.op n.imm × (n.number < 8)
FitsNodeForm Constant n = FitsConstant n.op n.imm × (n.number ≡ 0) × (n.guard ≡ None)

-- a source is a register that the block reads, or one of its nodes
abbrev pub FitsFlowSource : FlowBlock → FlowSource → Type 0
FitsFlowSource b (Read r) = (r < 128) × Contains b.reads r
FitsFlowSource b (Node j) = j < length b.nodes

-- a guard names a node of the block
abbrev pub FitsGuard : FlowBlock → Option Guard → Type 0
FitsGuard b None = Unit {0}
FitsGuard b (Some g) = g.node < length b.nodes

-- a node of a block fits by its form, its guard and its sources
pub record FitsNode (b : FlowBlock) (n : FlowNode) : Type 0 where
  pub form : FitsNodeForm (form_of n.op) n
  pub guard : FitsGuard b n.guard
  pub left : All (FitsFlowSource b) n.left
  pub right : All (FitsFlowSource b) n.right

-- a write of a block names a register that there is, and sources of the block
pub record FitsWrite (b : FlowBlock) (w : FlowWrite) : Type 0 where
  pub register : w.register < 128
  pub sources : All (FitsFlowSource b) w.sources

-- whether the mask has a number
abbrev pub in_mask : ℕ → ℕ → Bool
in_mask mask k = nat_lt k 32 && nat_eq (mask / 2 ^ k % 2) 1

-- ORDER

-- a source that is a node has a rank below k
abbrev pub RisesFrom : (ℕ → ℕ) → ℕ → FlowSource → Type 0
RisesFrom rank k (Read r) = Unit {0}
RisesFrom rank k (Node j) = rank j < k

-- a guard has a rank below k
abbrev pub RisesFromGuard : (ℕ → ℕ) → ℕ → Option Guard → Type 0
RisesFromGuard rank k None = Unit {0}
RisesFromGuard rank k (Some g) = rank g.node < k

-- all that node n of rank k takes has a rank below k
pub record Rises (rank : ℕ → ℕ) (k : ℕ) (n : FlowNode) : Type 0 where
  pub left : All (RisesFrom rank k) n.left
  pub right : All (RisesFrom rank k) n.right
  pub guard : RisesFromGuard rank k n.guard

-- from a source to its node, and from a store to each load of a higher number, the rank rises
pub record HasOrder (b : FlowBlock) (rank : ℕ → ℕ) : Type 0 where
  pub sources : (j : ℕ) (n : FlowNode) → slice_get b.nodes j ≡ Some n → Rises rank (rank j) n
  pub stores : (i j : ℕ) (m n : FlowNode) → slice_get b.nodes i ≡ Some m → slice_get b.nodes j
      ≡ Some n
      → form_of m.op ≡ Store → form_of n.op ≡ Load → m.number < n.number → rank i < rank j

-- PATHS

-- each operand of a node gets at most one token
abbrev pub AtMostOne : (ℕ → ℕ) → (ℕ → Answer) → FlowNode → Type 0
AtMostOne regs h n = (count regs h n.left ≤ 1) × (count regs h n.right ≤ 1)

-- no null token meets a guard, and an operand gets at most one token
pub record IsTidy (regs : ℕ → ℕ) (h : ℕ → Answer) (b : FlowBlock) : Type 0 where
  pub clear : All (λ n. guard_token h n.guard ≢ Some Null) b.nodes
  pub operands : All (AtMostOne regs h) b.nodes

-- each write and each store number gets at most one token, and one exit is taken
pub record TakesAtMostOne (regs : ℕ → ℕ) (h : ℕ → Answer) (b : FlowBlock) : Type 0 where
  pub writes : All (λ w. count regs h w.sources ≤ 1) b.writes
  pub numbers : (k : ℕ) → tokens h 0 b.nodes k ≤ 1
  pub exits : length (exits h 0 b.nodes) ≡ 1

-- each write and each number of the mask gets exactly one, and no other number gets any
pub record TakesOne (regs : ℕ → ℕ) (h : ℕ → Answer) (b : FlowBlock) : Type 0 where
  pub writes : All (λ w. count regs h w.sources ≡ 1) b.writes
  pub numbers : (k : ℕ) → tokens h 0 b.nodes k ≡ cond (in_mask b.mask k) 1 0

-- THE TWO CONDITIONS

-- a block that the passes take
pub record FitsFlow (b : FlowBlock) : Type 0 where
  pub nodes : All (FitsNode b) b.nodes
  pub writes : All (FitsWrite b) b.writes
  pub mask : b.mask < 2 ^ 32
  -- nothing waits for itself
  pub order : (rank : ℕ → ℕ) × HasOrder b rank
  -- whatever words the nodes compute
  pub tidy : (regs : ℕ → ℕ) (f : Computes) (h : ℕ → Answer) → OnPath regs f h b → IsTidy regs h b
  -- and so has no output twice
  pub one : (regs : ℕ → ℕ) (f : Computes) (h : ℕ → Answer) → OnPath regs f h b
      → TakesAtMostOne regs h b

-- a block in which every output has its token on every path
pub record IsComplete (b : FlowBlock) : Type 0 where
  pub fits : FitsFlow b
  -- each write and each number of the mask has its token, whatever words the nodes compute
  pub all : (regs : ℕ → ℕ) (f : Computes) (h : ℕ → Answer) → OnPath regs f h b → TakesOne regs h b

-- whether there is a guard
abbrev pub has_guard : Option Guard → Bool
has_guard None = false
has_guard (Some g) = true

-- the guarded nodes other than branches
abbrev pub guarded_nodes : List FlowNode → ℕ
guarded_nodes [] = 0
guarded_nodes (n ∷ rest) =
    cond (has_guard n.guard && not (is_branch (form_of n.op))) 1 0 + guarded_nodes rest
