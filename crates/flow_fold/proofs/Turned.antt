-- What it takes for a node to stand for another at its place: in the block as it is written, and in its tables.
use Rattle.std.proofs.Common.{◌≡◌, ◌≢◌, ℕ, List, [], true, cond}
use Rattle.std.specs.Prelude.{Some, All, Option}
use Rattle.trips_isa.specs.declared.form.Form.TheVariants.{Load, Store}
use Rattle.trips_isa.specs.declared.block.Sense.TheVariants.{Always}
use Rattle.trips_isa.specs.declared.block.Token.TheVariants.{Null}
use Rattle.trips_isa.specs.Forms.{form_of}
use Rattle.trips_isa.specs.inside.Acts.{Act}
use Rattle.trips_isa.specs.Rule.{Answer}
use Rattle.ir_forms.specs.declared.flow.FlowSource.TheVariants.{Read, Node}
use Rattle.ir_forms.specs.declared.flow.Guard.{Guard}
use Rattle.ir_forms.specs.declared.flow.FlowNode.{FlowNode}
use Rattle.ir_forms.specs.declared.flow.FlowBlock.{FlowBlock}
use Rattle.ir_forms.specs.inside.FlowRuns.{Computes, OnPath, AtStart, gives, meant, stores, stored_in, met}
use Rattle.ir_forms.specs.inside.FlowRuns.{act_tokens, fired}
use Rattle.ir_forms.specs.inside.FlowRuns.{first, leaving_in, numbered, guard_token}
use Rattle.ir_forms.specs.inside.FlowFits.{FitsNode, HasOrder, Rises, AtMostOne, IsTidy}
use Rattle.ir_forms.specs.inside.FlowRegular.{TakesOnly, is_silent, nodes_name}
use Rattle.hyper_narrow.specs.inside.NarrowedMeaning.{SameActs}
use Rattle.flow_fold.specs.inside.Folds.{with_node}
use Rattle.flow_fold.specs.inside.Replaces.{Stands, names_label}
use Rattle.flow_fold.proofs.Names.{node_names}

-- a guard has a sense, where there is one
abbrev pub HasSense : Option Guard → Type 0
HasSense o = (g : Guard) → o ≡ Some g → g.sense ≢ Always

-- m may be written in the place of n, which is node j of f
pub record Written (f : FlowBlock) (j : ℕ) (n m : FlowNode) : Type 0 where
  pub fits : All (FitsNode f) f.nodes → FitsNode f n → FitsNode f m
  pub rises : (rank : ℕ → ℕ) → HasOrder f rank → Rises rank (rank j) m
  pub load : form_of m.op ≡ Load → (form_of n.op ≡ Load) × (m.number ≡ n.number)
  pub store : form_of m.op ≡ Store → (form_of n.op ≡ Store) × (m.number ≡ n.number)
  pub silent : is_silent (form_of m.op) ≡ true → is_silent (form_of n.op) ≡ true
  pub operands : TakesOnly n → TakesOnly m
  pub guards : HasSense n.guard → HasSense m.guard
  -- no register that is read is left untaken
  pub reads : (r : ℕ) → node_names (Read r) n ≡ true → node_names (Read r) m ≡ true
  -- and no node's token is taken that nothing took
  pub names : (y : ℕ) → node_names (Node y) m ≡ true → nodes_name (Node y) f.nodes ≡ true
  pub label : names_label m.op ≡ true → Stands f m

-- what a node does that can fault
abbrev pub acts_of : (ℕ → ℕ) → (ℕ → Answer) → FlowNode → List Act
acts_of regs h x =
    cond (met h x.guard) (act_tokens (form_of x.op) x (first regs h x.left) (first regs h x.right)) []

-- it stores and does the same in a table
pub record SameDeeds (regs : ℕ → ℕ) (h : ℕ → Answer) (n m : FlowNode) : Type 0 where
  pub stored : (k : ℕ) → stored_in (form_of m.op) regs h m k ≡ stored_in (form_of n.op) regs h n k
  pub acts : acts_of regs h m ≡ acts_of regs h n

-- its token does the same for the block's outputs
pub record SameOutputs (h : ℕ → Answer) (j : ℕ) (n m : FlowNode) : Type 0 where
  pub leaves : leaving_in (form_of m.op) m (h j) ≡ leaving_in (form_of n.op) n (h j)
  pub numbered : (k : ℕ) → numbered (form_of m.op) m (h j) k ≡ numbered (form_of n.op) n (h j) k

-- n gives the token that a table has of it, whatever it computes
pub record GivesSome (regs : ℕ → ℕ) (h : ℕ → Answer) (j : ℕ) (n : FlowNode) : Type 0 where
  pub computes : ℕ → ℕ → ℕ
  pub is : h j ≡ gives regs h computes n

-- no null token meets its guard, and an operand gets at most one token
pub record IsTidyNode (regs : ℕ → ℕ) (h : ℕ → Answer) (m : FlowNode) : Type 0 where
  pub clear : guard_token h m.guard ≢ Some Null
  pub operands : AtMostOne regs h m

-- m does in the place of n what n did
pub record Works (f : FlowBlock) (j : ℕ) (n m : FlowNode) : Type 0 where
  pub path : (regs : ℕ → ℕ) (c : Computes) (h : ℕ → Answer) → OnPath regs c h (with_node f j m)
      → GivesSome regs h j n
  pub tidy : (regs : ℕ → ℕ) (c : Computes) (h : ℕ → Answer) → OnPath regs c h (with_node f j m)
      → IsTidy regs h f → IsTidyNode regs h m
  pub outputs : (h : ℕ → Answer) → SameOutputs h j n m
  pub deeds : (regs : ℕ → ℕ) (mem : List ℕ) (h : ℕ → Answer) → AtStart regs mem h (with_node f j m)
      → SameDeeds regs h n m
  pub start : (regs : ℕ → ℕ) (mem : List ℕ) (h : ℕ → Answer) → AtStart regs mem h (with_node f j m)
      → h j ≡ gives regs h (meant (stores regs h (with_node f j m).nodes) mem j n) n

-- it stores the same in a table
abbrev pub SameStores : (ℕ → ℕ) → (ℕ → Answer) → FlowNode → FlowNode → Type 0
SameStores regs h n m = (k : ℕ) → stored_in (form_of m.op) regs h m k ≡ stored_in (form_of n.op) regs h n k

-- m does in the place of n what n did, but for what can fault, which the block does still
pub record Does (f : FlowBlock) (j : ℕ) (n m : FlowNode) : Type 0 where
  pub path : (regs : ℕ → ℕ) (c : Computes) (h : ℕ → Answer) → OnPath regs c h (with_node f j m)
      → GivesSome regs h j n
  pub tidy : (regs : ℕ → ℕ) (c : Computes) (h : ℕ → Answer) → OnPath regs c h (with_node f j m)
      → IsTidy regs h f → IsTidyNode regs h m
  pub outputs : (h : ℕ → Answer) → SameOutputs h j n m
  pub stored : (regs : ℕ → ℕ) (mem : List ℕ) (h : ℕ → Answer) → AtStart regs mem h (with_node f j m)
      → SameStores regs h n m
  pub acts : (regs : ℕ → ℕ) (mem : List ℕ) (h : ℕ → Answer) → AtStart regs mem h (with_node f j m)
      → SameActs (fired regs h (with_node f j m).nodes) (fired regs h f.nodes)
  pub start : (regs : ℕ → ℕ) (mem : List ℕ) (h : ℕ → Answer) → AtStart regs mem h (with_node f j m)
      → h j ≡ gives regs h (meant (stores regs h (with_node f j m).nodes) mem j n) n
