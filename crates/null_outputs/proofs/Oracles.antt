-- What the two guesses must meet: what is said to be there is there, and the covers that are wanted are closed.
use Rattle.std.specs.Prelude.{◌≡◌, ℕ, List, [], ◌∷◌, true, false, Some, None, slice_get}
use Rattle.trips_isa.specs.Rule.{Answer}
use Rattle.ir_forms.specs.declared.flow.FlowSource.{FlowSource}
use Rattle.ir_forms.specs.declared.flow.FlowSource.TheVariants.{Read, Node}
use Rattle.ir_forms.specs.declared.flow.Guard.{Guard}
use Rattle.ir_forms.specs.declared.flow.FlowWrite.{FlowWrite}
use Rattle.ir_forms.specs.declared.flow.FlowNode.{FlowNode}
use Rattle.ir_forms.specs.declared.flow.FlowBlock.{FlowBlock}
use Rattle.ir_forms.specs.inside.FlowRuns.{Computes, OnPath, met, first, present}
use Rattle.ir_forms.specs.inside.FlowFits.{TakesOne}
use Rattle.null_outputs.specs.inside.Covers.{Sure, Want, left_open, right_open}
use Rattle.null_outputs.specs.inside.Groups.{stores_of, number_open}

-- what is said to be there is there on every path
abbrev pub Trusty : Sure → FlowBlock → Type 0
Trusty sure b =
    (regs : ℕ → ℕ) (f : Computes) (h : ℕ → Answer) → OnPath regs f h b
    → (g : _) (ss : _) → sure g ss ≡ true → met h g ≡ true → present (first regs h ss) ≡ 1

-- each node among these is wanted
abbrev pub EachWanted : Want → List FlowSource → Type 0
EachWanted want [] = Unit {0}
EachWanted want (Read r ∷ ss) = EachWanted want ss
EachWanted want (Node j ∷ ss) = (want j ≡ true) × EachWanted want ss

-- what covers something is itself covered
pub record Closed (sure : Sure) (want : Want) (b : FlowBlock) : Type 0 where
  pub guards : (y : ℕ) (n : FlowNode) (g : Guard) → slice_get b.nodes y ≡ Some n → want y ≡ true
      → n.guard ≡ Some g → want g.node ≡ true
  pub left : (y : ℕ) (n : FlowNode) → slice_get b.nodes y ≡ Some n → want y ≡ true
      → left_open sure n ≡ true → EachWanted want n.left
  pub right : (y : ℕ) (n : FlowNode) → slice_get b.nodes y ≡ Some n → want y ≡ true
      → right_open sure n ≡ true → EachWanted want n.right
  pub writes : (j : ℕ) (w : FlowWrite) → slice_get b.writes j ≡ Some w
      → sure None w.sources ≡ false → EachWanted want w.sources
  pub numbers : (k : ℕ) → number_open sure b k ≡ true
      → EachWanted want (stores_of 0 b.nodes k)

-- on every path each write and each number of the mask gets exactly one token
abbrev pub AllTaken : FlowBlock → Type 0
AllTaken c = (regs : ℕ → ℕ) (f : Computes) (h : ℕ → Answer) → OnPath regs f h c → TakesOne regs h c
