-- What completing keeps, and what it gives.
use Rattle.std.specs.Prelude.{◌≡◌, ◌≤◌, ◌+◌, ◌*◌, length, ℕ, List, [], ◌∷◌, true, false, Some}
use Rattle.std.specs.Prelude.{None, slice_get}
use Rattle.trips_isa.specs.declared.form.Form.{Form}
use Rattle.trips_isa.specs.declared.form.Form.TheVariants.{Store}
use Rattle.trips_isa.specs.Forms.{form_of}
use Rattle.trips_isa.specs.Rule.{Answer}
use Rattle.ir_forms.specs.declared.flow.FlowSource.{FlowSource}
use Rattle.ir_forms.specs.declared.flow.FlowSource.TheVariants.{Node}
use Rattle.ir_forms.specs.declared.flow.FlowNode.{FlowNode}
use Rattle.ir_forms.specs.declared.flow.FlowBlock.{FlowBlock}
use Rattle.ir_forms.specs.inside.FlowRuns.{AtStart, written, stored_all, exits, fired}
use Rattle.ir_forms.specs.inside.FlowFits.{in_mask, FitsFlow, IsComplete}
use Rattle.ir_forms.specs.inside.FlowRegular.{IsRegular}
use Rattle.hyper_narrow.specs.inside.NarrowedCode.{Narrowed}
use Rattle.ir_forms.specs.inside.HyperRuns.{Layout}
use Rattle.hyper_narrow.specs.inside.NarrowedMeaning.{MeansNarrowed}
use Rattle.null_outputs.specs.inside.Covers.{guard_on}
use Rattle.null_outputs.specs.inside.Completed.{write_size}
use Rattle.null_outputs.specs.inside.Surely.{sure_by, Scope, Firm, has, scopes, sure_of}
use Rattle.null_outputs.specs.inside.Wants.{want_by, complete}
use Rattle.null_outputs.specs.inside.Straight.{IsStraight}
use Rattle.null_outputs.specs.inside.Sizes.{growth, AllFirm, sum_of, guards_used, numbers_size}

-- of a store, that its number is in the mask
abbrev pub MaskedIn : Form → FlowBlock → FlowNode → Type 0
MaskedIn Store b n = in_mask b.mask n.number ≡ true
MaskedIn _ b n = Unit {0}

-- each store's number is in the mask
abbrev pub EachMasked : FlowBlock → List FlowNode → Type 0
EachMasked b [] = Unit {0}
EachMasked b (n ∷ rest) = MaskedIn (form_of n.op) b n × EachMasked b rest

-- the table of the second block is a table of the first, and comes to the same
pub record KeepsAt (b c : FlowBlock) (regs : ℕ → ℕ) (mem : List ℕ) (h : ℕ → Answer) : Type 0 where
  -- the nodes that were there give the tokens that they gave
  pub start : AtStart regs mem h b
  pub registers : (r : ℕ) → written regs h c.writes r ≡ written regs h b.writes r
  -- a null store changes nothing
  pub memory : stored_all regs h c.nodes mem ≡ stored_all regs h b.nodes mem
  pub exit : exits h 0 c.nodes ≡ exits h 0 b.nodes
  -- no added node can fault
  pub acts : fired regs h c.nodes ≡ fired regs h b.nodes

-- from every start of the second block
abbrev pub Keeps : FlowBlock → FlowBlock → Type 0
Keeps b c = (regs : ℕ → ℕ) (mem : List ℕ) (h : ℕ → Answer) → AtStart regs mem h c
    → KeepsAt b c regs mem h

-- what is taken: a fitting block whose stores have numbers of the mask
pub record Takes (b : FlowBlock) : Type 0 where
  pub fits : FitsFlow b
  pub masked : EachMasked b b.nodes

-- each write and each number of the mask gets exactly one token on every path, and all that a flow
-- block must meet holds: an order, no null at a guard, one exit
abbrev pub CompletesBlocks : Type 0
CompletesBlocks = (b : FlowBlock) → Takes b → IsComplete (complete b)

-- the same registers, memory, exit and acts from every start
abbrev pub KeepsTables : Type 0
KeepsTables = (b : FlowBlock) → Takes b → Keeps b (complete b)

-- so it means what any narrowed block means that the block meant
abbrev pub KeepsBlockMeaning : Type 0
KeepsBlockMeaning = (at : Layout) (x : Narrowed) (b : FlowBlock) → Takes b → MeansNarrowed at x b
    → MeansNarrowed at x (complete b)

-- how many nodes a completed block has
abbrev pub CountsNodes : Type 0
CountsNodes = (b : FlowBlock) → length (complete b).nodes
    ≡ length b.nodes + growth (sure_by b) (want_by b) b

-- where all nodes are firm: at most two for each guard of a wanted node, beside what joins the
-- sources of writes and stores
abbrev pub GrowsLittle : Type 0
GrowsLittle = (b : FlowBlock) → AllFirm (sure_by b) b
    → growth (sure_by b) (want_by b) b
    ≤ 2 * (sum_of (guards_used (want_by b) b.nodes true) 0 b.nodes
    + sum_of (guards_used (want_by b) b.nodes false) 0 b.nodes)
    + (sum_of (write_size (sure_by b) (want_by b) b) 0 b.writes
    + numbers_size (sure_by b) (want_by b) b 0 32)

-- what the next pass wants besides stays: registers, reads, numbers, operands and guards, and that nothing
-- takes a token of a store or a branch
abbrev pub KeepsRegular : Type 0
KeepsRegular = (b : FlowBlock) → FitsFlow b → IsRegular b → IsRegular (complete b)

-- where the outputs hang on nodes that are not guarded, nothing is added
abbrev pub KeepsStraight : Type 0
KeepsStraight = (b : FlowBlock) → IsStraight b → complete b ≡ b

-- A list is found sure where one of its scopes is the guard's,
abbrev pub RecognisesScope : Type 0
RecognisesScope = (nodes : List FlowNode) (firm : Firm) (g : Scope) (ss : List FlowSource)
    → has (scopes nodes firm ss) g ≡ true → sure_of nodes firm g ss ≡ true

-- or has no condition, as a read's,
abbrev pub RecognisesAlways : Type 0
RecognisesAlways = (nodes : List FlowNode) (firm : Firm) (g : Scope) (ss : List FlowSource)
    → has (scopes nodes firm ss) None ≡ true → sure_of nodes firm g ss ≡ true

-- or where it has both senses of a firm node whose scope is the guard's
abbrev pub RecognisesBoth : Type 0
RecognisesBoth =
    (nodes : List FlowNode) (firm : Firm) (x : ℕ) (n : FlowNode) (ss : List FlowSource)
    → slice_get nodes x ≡ Some n → firm x ≡ true
    → has (scopes nodes firm ss) (Some (guard_on true x)) ≡ true
    → has (scopes nodes firm ss) (Some (guard_on false x)) ≡ true
    → sure_of nodes firm n.guard ss ≡ true

-- a firm node gives its guard
abbrev pub HasScope : Type 0
HasScope = (nodes : List FlowNode) (firm : Firm) (y : ℕ) (n : FlowNode) (ss : List FlowSource)
    → slice_get nodes y ≡ Some n → firm y ≡ true
    → has (scopes nodes firm (Node y ∷ ss)) n.guard ≡ true

-- what the test of sureness surely finds
pub record Recognises : Type 0 where
  -- a list with a source under the guard itself
  pub scope : RecognisesScope
  -- a list with a source that is never absent
  pub always : RecognisesAlways
  -- a list with a source under each sense of a firm node
  pub both : RecognisesBoth
  -- under its own guard, where it is firm
  pub node : HasScope
