-- A cheap test that some source of a list is there on every path that meets a guard. It may answer
-- false where one is; then more nodes are added.
use Rattle.std.specs.Prelude.{ℕ, zero, suc, Bool, true, false, not, cond, nat_eq, ◌&&◌, ◌||◌, List}
use Rattle.std.specs.Prelude.{[], ◌∷◌, ◌++◌, length, get_or, Option, Some, None, slice_get}
use Rattle.trips_isa.specs.declared.block.Sense.{Sense}
use Rattle.trips_isa.specs.declared.block.Sense.TheVariants.{Always, OnTrue, OnFalse}
use Rattle.ir_forms.specs.declared.flow.FlowSource.{FlowSource}
use Rattle.ir_forms.specs.declared.flow.FlowSource.TheVariants.{Read, Node}
use Rattle.ir_forms.specs.declared.flow.Guard.{Guard}
use Rattle.ir_forms.specs.declared.flow.FlowNode.{FlowNode}
use Rattle.ir_forms.specs.declared.flow.FlowBlock.{FlowBlock}
use Rattle.null_outputs.specs.inside.Covers.{guard_on, Sure, left_open, right_open}

-- a condition under which something is surely there: where this guard is met, or always
abbrev pub Scope : Type 0
Scope = Option Guard

-- which nodes are firm: they give a token wherever their guard is met
abbrev pub Firm : Type 0
Firm = ℕ → Bool

-- whether two senses are one
abbrev pub same_sense : Sense → Sense → Bool
same_sense Always Always = true
same_sense OnTrue OnTrue = true
same_sense OnFalse OnFalse = true
same_sense _ _ = false

-- whether two scopes are one
abbrev pub same_scope : Scope → Scope → Bool
same_scope None None = true
same_scope None (Some g) = false
same_scope (Some g) None = false
same_scope (Some g) (Some k) = nat_eq g.node k.node && same_sense g.sense k.sense

-- whether a scope is among some
abbrev pub has : List Scope → Scope → Bool
has [] g = false
has (s ∷ rest) g = same_scope s g || has rest g

-- the scopes where a source is surely there
abbrev pub scope_at : Bool → Option FlowNode → List Scope
scope_at true (Some n) = n.guard ∷ []
scope_at _ _ = []

-- a read is always there
abbrev pub scope_of : List FlowNode → Firm → FlowSource → List Scope
scope_of nodes firm (Read r) = None ∷ []
scope_of nodes firm (Node y) = scope_at (firm y) (slice_get nodes y)

-- the scopes of all sources of a list
abbrev pub scopes : List FlowNode → Firm → List FlowSource → List Scope
scopes nodes firm [] = []
scopes nodes firm (s ∷ rest) = scope_of nodes firm s ++ scopes nodes firm rest

-- both senses of a firm node make up its own scope
abbrev pub split : Firm → ℕ → FlowNode → List Scope → List Scope
split firm j n s =
    cond (firm j && (has s (Some (guard_on true j)) && has s (Some (guard_on false j))))
    (s ++ (n.guard ∷ [])) s

-- the scopes that both senses make up, from the last node to the first
abbrev pub close : Firm → ℕ → List FlowNode → List Scope → List Scope
close firm j [] s = s
close firm j (n ∷ rest) s = split firm j n (close firm (suc j) rest s)

-- whether a sense is met by every token
abbrev pub is_always : Sense → Bool
is_always Always = true
is_always _ = false

-- what holds of the guard of a node that exists
abbrev pub ask : (Scope → Bool) → Option FlowNode → Bool
ask f None = false
ask f (Some n) = f n.guard

-- a guard that is met is a node that fired, so its own guard is met
abbrev pub outer : (Scope → Bool) → List FlowNode → Scope → Bool
outer f nodes None = false
outer f nodes (Some g) = not (is_always g.sense) && ask f (slice_get nodes g.node)

-- whether a scope, or one of d around it, is among some
abbrev pub reaches : List FlowNode → List Scope → ℕ → Scope → Bool
reaches nodes s zero g = has s g
reaches nodes s (suc d) g = has s g || outer (reaches nodes s d) nodes g

-- whether a source that is there under these scopes is there where the guard is met
abbrev pub sure_in : List FlowNode → List Scope → Scope → Bool
sure_in nodes s g = has s None || reaches nodes s (length nodes) g

-- whether some source of a list is found to be there where the guard is met
abbrev pub sure_of : List FlowNode → Firm → Sure
sure_of nodes firm g ss = sure_in nodes (close firm 0 nodes (scopes nodes firm ss)) g

-- a node is firm where its operands are found to be there
abbrev pub is_firm : List FlowNode → Firm → FlowNode → Bool
is_firm nodes firm n =
    not (left_open (sure_of nodes firm) n) && not (right_open (sure_of nodes firm) n)

-- the nodes that were found to be firm, the first of the block's
abbrev pub firm_of : List Bool → Firm
firm_of found y = get_or found y false

-- in order of number, so that a node whose sources come before it is found firm where it is
abbrev pub firms_from : List FlowNode → List Bool → List FlowNode → List Bool
firms_from nodes found [] = found
firms_from nodes found (n ∷ rest) =
    firms_from nodes (found ++ (is_firm nodes (firm_of found) n ∷ [])) rest

-- of each node, whether it is found to be firm
abbrev pub firms : List FlowNode → List Bool
firms nodes = firms_from nodes [] nodes

-- what is found to be there in a block
abbrev pub sure_by : FlowBlock → Sure
sure_by b = sure_of b.nodes (firm_of (firms b.nodes))
