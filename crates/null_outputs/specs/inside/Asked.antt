-- What the code asks before it closes the scopes of a list, and behind which node no node has to be asked.
use Rattle.std.specs.Prelude.{ℕ, suc, Bool, false, cond, nat_lt, ◌||◌, List, [], ◌∷◌, Some, None}
use Rattle.ir_forms.specs.declared.flow.FlowSource.{FlowSource}
use Rattle.ir_forms.specs.declared.flow.FlowNode.{FlowNode}
use Rattle.null_outputs.specs.inside.Surely.{Scope, Firm, has, scope_of}

-- whether some scopes have one without a condition, or this one
abbrev pub meets : List Scope → Scope → Bool
meets s g = has s None || has s g

-- whether the scope of some source of a list is such a one
abbrev pub any_meets : List FlowNode → Firm → Scope → List FlowSource → Bool
any_meets nodes firm g [] = false
any_meets nodes firm g (s ∷ rest) = meets (scope_of nodes firm s) g || any_meets nodes firm g rest

-- the number behind the node of a scope
abbrev pub end_of : Scope → ℕ
end_of None = 0
end_of (Some g) = suc g.node

-- the higher of two numbers
abbrev pub higher : ℕ → ℕ → ℕ
higher a b = cond (nat_lt a b) b a

-- the number behind the highest node that a scope of some names
abbrev pub top_of : List Scope → ℕ
top_of [] = 0
top_of (s ∷ rest) = higher (top_of rest) (end_of s)
