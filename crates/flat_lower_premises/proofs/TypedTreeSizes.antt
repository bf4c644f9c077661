-- What a pass through a typed tree costs, and how many nodes the tree has, by its levels: both are read off
-- the plain tree.
use Rattle.std.proofs.Common.{◌≡◌, ℕ, ◌+◌, ◌≤◌, max, List, [], ◌∷◌, ◌++◌, map, Option, Some, sym, ap}
use Rattle.std.proofs.Common.{◌∙◌, cond, Bool, true, false, arith}
use Rattle.c_tree.specs.declared.token.Kind.{Kind}
use Rattle.c_tree.specs.declared.typed.TypedExpr.{TypedExpr}
use Rattle.c_tree.specs.declared.typed.TypedNode.{TypedNode, roll-TypedNode, out-TypedNode}
use Rattle.c_tree.specs.declared.typed.TypedNode.{out-roll-TypedNode}
use Rattle.c_tree.specs.declared.typed.TypedNode.TheVariants as typed
use Rattle.c_tree.specs.declared.typed.TypedNode.TheOpen as node
use Rattle.c_tree.specs.declared.typed.TypedStmt.{TypedStmt, roll-TypedStmt, out-TypedStmt}
use Rattle.c_tree.specs.declared.typed.TypedStmt.{out-roll-TypedStmt}
use Rattle.c_tree.specs.declared.typed.TypedForInit.{TypedForInit, roll-TypedForInit}
use Rattle.c_tree.specs.declared.typed.TypedForInit.{out-TypedForInit, out-roll-TypedForInit}
use Rattle.c_tree.specs.declared.typed.TypedFunc.{TypedFunc}
use Rattle.c_constant.specs.Kinds.{same_kind}
use Rattle.c_type_expr.specs.Conversions.{a, kind_of, with_convert}
use Rattle.c_tree.specs.TypedTrees.{Node}
use Rattle.c_tree.specs.TypedTrees as level
use Rattle.flat_lower.specs.inside.TreeViews.{expr_of, expr_if, exprs_of, stmt_of, stmts_of, func_of}
use Rattle.flat_lower.proofs.TreeFacts.{plain_node, expr_is, first_of, plain_stmt, plain_first}
use Rattle.flat_lower.proofs.TreeFacts.{stmt_is, first_is}
use Rattle.flat_lower.specs.inside.Tree as tree
use Rattle.flat_lower.specs.inside.Sizes as costs_of
use Rattle.flat_lower.specs.inside.Sizes.{left_nodes}
use Rattle.flat_lower_premises.specs.inside.SourceNodes as nodes_of
use Rattle.flat_lower_premises.specs.inside.Most.{largest}

-- EXPRESSIONS

-- what a pass through a typed expression costs
abbrev pub cost : TypedExpr → ℕ
cost t = costs_of.nodes (expr_of t)

-- what one through an expression costs that may be missing
abbrev pub cost_if : Option TypedExpr → ℕ
cost_if t = costs_of.nodes_if (expr_if t)

-- what one through each expression of a list costs
abbrev pub costs : List TypedExpr → ℕ
costs ts = costs_of.all_nodes (exprs_of (map expr_of ts))

-- the nodes of a typed expression
abbrev pub typed_nodes : TypedExpr → ℕ
typed_nodes t = nodes_of.expr_nodes (expr_of t)

-- the nodes of a typed expression that may be absent
abbrev pub typed_if_nodes : Option TypedExpr → ℕ
typed_if_nodes t = nodes_of.expr_if_nodes (expr_if t)

-- the nodes of some typed expressions
abbrev pub typed_list_nodes : List TypedExpr → ℕ
typed_list_nodes ts = nodes_of.exprs_nodes (exprs_of (map expr_of ts))

-- by its node
by_node : (count : tree.Expr → ℕ) (l : ℕ) (k : Option Kind) (n : TypedNode) (x : Node) → roll-TypedNode x ≡ n
    → count (expr_of (a l k n)) ≡ count (plain_node x k)
by_node count l k n x e =
    ap count (expr_is (a l k n)
    ∙ ap (λ (y : Node). plain_node y k) (ap out-TypedNode (sym e) ∙ out-roll-TypedNode x))

-- both by its node
pub at_node : (l : ℕ) (k : Option Kind) (n : TypedNode) (x : Node) → roll-TypedNode x ≡ n
    → (cost (a l k n) ≡ costs_of.nodes (plain_node x k))
    × (typed_nodes (a l k n) ≡ nodes_of.expr_nodes (plain_node x k))
at_node l k n x e = (by_node costs_of.nodes l k n x e, by_node nodes_of.expr_nodes l k n x e)

-- a conversion costs nothing, and adds one node at most
pub converted_few : (k : Kind) (t : TypedExpr)
    → (cost (with_convert k t) ≤ cost t) × (typed_nodes (with_convert k t) ≤ 1 + typed_nodes t)
converted_few k t = go (same_kind (kind_of t) k)
  where
    go : (b : Bool) → (cost (cond b t (a t.at (Some k) (typed.Convert k t))) ≤ cost t)
        × (typed_nodes (cond b t (a t.at (Some k) (typed.Convert k t))) ≤ 1 + typed_nodes t)
    go true = (omega arith, omega arith)
    go false =
        let h = at_node t.at (Some k) _ (node.Convert k t) (typed.rolls-Convert k t) in
        (omega (arith, h.0), omega (arith, h.1))

-- of a left side only an index counts
pub left_few : (e : tree.Expr) → left_nodes e ≤ costs_of.nodes e
left_few (tree.Element k p index) = omega arith
left_few (tree.RowElement k p row index) = omega arith
left_few _ = omega arith

-- STATEMENTS

-- what a pass through a typed statement costs
abbrev pub body_cost : TypedStmt → ℕ
body_cost t = costs_of.size_of (stmt_of t)

-- what one through the beginning of a for costs
abbrev pub first_cost : TypedForInit → ℕ
first_cost i = costs_of.size_of_first (first_of i)

-- what one through each statement of a list costs
abbrev pub bodies_cost : List TypedStmt → ℕ
bodies_cost ts = costs_of.size_of_all (stmts_of (map stmt_of ts))

-- the nodes of a typed statement
abbrev pub body_nodes : TypedStmt → ℕ
body_nodes t = nodes_of.stmt_nodes (stmt_of t)

-- the nodes of the first part of a typed `for`
abbrev pub first_nodes : TypedForInit → ℕ
first_nodes i = nodes_of.first_nodes (first_of i)

-- the nodes of some typed statements
abbrev pub bodies_nodes : List TypedStmt → ℕ
bodies_nodes ts = nodes_of.stmts_nodes (stmts_of (map stmt_of ts))

by_stmt : (count : tree.Stmt → ℕ) (s : TypedStmt) (x : level.Level) → roll-TypedStmt x ≡ s
    → count (stmt_of s) ≡ count (plain_stmt x)
by_stmt count s x e =
    ap count (stmt_is s ∙ ap plain_stmt (ap out-TypedStmt (sym e) ∙ out-roll-TypedStmt x))

by_first : (count : tree.First → ℕ) (i : TypedForInit) (x : level.Beginning) → roll-TypedForInit x ≡ i
    → count (first_of i) ≡ count (plain_first x)
by_first count i x e =
    ap count (first_is i ∙ ap plain_first (ap out-TypedForInit (sym e) ∙ out-roll-TypedForInit x))

-- both by its level
pub at_stmt : (s : TypedStmt) (x : level.Level) → roll-TypedStmt x ≡ s
    → (body_cost s ≡ costs_of.size_of (plain_stmt x)) × (body_nodes s ≡ nodes_of.stmt_nodes (plain_stmt x))
at_stmt s x e = (by_stmt costs_of.size_of s x e, by_stmt nodes_of.stmt_nodes s x e)

-- the same of what begins a `for`
pub at_first : (i : TypedForInit) (x : level.Beginning) → roll-TypedForInit x ≡ i
    → (first_cost i ≡ costs_of.size_of_first (plain_first x))
    × (first_nodes i ≡ nodes_of.first_nodes (plain_first x))
at_first i x e = (by_first costs_of.size_of_first i x e, by_first nodes_of.first_nodes i x e)

-- FUNCTIONS

-- the most that a pass through one of the functions costs, and 1 besides
abbrev pub most : List TypedFunc → ℕ
most fs = 1 + largest (map func_of fs)

-- the most that a function of two lists costs is the larger of what one of either costs
pub most_append : (fs gs : List TypedFunc) → most (fs ++ gs) ≡ max (most fs) (most gs)
most_append [] gs = omega arith
most_append (f ∷ fs) gs = let h = most_append fs gs in omega (arith, h)

-- the nodes of some typed functions
abbrev pub funcs_nodes : List TypedFunc → ℕ
funcs_nodes fs = nodes_of.funcs_size (map func_of fs)

-- typed functions behind others have the nodes of both
pub funcs_append : (fs gs : List TypedFunc)
    → funcs_nodes (fs ++ gs) ≡ funcs_nodes fs + funcs_nodes gs
funcs_append [] gs = omega arith
funcs_append (f ∷ fs) gs = let h = funcs_append fs gs in omega arith
