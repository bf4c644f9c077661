-- The declared trees level by level, as plain data.
use Rattle.std.proofs.Common.{◌≡◌, ℕ, List, [], ◌∷◌, map, Option, Some, None, refl, sym, ap, ap₂}
use Rattle.std.proofs.Common.{◌∙◌}
use Rattle.c_tree.specs.declared.Kind.{Kind}
use Rattle.c_tree.specs.declared.TypedExpr.{TypedExpr, fold-TypedExpr, fold_out-TypedExpr}
use Rattle.c_tree.specs.declared.TypedNode.{TypedNode, out-TypedNode, map-TypedNode, fold-TypedNode}
use Rattle.c_tree.specs.declared.TypedNode.{fold_out-TypedNode}
use Rattle.c_tree.specs.declared.TypedNode.TheOpen.{TypedNode-F}
use Rattle.c_tree.specs.declared.TypedNode.TheOpen as node
use Rattle.c_tree.specs.declared.TypedStmt.{TypedStmt, out-TypedStmt, map-TypedStmt, fold-TypedStmt}
use Rattle.c_tree.specs.declared.TypedStmt.{fold_out-TypedStmt}
use Rattle.c_tree.specs.declared.TypedForInit.{TypedForInit, out-TypedForInit, map-TypedForInit}
use Rattle.c_tree.specs.declared.TypedForInit.{fold-TypedForInit, fold_out-TypedForInit}
use Rattle.c_tree.specs.declared.TypedForInit.TheOpen as stmt
use Rattle.c_tree.specs.TypedTrees.{Node, node_of}
use Rattle.c_tree.specs.TypedTrees as level
use Rattle.flat_lower.specs.inside.Tree.{Expr, Number, Name, Element, Call, Unary, Cast, Convert, Bump}
use Rattle.flat_lower.specs.inside.Tree.{Binary, Choice, Assign, Comma, Exprs, NoExprs, WithExpr, Stmt}
use Rattle.flat_lower.specs.inside.Tree.{Declare, Plain, Compound, If, While, Do, For, Break, Continue}
use Rattle.flat_lower.specs.inside.Tree.{Return, Stmts, NoStmts, WithStmt, First, Nothing, FirstOf, Locals}
use Rattle.flat_lower.specs.inside.Tree.{kind_of, RowElement, Switch}
use Rattle.c_tree.specs.declared.TypedSection.{TypedSection, fold-TypedSection, fold_out-TypedSection}
use Rattle.flat_lower.specs.inside.TreeViews.{Kindless, node_by, expr_by, expr_of, expr_if, exprs_of}
use Rattle.flat_lower.specs.inside.TreeViews.{stmt_by, first_by, stmt_of, stmts_of, stmts_if, Section}
use Rattle.flat_lower.specs.inside.TreeViews.{sections_of, section_by}
use Rattle.flat_lower.specs.inside.Emitted.{section_of, sections_in}

-- one level of an expression
abbrev pub plain_node : Node → Option Kind → Expr
plain_node (node.Number w) k = Number k w
plain_node (node.Name p) k = Name k p
plain_node (node.Element p None index) k = Element k p (expr_of index)
plain_node (node.Element p (Some row) index) k = RowElement k p (expr_of row) (expr_of index)
plain_node (node.Call f args) k = Call k f (exprs_of (map expr_of args))
plain_node (node.Unary op e) k = Unary k op (expr_of e)
plain_node (node.Cast to e) k = Cast k to (expr_of e)
plain_node (node.Convert to e) k = Convert k to (expr_of e)
plain_node (node.Bump op e) k = Bump k op (expr_of e)
plain_node (node.Binary op l r) k = Binary k op (expr_of l) (expr_of r)
plain_node (node.Choice t one other) k = Choice k (expr_of t) (expr_of one) (expr_of other)
plain_node (node.Assign op at l r) k = Assign k op at (expr_of l) (expr_of r)
plain_node (node.Comma l r) k = Comma k (expr_of l) (expr_of r)

levels : (x : Node) (k : Option Kind) → node_by
    (map-TypedNode TypedNode TypedExpr Kindless Expr
    (fold-TypedNode Kindless Expr node_by expr_by) expr_of x) k ≡ plain_node x k
levels (node.Number w) k = refl
levels (node.Name p) k = refl
levels (node.Element p None index) k = refl
levels (node.Element p (Some row) index) k = refl
levels (node.Call f args) k = refl
levels (node.Unary op e) k = refl
levels (node.Cast to e) k = refl
levels (node.Convert to e) k = refl
levels (node.Bump op e) k = refl
levels (node.Binary op l r) k = refl
levels (node.Choice t one other) k = refl
levels (node.Assign op at l r) k = refl
levels (node.Comma l r) k = refl

-- an expression by its node
pub expr_is : (e : TypedExpr) → expr_of e ≡ plain_node (node_of e) e.kind
unfolding expr_of
expr_is e =
    fold_out-TypedExpr Kindless Expr node_by expr_by e
    ∙ ap (λ (x : Kindless). x e.kind) (fold_out-TypedNode Kindless Expr node_by expr_by e.node)
    ∙ levels (node_of e) e.kind

-- the kind of a plain expression is the one of its tree
pub kind_levels : (x : Node) (k : Option Kind) → kind_of (plain_node x k) ≡ k
kind_levels (node.Number w) k = refl
kind_levels (node.Name p) k = refl
kind_levels (node.Element p None index) k = refl
kind_levels (node.Element p (Some row) index) k = refl
kind_levels (node.Call f args) k = refl
kind_levels (node.Unary op e) k = refl
kind_levels (node.Cast to e) k = refl
kind_levels (node.Convert to e) k = refl
kind_levels (node.Bump op e) k = refl
kind_levels (node.Binary op l r) k = refl
kind_levels (node.Choice t one other) k = refl
kind_levels (node.Assign op at l r) k = refl
kind_levels (node.Comma l r) k = refl

-- it has the same kind
pub kind_is : (e : TypedExpr) → kind_of (expr_of e) ≡ e.kind
kind_is e = ap kind_of (expr_is e) ∙ kind_levels (node_of e) e.kind

-- the first part of a `for`, as plain data
unfoldable pub first_of : TypedForInit → First
first_of i = fold-TypedForInit First Stmt Section first_by stmt_by section_by i

-- one level of a statement, and of the first part of a for
abbrev pub plain_stmt : level.Level → Stmt
plain_stmt (stmt.Declare p init) = Declare p (expr_if init)
plain_stmt (stmt.Plain e) = Plain (expr_if e)
plain_stmt (stmt.Compound all) = Compound (stmts_of (map stmt_of all))
plain_stmt (stmt.If t one None) = If (expr_of t) (stmt_of one) NoStmts
plain_stmt (stmt.If t one (Some other)) =
    If (expr_of t) (stmt_of one) (WithStmt (stmt_of other) NoStmts)
plain_stmt (stmt.While t body) = While (expr_of t) (stmt_of body)
plain_stmt (stmt.Do body t) = Do (stmt_of body) (expr_of t)
plain_stmt (stmt.For first test post body) =
    For (first_of first) (expr_if test) (expr_if post) (stmt_of body)
plain_stmt (stmt.Switch i t xs) = Switch (expr_of t) (sections_in xs)
plain_stmt stmt.Break = Break
plain_stmt stmt.Continue = Continue
plain_stmt (stmt.Return e) = Return (expr_if e)

-- the first part of a `for` by its parts, as plain data
abbrev pub plain_first : level.Beginning → First
plain_first stmt.Nothing = Nothing
plain_first (stmt.First e) = FirstOf (expr_of e)
plain_first (stmt.Locals all) = Locals (stmts_of (map stmt_of all))

-- a section by the fold of the whole
abbrev section_fold : TypedSection → Section
section_fold x = fold-TypedSection First Stmt Section first_by stmt_by section_by x

-- is that of its statements
fold_section : (x : TypedSection) → section_fold x ≡ section_of x
unfolding stmt_of
fold_section x = fold_out-TypedSection First Stmt Section first_by stmt_by section_by x

all_sections : (xs : List TypedSection) → map section_fold xs ≡ map section_of xs
all_sections [] = refl
all_sections (x ∷ xs) =
    ap (λ (y : Section). y ∷ map section_fold xs) (fold_section x)
    ∙ ap (λ (ys : List Section). section_of x ∷ ys) (all_sections xs)

stmt_levels : (x : level.Level) → stmt_by (map-TypedStmt TypedForInit TypedStmt TypedSection First Stmt
    Section first_of stmt_of section_fold x) ≡ plain_stmt x
stmt_levels (stmt.Declare p init) = refl
stmt_levels (stmt.Plain e) = refl
stmt_levels (stmt.Compound all) = refl
stmt_levels (stmt.If t one None) = refl
stmt_levels (stmt.If t one (Some other)) = refl
stmt_levels (stmt.While t body) = refl
stmt_levels (stmt.Do body t) = refl
stmt_levels (stmt.For first test post body) = refl
stmt_levels (stmt.Switch i t xs) = ap (λ ys. Switch (expr_of t) (sections_of ys)) (all_sections xs)
stmt_levels stmt.Break = refl
stmt_levels stmt.Continue = refl
stmt_levels (stmt.Return e) = refl

-- a statement by its level
pub stmt_is : (s : TypedStmt) → stmt_of s ≡ plain_stmt (out-TypedStmt s)
unfolding stmt_of first_of
stmt_is s = fold_out-TypedStmt First Stmt Section first_by stmt_by section_by s ∙ stmt_levels (out-TypedStmt s)

first_levels : (x : level.Beginning) → first_by
    (map-TypedForInit TypedForInit TypedStmt TypedSection First Stmt Section first_of stmt_of
    section_fold x) ≡ plain_first x
first_levels stmt.Nothing = refl
first_levels (stmt.First e) = refl
first_levels (stmt.Locals all) = refl

-- the first part of a for by its level
pub first_is : (i : TypedForInit) → first_of i ≡ plain_first (out-TypedForInit i)
unfolding stmt_of first_of
first_is i = fold_out-TypedForInit First Stmt Section first_by stmt_by section_by i
    ∙ first_levels (out-TypedForInit i)
