-- Bumps of what is no place, and groups.
use Rattle.std.proofs.Common.{◌≡◌, ℕ, Bool, true, false, Some, None, Result, refl, sym, ap, ◌∙◌, subst}
use Rattle.c_tree.specs.declared.tree.BumpOp.{BumpOp}
use Rattle.c_tree.specs.declared.tree.Expr.{Expr}
use Rattle.c_tree.specs.declared.tree.ExprNode.{ExprNode}
use Rattle.c_tree.specs.declared.tree.ExprNode.TheVariants as node
use Rattle.c_tree.specs.declared.typed.TypedExpr.{TypedExpr}
use Rattle.c_type_expr.specs.Scope.{Scope}
use Rattle.c_type_expr.specs.declared.fault.TypeFault.{TypeFault}
use Rattle.c_type_expr.specs.declared.fault.TypeFault.TheVariants.{Mismatch}
use Rattle.c_type_expr.specs.declared.spot.Spot.{Spot}
use Rattle.c_type_expr.specs.declared.role.Role.{Role}
use Rattle.c_type_expr.specs.declared.role.Role.TheVariants.{Value, Written}
use Rattle.c_type_expr.specs.Blames.{Blame, first, unless}
use Rattle.c_type_expr.specs.Faults.{is_place, fault, unwanted_value, left_role}
use Rattle.c_type_expr.specs.Trees.{tree}
use Rattle.c_type_expr.specs.inside.Says.{Says, Types}
use Rattle.c_type_expr.specs.Roles.{at, spot_of}
use Rattle.c_type_expr.proofs.Nodes.{fault-Bump, fault-Group, tree-Group}

-- a bump of no place fails, at the latest at its own offset
pub no_place : (G : Scope) (r : Role) (l : Spot) (op : BumpOp) (e : Expr) → is_place e ≡ false
    → fault (at l (node.Bump op e)) G r ≡ first (fault e G Value) (Some (Mismatch l.offset))
no_place G r l op e p = fault-Bump G r l op e
    ∙ ap (λ (b : Bool). first (fault e G (left_role b))
    (first (unless b (Mismatch l.offset)) (unwanted_value r l.offset))) p

-- so it has no typed tree, and any will do
pub untyped : (G : Scope) (r : Role) (l : Spot) (op : BumpOp) (e : Expr)
    (result : Result TypedExpr TypeFault) → is_place e ≡ false
    → ((t : TypedExpr) → Says (first (fault e G Value) (Some (Mismatch l.offset))) t result)
    → Types (at l (node.Bump op e)) r G result
untyped G r l op e result p h =
    subst (λ (f : Blame). Says f (tree (at l (node.Bump op e)) G) result)
    (sym (no_place G r l op e p)) (h (tree (at l (node.Bump op e)) G))

absorbed : (f : Blame) (a b : TypeFault) → first (first f (Some a)) (Some b) ≡ first f (Some a)
absorbed None a b = refl
absorbed (Some x) a b = refl

-- a bump around it changes nothing
pub around : (G : Scope) (l : ℕ) (m : Spot) (op : BumpOp) (e : Expr) → is_place e ≡ false
    → first (fault (at m (node.Bump op e)) G Value) (Some (Mismatch l))
    ≡ first (fault e G Value) (Some (Mismatch m.offset))
around G l m op e p = ap (λ (f : Blame). first f (Some (Mismatch l))) (no_place G Value m op e p)
    ∙ absorbed (fault e G Value) (Mismatch m.offset) (Mismatch l)

-- what a bump of no place answers, from what the bump inside it answers
pub carried : (G : Scope) (whole f e : Expr) (op : BumpOp) (l : ℕ)
    (result : Result TypedExpr TypeFault) → f ≡ whole → f.node ≡ node.Bump op e
    → is_place e ≡ false
    → ((t : TypedExpr) → Says (first (fault e G Value) (Some (Mismatch f.offset))) t result)
    → (t : TypedExpr) → Says (first (fault whole G Value) (Some (Mismatch l))) t result
carried G whole f e op l result w n p h t = subst (λ (b : Blame). Says b t result)
    (sym (around G l (spot_of f) op e p)
    ∙ ap (λ (m : ExprNode). first (fault (at (spot_of f) m) G Value) (Some (Mismatch l))) (sym n)
    ∙ ap (λ (x : Expr). first (fault x G Value) (Some (Mismatch l))) w) (h t)

ends : (f : Blame) → first f None ≡ f
ends None = refl
ends (Some x) = refl

-- a bump of a place is judged as the place
of_place : (G : Scope) (f e : Expr) (op : BumpOp) → f.node ≡ node.Bump op e
    → is_place e ≡ true → fault f G Value ≡ fault e G Written
of_place G f e op n p = ap (λ (m : ExprNode). fault (at (spot_of f) m) G Value) n
    ∙ fault-Bump G Value (spot_of f) op e
    ∙ ap (λ (b : Bool). first (fault e G (left_role b))
    (first (unless b (Mismatch f.offset)) (unwanted_value Value f.offset))) p
    ∙ ends (fault e G Written)

-- what a bump around it answers
pub placed : (G : Scope) (whole f e : Expr) (op : BumpOp) (l : ℕ)
    (result : Result TypedExpr TypeFault) → f ≡ whole → f.node ≡ node.Bump op e
    → is_place e ≡ true
    → ((t : TypedExpr) → Says (first (fault e G Written) (Some (Mismatch l))) t result)
    → (t : TypedExpr) → Says (first (fault whole G Value) (Some (Mismatch l))) t result
placed G whole f e op l result w n p h t = subst (λ (b : Blame). Says b t result)
    (ap (λ (b : Blame). first b (Some (Mismatch l))) (sym (of_place G f e op n p)
    ∙ ap (λ (x : Expr). fault x G Value) w)) (h t)

-- what the bump of another expression answers
pub remade : (G : Scope) (whole f : Expr) (n : ExprNode) (l : ℕ)
    (result : Result TypedExpr TypeFault) → n ≡ f.node → f ≡ whole
    → ((t : TypedExpr) → Says (first (fault (at (spot_of f) n) G Value) (Some (Mismatch l))) t result)
    → (t : TypedExpr) → Says (first (fault whole G Value) (Some (Mismatch l))) t result
remade G whole f n l result p w h t = subst (λ (b : Blame). Says b t result)
    (ap (λ (m : ExprNode). first (fault (at (spot_of f) m) G Value) (Some (Mismatch l))) p
    ∙ ap (λ (x : Expr). first (fault x G Value) (Some (Mismatch l))) w) (h t)

-- an expression in parentheses is typed as what stands in them
pub grouped : (G : Scope) (r : Role) (whole f e : Expr) (result : Result TypedExpr TypeFault)
    → f ≡ whole → f.node ≡ node.Group e → Types e r G result → Types whole r G result
grouped G r whole f e result w n h =
    subst (λ (x : Expr). Types x r G result) w
    (subst (λ (m : ExprNode). Types (at (spot_of f) m) r G result) (sym n)
    (subst (λ (b : Blame). Says b (tree (at (spot_of f) (node.Group e)) G) result)
    (sym (fault-Group G r (spot_of f) e))
    (subst (λ (t : TypedExpr). Says (fault e G r) t result) (sym (tree-Group G (spot_of f) e)) h)))
