-- The first node of an expression that fails, in the order of the text (C17 6.5).
use Rattle.std.specs.Prelude.{ℕ, Bool, true, false, not, ◌&&◌, nat_eq, is_some, length, List, [], ◌∷◌, Option, Some}
use Rattle.std.specs.Prelude.{None}
use Rattle.c_tree.specs.declared.token.Kind.{Kind}
use Rattle.c_tree.specs.declared.tree.Expr.{Expr, Expr-F, fold-Expr}
use Rattle.c_tree.specs.declared.tree.ExprNode.TheOpen.{ExprNode-F, Number, Name, Element, Call}
use Rattle.c_tree.specs.declared.tree.ExprNode.TheOpen.{Group, Unary, Cast, Bump, Binary, Choice}
use Rattle.c_tree.specs.declared.tree.ExprNode.TheOpen.{Assign, Comma}
use Rattle.c_tree.specs.declared.typed.Callee.{Callee}
use Rattle.c_tree.specs.declared.typed.Slot.{Slot}
use Rattle.c_tree.specs.declared.typed.Slot.TheVariants as slot
use Rattle.c_type_expr.specs.declared.meaning.Meaning.{Meaning}
use Rattle.c_type_expr.specs.declared.meaning.Meaning.TheVariants as meaning
use Rattle.c_type_expr.specs.Scope.{Scope, look_up}
use Rattle.c_type_expr.specs.declared.fault.TypeFault.TheVariants.{Unknown, Mismatch, Arity}
use Rattle.c_type_expr.specs.declared.role.Role.{Role}
use Rattle.c_type_expr.specs.declared.role.Role.TheVariants.{Value, Free, Array, Surplus, Written}
use Rattle.c_type_expr.specs.Roles.{takes_value, takes_element, takes_array, takes_result}
use Rattle.c_type_expr.specs.Blames.{Blame, first, unless}

-- a value where none that is no scalar, element or array may stand
abbrev pub unwanted_value : Role → ℕ → Blame
unwanted_value r l = unless (takes_value r) (Mismatch l)

-- may a name of this meaning stand there?
abbrev pub takes_name : Meaning → Role → Bool
takes_name (meaning.Scalar k p) r = takes_element r
takes_name (meaning.Array k q p) r = takes_array k q r
takes_name (meaning.Function result params callee defined) r = false
takes_name meaning.EndOfFile r = takes_value r

-- a name that is not in scope, or not what stands there
abbrev pub name_fault : Option Meaning → Role → ℕ → Blame
name_fault None r l = Some (Unknown l)
name_fault (Some m) r l = unless (takes_name m r) (Mismatch l)

-- has an element as many indexes as its array has sizes?
abbrev pub fits_sizes : Option ℕ → Bool → Bool
fits_sizes None two = not two
fits_sizes (Some n) two = two

-- an element, by two indexes or by one, of something that is not in scope, or no array of so many
-- sizes, or not what stands there
abbrev pub element_fault : Option Meaning → Bool → Role → ℕ → Blame
element_fault None two r l = Some (Unknown l)
element_fault (Some (meaning.Array k q p)) two r l =
    unless (fits_sizes q two && takes_element r) (Mismatch l)
element_fault (Some _) two r l = Some (Mismatch l)

-- a call of a function that the unit does not define, or of something else
abbrev pub callee_fault : Option Callee → Option Kind → List Slot → ℕ → Role → ℕ → Blame
callee_fault None result params args r l = Some (Unknown l)
callee_fault (Some c) result params args r l =
    first (unless (takes_result result r) (Mismatch l))
    (unless (nat_eq args (length params)) (Arity l))

-- a call of something that is not in scope, or no function, or that fails as a call
abbrev pub call_fault : Option Meaning → ℕ → Role → ℕ → Blame
call_fault None args r l = Some (Unknown l)
call_fault (Some (meaning.Function result params callee defined)) args r l =
    callee_fault callee result params args r l
call_fault (Some _) args r l = Some (Mismatch l)

-- what the arguments are wanted for
abbrev pub slots_of : Option Meaning → List Slot
slots_of (Some (meaning.Function result params callee defined)) = params
slots_of _ = []

-- what the argument of a parameter is wanted for
abbrev pub role_of : Slot → Role
role_of (slot.Scalar k) = Value
role_of (slot.Address k q) = Array k q

-- what the first argument is wanted for
abbrev pub role_at : List Slot → Role
role_at [] = Surplus
role_at (s ∷ slots) = role_of s

-- the parameters behind the first one
abbrev pub rest_of : List Slot → List Slot
rest_of [] = []
rest_of (s ∷ slots) = slots

-- an expression: is it a name or an element, in any groups, and what of it fails in a role?
pub record Judged : Type 0 where
  -- so that it may be assigned to
  pub place : Bool
  -- its first failing node, by what stands in scope
  pub blame : Scope → Role → Blame

-- the first of the arguments that fails
abbrev pub args_blame : List Slot → List Judged → Scope → Blame
args_blame slots [] G = None
args_blame slots (e ∷ es) G = first (e.blame G (role_at slots)) (args_blame (rest_of slots) es G)

-- what of a first index fails first, where there are two
abbrev pub row_blame : Option Judged → Scope → Blame
row_blame None G = None
row_blame (Some e) G = e.blame G Value

-- is the node a name or an element, in any groups?
abbrev pub node_place : ExprNode-F (ℕ → Judged) Judged → Bool
node_place (Name w) = true
node_place (Element w row i) = true
node_place (Group e) = e.place
node_place _ = false

-- a left side that may not be written to is judged as a value
abbrev pub left_role : Bool → Role
left_role true = Written
left_role false = Value

-- what of a node fails first in a role: its operands before itself
abbrev pub node_blame : ExprNode-F (ℕ → Judged) Judged → ℕ → Scope → Role → Blame
node_blame (Number v k) l G r = unwanted_value r l
node_blame (Name w) l G r = name_fault (look_up G w) r l
node_blame (Element w row i) l G r =
    first (row_blame row G)
    (first (i.blame G Value) (element_fault (look_up G w) (is_some row) r l))
node_blame (Call w es) l G r =
    first (args_blame (slots_of (look_up G w)) es G) (call_fault (look_up G w) (length es) r l)
node_blame (Group e) l G r = e.blame G r
node_blame (Unary op e) l G r = first (e.blame G Value) (unwanted_value r l)
node_blame (Cast to e) l G r = first (e.blame G Value) (unwanted_value r l)
node_blame (Bump op e) l G r =
    first (e.blame G (left_role e.place)) (first (unless e.place (Mismatch l)) (unwanted_value r l))
node_blame (Binary op x y) l G r = first (x.blame G Value)
    (first (y.blame G Value) (unwanted_value r l))
node_blame (Choice t x y) l G r =
    first (t.blame G Value) (first (x.blame G Value) (first (y.blame G Value) (unwanted_value r l)))
node_blame (Assign op x y) l G r =
    first (x.blame G (left_role x.place))
    (first (y.blame G Value) (first (unless x.place (Mismatch l)) (unwanted_value r l)))
node_blame (Comma x y) l G r = first (x.blame G Free) (first (y.blame G Value) (unwanted_value r l))

-- both of a node
abbrev pub node_judged : ExprNode-F (ℕ → Judged) Judged → ℕ → Judged
node_judged n l = record { place = node_place n; blame = node_blame n l }

-- both of an expression, whose node has its offset
abbrev pub at_offset : Expr-F (ℕ → Judged) Judged → Judged
at_offset e = e.node e.offset

-- both of an expression, by recursion on it
unfoldable pub judged : Expr → Judged
judged e = fold-Expr (ℕ → Judged) Judged node_judged at_offset e

-- is the expression a name or an element, in any groups?
unfoldable pub is_place : Expr → Bool
is_place e = (judged e).place

-- the first failing node of an expression, its operands before it
unfoldable pub fault : Expr → Scope → Role → Blame
fault e = (judged e).blame
