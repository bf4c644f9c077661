-- What of a unit is judged, and the order in which the parts of an expression are: operands before
-- their node (C17 6.5, 6.6).
use Rattle.std.specs.Prelude.{ℕ, Bool, true, false, is_some, length, List, [], ◌∷◌, ◌++◌, map}
use Rattle.std.specs.Prelude.{Option, Some, None}
use Rattle.c_tree.specs.declared.token.Kind.{Kind}
use Rattle.c_tree.specs.declared.tree.Expr.{Expr}
use Rattle.c_tree.specs.declared.tree.ExprNode.{ExprNode}
use Rattle.c_tree.specs.declared.tree.ExprNode.TheOpen.{ExprNode-F, Number, Name, Element, Call}
use Rattle.c_tree.specs.declared.tree.ExprNode.TheOpen.{Group, Unary, Cast, Bump, Binary, Choice}
use Rattle.c_tree.specs.declared.tree.ExprNode.TheOpen.{Assign, Comma}
use Rattle.c_tree.specs.declared.tree.ForInit.{ForInit}
use Rattle.c_tree.specs.declared.tree.Param.{Param}
use Rattle.c_tree.specs.declared.tree.Program.{Program}
use Rattle.c_tree.specs.declared.tree.Label.{Label}
use Rattle.c_tree.specs.declared.tree.Section.{Section}
use Rattle.c_tree.specs.declared.tree.Stmt.{Stmt}
use Rattle.c_tree.specs.declared.tree.Top.{Top}
use Rattle.c_tree.specs.declared.typed.Slot.{Slot}
use Rattle.c_type_expr.specs.Scope.{Scope, look_up}
use Rattle.c_type_expr.specs.declared.fault.TypeFault.TheVariants.{Mismatch}
use Rattle.c_type_expr.specs.declared.role.Role.{Role}
use Rattle.c_type_expr.specs.declared.role.Role.TheVariants.{Value, Free}
use Rattle.c_type_expr.specs.Blames.{Blame, unless}
use Rattle.c_type_expr.specs.Faults.{unwanted_value, name_fault, element_fault, call_fault, left_role}
use Rattle.c_type_expr.specs.Faults.{slots_of, role_at, rest_of, is_place}
use Rattle.c_type_expr.specs.Constants.{name_fixed, no_constant, calls_known}
use Rattle.c_type.specs.declared.file_scope.FileScope.{FileScope}
use Rattle.c_type.specs.declared.state.State.{State}
use Rattle.c_type.specs.declared.state.Around.{Around}

-- one thing that is judged, with that in which it is judged
pub data Judgement : Type 0 where
  -- what a node itself must be, when its operands have types
  a_test : Blame → Judgement
  -- an expression in a role
  an_expression : Scope → Role → Expr → Judgement
  -- a full expression, and one that may be left out
  a_full : Scope → Role → Expr → Judgement
  an_optional : Scope → Role → Option Expr → Judgement
  -- a part of a constant expression, a whole one, and an array's size
  a_constant : Scope → Expr → Judgement
  a_full_constant : Scope → Expr → Judgement
  a_size : Scope → Expr → Judgement
  -- a statement by what is around it, several, an `else` that may be left out, and what begins a `for`
  a_statement : Around → State → Stmt → Judgement
  some_statements : Around → State → List Stmt → Judgement
  an_else : Around → State → Option Stmt → Judgement
  a_beginning : Around → State → ForInit → Judgement
  -- labels of a switch of a type behind others, and its sections
  some_labels : Scope → Kind → List (Option ℕ) → List Label → Judgement
  some_sections : Kind → List (Option ℕ) → Around → State → List Section → Judgement
  -- a function's body, and parameters after others
  a_body : State → Stmt → Judgement
  a_param : Bool → Scope → List Param → Param → Judgement
  some_params : Bool → Scope → List Param → List Param → Judgement
  -- the values of a global of a kind
  some_values : Scope → Kind → List Expr → Judgement
  -- an item of a unit, several, and the unit
  an_item : List Top → FileScope → Top → Judgement
  some_items : List Top → FileScope → List Top → Judgement
  a_unit : Program → Judgement

-- arguments, each as its parameter takes it
abbrev pub argument_parts : Scope → List Slot → List Expr → List Judgement
argument_parts G slots [] = []
argument_parts G slots (e ∷ es) =
    an_expression G (role_at slots) e ∷ argument_parts G (rest_of slots) es

-- the parts of an expression of that offset: its operands, then the node itself
abbrev pub expression_parts : Scope → Role → ℕ → ExprNode-F ExprNode Expr → List Judgement
expression_parts G r l (Number v k) = a_test (unwanted_value r l) ∷ []
expression_parts G r l (Name w) = a_test (name_fault (look_up G w) r l) ∷ []
expression_parts G r l (Element w None i) =
    an_expression G Value i ∷ a_test (element_fault (look_up G w) false r l) ∷ []
expression_parts G r l (Element w (Some x) i) =
    an_expression G Value x ∷ an_expression G Value i
    ∷ a_test (element_fault (look_up G w) true r l) ∷ []
expression_parts G r l (Call w es) =
    argument_parts G (slots_of (look_up G w)) es ++ a_test (call_fault (look_up G w) (length es) r l) ∷ []
expression_parts G r l (Group e) = an_expression G r e ∷ []
expression_parts G r l (Unary op e) = an_expression G Value e ∷ a_test (unwanted_value r l) ∷ []
expression_parts G r l (Cast to e) = an_expression G Value e ∷ a_test (unwanted_value r l) ∷ []
expression_parts G r l (Bump op e) =
    an_expression G (left_role (is_place e)) e ∷ a_test (unless (is_place e) (Mismatch l))
    ∷ a_test (unwanted_value r l) ∷ []
expression_parts G r l (Binary op x y) =
    an_expression G Value x ∷ an_expression G Value y ∷ a_test (unwanted_value r l) ∷ []
expression_parts G r l (Choice t x y) =
    an_expression G Value t ∷ an_expression G Value x ∷ an_expression G Value y
    ∷ a_test (unwanted_value r l) ∷ []
expression_parts G r l (Assign op x y) =
    an_expression G (left_role (is_place x)) x ∷ an_expression G Value y
    ∷ a_test (unless (is_place x) (Mismatch l)) ∷ a_test (unwanted_value r l) ∷ []
expression_parts G r l (Comma x y) =
    an_expression G Free x ∷ an_expression G Value y ∷ a_test (unwanted_value r l) ∷ []

-- the parts of a constant expression of that offset
abbrev pub constant_parts : Scope → ℕ → ExprNode-F ExprNode Expr → List Judgement
constant_parts G l (Number v k) = []
constant_parts G l (Name w) = a_test (name_fixed (look_up G w) l) ∷ []
constant_parts G l (Element w None i) =
    a_constant G i ∷ a_test (no_constant (is_some (look_up G w)) l) ∷ []
constant_parts G l (Element w (Some x) i) =
    a_constant G x ∷ a_constant G i ∷ a_test (no_constant (is_some (look_up G w)) l) ∷ []
constant_parts G l (Call w es) =
    map (a_constant G) es ++ a_test (no_constant (calls_known (look_up G w)) l) ∷ []
constant_parts G l (Group e) = a_constant G e ∷ []
constant_parts G l (Unary op e) = a_constant G e ∷ []
constant_parts G l (Cast to e) = a_constant G e ∷ []
constant_parts G l (Bump op e) = a_constant G e ∷ a_test (Some (Mismatch l)) ∷ []
constant_parts G l (Binary op x y) = a_constant G x ∷ a_constant G y ∷ []
constant_parts G l (Choice t x y) = a_constant G t ∷ a_constant G x ∷ a_constant G y ∷ []
constant_parts G l (Assign op x y) =
    a_constant G x ∷ a_constant G y ∷ a_test (Some (Mismatch l)) ∷ []
constant_parts G l (Comma x y) =
    a_constant G x ∷ a_constant G y ∷ a_test (Some (Mismatch l)) ∷ []
