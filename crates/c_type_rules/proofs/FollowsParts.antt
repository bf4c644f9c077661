-- What the folds find first in an expression is what is found first in the order of the text.
use Rattle.std.proofs.Common.{◌≡◌, List, [], ◌∷◌, ◌++◌, map, length}
use Rattle.std.proofs.Common.{Some, None, refl, sym, ap, ◌∙◌}
use Rattle.std.specs.Prelude.{option_map}
use Rattle.c_tree.specs.declared.tree.Expr.{Expr}
use Rattle.c_tree.specs.declared.tree.ExprNode.{ExprNode, out-ExprNode, roll-ExprNode, roll-out-ExprNode}
use Rattle.c_tree.specs.declared.tree.ExprNode.TheOpen.{ExprNode-F}
use Rattle.c_tree.specs.declared.tree.ExprNode.TheVariants as node
use Rattle.c_tree.specs.declared.tree.ForInit.{ForInit, out-ForInit, roll-ForInit, roll-out-ForInit}
use Rattle.c_tree.specs.declared.tree.ForInit.TheOpen.{ForInit-F, StmtNode-F}
use Rattle.c_tree.specs.declared.tree.Section.{Section}
use Rattle.c_tree.specs.declared.tree.Stmt.{Stmt}
use Rattle.c_tree.specs.declared.tree.StmtNode.{StmtNode, out-StmtNode, roll-StmtNode, roll-out-StmtNode}
use Rattle.c_tree.specs.declared.typed.Slot.{Slot}
use Rattle.c_type_expr.specs.Scope.{Scope, look_up}
use Rattle.c_type_expr.specs.declared.role.Role.{Role}
use Rattle.c_type_expr.specs.Blames.{Blame, first}
use Rattle.c_type_expr.specs.Faults.{fault, call_fault, slots_of, role_at, rest_of}
use Rattle.c_type_expr.specs.inside.Faults.{args_fault}
use Rattle.c_type_expr.specs.Constants.{not_fixed, all_fixed, no_constant, calls_known, full}
use Rattle.c_type_expr.specs.Constants.{full_constant, size_fault}
use Rattle.c_type_expr.specs.Roles.{at, spot_of}
use Rattle.c_type_expr.proofs.Nodes.{fault-Number, fault-Name, fault-Element, fault-Row, fault-Call}
use Rattle.c_type_expr.proofs.Nodes.{fault-Group, fault-Unary, fault-Cast, fault-Bump, fault-Binary}
use Rattle.c_type_expr.proofs.Nodes.{fault-Choice, fault-Assign, fault-Comma}
use Rattle.c_type_expr.proofs.Fixed.{fixed-Number, fixed-Name, fixed-Element, fixed-Call}
use Rattle.c_type_expr.proofs.Fixed.{fixed-Group, fixed-Unary, fixed-Cast, fixed-Bump, fixed-Binary}
use Rattle.c_type_expr.proofs.Fixed.{fixed-Choice, fixed-Assign, fixed-Comma}
use Rattle.c_type.specs.LeftOut.{full_if}
use Rattle.c_type.specs.Statements.{part, beginning_of, all_fault, else_fault}
use Rattle.c_type.specs.States.{nowhere}
use Rattle.c_type.specs.Statements.{labels_fault, sections_fault}
use Rattle.c_type.specs.inside.Statements.{section_of}
use Rattle.c_type.specs.inside.Units.{values_fault}
use Rattle.c_type.specs.Functions.{body_part}
use Rattle.c_type.specs.inside.Functions.{param_fault, params_fault}
use Rattle.c_type.specs.Programs.{table}
use Rattle.c_type.specs.inside.Programs.{item_fault, items_fault, program_fault}
use Rattle.c_type_rules.specs.Judgements.{Judgement, a_test, an_expression, a_full, an_optional}
use Rattle.c_type_rules.specs.Judgements.{a_constant, a_full_constant, a_size, a_statement}
use Rattle.c_type_rules.specs.Judgements.{some_statements, an_else, a_beginning, a_body, a_param}
use Rattle.c_type_rules.specs.Judgements.{some_labels, some_sections}
use Rattle.c_type_rules.specs.Judgements.{some_params, some_values, an_item, some_items, a_unit}
use Rattle.c_type_rules.specs.Judgements.{argument_parts, expression_parts, constant_parts}
use Rattle.c_type.proofs.Rows.{assoc}

-- the fault that the folds find
abbrev pub fault_of : Judgement → Blame
fault_of (a_test b) = b
fault_of (an_expression G r e) = fault e G r
fault_of (a_full G r e) = full e r G
fault_of (an_optional G r e) = full_if e r G
fault_of (a_constant G e) = not_fixed e G
fault_of (a_full_constant G e) = full_constant e G
fault_of (a_size G e) = size_fault e G
fault_of (a_statement b v s) = (part s).fault b v
fault_of (some_statements b v ss) = all_fault (map part ss) b v
fault_of (an_else b v other) = else_fault (option_map part other) b v
fault_of (a_beginning b v i) = (beginning_of i).fault b v
fault_of (some_labels G k seen ls) = labels_fault k seen ls G
fault_of (some_sections k seen b v xs) = sections_fault k seen (map section_of xs) b v
fault_of (a_body v s) = (body_part s).fault nowhere v
fault_of (a_param d G seen p) = param_fault d G seen p
fault_of (some_params d G seen ps) = params_fault d G seen ps
fault_of (some_values G k es) = values_fault es G
fault_of (an_item unit U t) = item_fault (table unit) t U
fault_of (some_items unit U ts) = items_fault (table unit) ts U
fault_of (a_unit p) = program_fault p

-- the first of several faults
abbrev pub firsts : List Blame → Blame
firsts [] = None
firsts (b ∷ []) = b
firsts (b ∷ c ∷ bs) = first b (firsts (c ∷ bs))

-- the first fault of several judgements
abbrev pub first_of : List Judgement → Blame
first_of xs = firsts (map fault_of xs)

-- a node is what its open form rolls up to
node_is : (n : ExprNode) (x : ExprNode-F ExprNode Expr) → out-ExprNode n ≡ x → n ≡ roll-ExprNode x
node_is n x e = sym (roll-out-ExprNode n) ∙ ap roll-ExprNode e

-- a statement's node is the one that was opened
pub statement_is : (n : StmtNode) (x : StmtNode-F ForInit StmtNode Section Stmt) → out-StmtNode n ≡ x
    → n ≡ roll-StmtNode x
statement_is n x e = sym (roll-out-StmtNode n) ∙ ap roll-StmtNode e

-- the first part of a `for` is the one that was opened
pub beginning_is : (i : ForInit) (x : ForInit-F ForInit StmtNode Section Stmt) → out-ForInit i ≡ x
    → i ≡ roll-ForInit x
beginning_is i x e = sym (roll-out-ForInit i) ∙ ap roll-ForInit e

-- EXPRESSIONS

-- arguments, and then the call
arguments_follow : (G : Scope) (slots : List Slot) (es : List Expr) (b : Blame)
    → first (args_fault slots es G) b ≡ first_of (argument_parts G slots es ++ a_test b ∷ [])
arguments_follow G slots [] b = refl
arguments_follow G slots (e ∷ []) b = assoc (fault e G (role_at slots)) None b
arguments_follow G slots (e ∷ d ∷ es) b =
    assoc (fault e G (role_at slots)) (args_fault (rest_of slots) (d ∷ es) G) b
    ∙ ap (λ c. first (fault e G (role_at slots)) c) (arguments_follow G (rest_of slots) (d ∷ es) b)

constants_follow : (G : Scope) (es : List Expr) (b : Blame)
    → first (all_fixed (map not_fixed es) G) b ≡ first_of (map (a_constant G) es ++ a_test b ∷ [])
constants_follow G [] b = refl
constants_follow G (e ∷ []) b = assoc (not_fixed e G) None b
constants_follow G (e ∷ d ∷ es) b =
    assoc (not_fixed e G) (all_fixed (map not_fixed (d ∷ es)) G) b
    ∙ ap (λ c. first (not_fixed e G) c) (constants_follow G (d ∷ es) b)

module _ (G : Scope) (r : Role) (e : Expr) where
  -- the same expression with another node
  by_node : (n : ExprNode) → e.node ≡ n → fault e G r ≡ fault (at (spot_of e) n) G r
  by_node n h = ap (λ n. fault (at (spot_of e) n) G r) h

  -- the fault of an expression is the first one of its parts
  pub expression_follows : (x : ExprNode-F ExprNode Expr) → out-ExprNode e.node ≡ x
      → fault e G r ≡ first_of (expression_parts G r e.offset x)
  expression_follows (ExprNode-F.Number v k) h =
      by_node _ (node_is _ _ h ∙ node.rolls-Number v k) ∙ fault-Number G r (spot_of e) v k
  expression_follows (ExprNode-F.Name w) h =
      by_node _ (node_is _ _ h ∙ node.rolls-Name w) ∙ fault-Name G r (spot_of e) w
  expression_follows (ExprNode-F.Element w None i) h =
      by_node _ (node_is _ _ h ∙ node.rolls-Element w None i) ∙ fault-Element G r (spot_of e) w i
  expression_follows (ExprNode-F.Element w (Some x) i) h =
      by_node _ (node_is _ _ h ∙ node.rolls-Element w (Some x) i) ∙ fault-Row G r (spot_of e) w x i
  expression_follows (ExprNode-F.Call w es) h =
      by_node _ (node_is _ _ h ∙ node.rolls-Call w es) ∙ fault-Call G r (spot_of e) w es
      ∙ arguments_follow G (slots_of (look_up G w)) es (call_fault (look_up G w) (length es) r e.offset)
  expression_follows (ExprNode-F.Group x) h =
      by_node _ (node_is _ _ h ∙ node.rolls-Group x) ∙ fault-Group G r (spot_of e) x
  expression_follows (ExprNode-F.Unary op x) h =
      by_node _ (node_is _ _ h ∙ node.rolls-Unary op x) ∙ fault-Unary G r (spot_of e) op x
  expression_follows (ExprNode-F.Cast k x) h =
      by_node _ (node_is _ _ h ∙ node.rolls-Cast k x) ∙ fault-Cast G r (spot_of e) k x
  expression_follows (ExprNode-F.Bump op x) h =
      by_node _ (node_is _ _ h ∙ node.rolls-Bump op x) ∙ fault-Bump G r (spot_of e) op x
  expression_follows (ExprNode-F.Binary op x y) h =
      by_node _ (node_is _ _ h ∙ node.rolls-Binary op x y) ∙ fault-Binary G r (spot_of e) op x y
  expression_follows (ExprNode-F.Choice t x y) h =
      by_node _ (node_is _ _ h ∙ node.rolls-Choice t x y) ∙ fault-Choice G r (spot_of e) t x y
  expression_follows (ExprNode-F.Assign op x y) h =
      by_node _ (node_is _ _ h ∙ node.rolls-Assign op x y) ∙ fault-Assign G r (spot_of e) op x y
  expression_follows (ExprNode-F.Comma x y) h =
      by_node _ (node_is _ _ h ∙ node.rolls-Comma x y) ∙ fault-Comma G r (spot_of e) x y

module _ (G : Scope) (e : Expr) where
  -- the fault of a constant expression is the first one of its parts
  pub constant_follows : (x : ExprNode-F ExprNode Expr) → out-ExprNode e.node ≡ x
      → not_fixed e G ≡ first_of (constant_parts G e.offset x)
  constant_follows (ExprNode-F.Number v k) h = fixed-Number e G v k (node_is _ _ h ∙ node.rolls-Number v k)
  constant_follows (ExprNode-F.Name w) h = fixed-Name e G w (node_is _ _ h ∙ node.rolls-Name w)
  constant_follows (ExprNode-F.Element w None i) h =
      fixed-Element e G w None i (node_is _ _ h ∙ node.rolls-Element w None i)
  constant_follows (ExprNode-F.Element w (Some x) i) h =
      fixed-Element e G w (Some x) i (node_is _ _ h ∙ node.rolls-Element w (Some x) i)
  constant_follows (ExprNode-F.Call w es) h =
      fixed-Call e G w es (node_is _ _ h ∙ node.rolls-Call w es)
      ∙ constants_follow G es (no_constant (calls_known (look_up G w)) e.offset)
  constant_follows (ExprNode-F.Group x) h = fixed-Group e G x (node_is _ _ h ∙ node.rolls-Group x)
  constant_follows (ExprNode-F.Unary op x) h = fixed-Unary e G op x (node_is _ _ h ∙ node.rolls-Unary op x)
  constant_follows (ExprNode-F.Cast k x) h = fixed-Cast e G k x (node_is _ _ h ∙ node.rolls-Cast k x)
  constant_follows (ExprNode-F.Bump op x) h = fixed-Bump e G op x (node_is _ _ h ∙ node.rolls-Bump op x)
  constant_follows (ExprNode-F.Binary op x y) h = fixed-Binary e G op x y (node_is _ _ h ∙ node.rolls-Binary op x y)
  constant_follows (ExprNode-F.Choice t x y) h = fixed-Choice e G t x y (node_is _ _ h ∙ node.rolls-Choice t x y)
  constant_follows (ExprNode-F.Assign op x y) h = fixed-Assign e G op x y (node_is _ _ h ∙ node.rolls-Assign op x y)
  constant_follows (ExprNode-F.Comma x y) h = fixed-Comma e G x y (node_is _ _ h ∙ node.rolls-Comma x y)
