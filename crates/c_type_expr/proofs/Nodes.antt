-- The definitions at each node.
use Rattle.std.proofs.Common.{◌≡◌, ℕ, suc, true, false, List, [], ◌∷◌, map, length, max}
use Rattle.std.proofs.Common.{Option, Some, None, refl, sym, ap, ◌∙◌}
use Rattle.c_tree.specs.declared.token.Kind.{Kind}
use Rattle.c_tree.specs.declared.tree.UnaryOp.{UnaryOp}
use Rattle.c_tree.specs.declared.tree.BumpOp.{BumpOp}
use Rattle.c_tree.specs.declared.tree.BinaryOp.{BinaryOp}
use Rattle.c_tree.specs.declared.tree.Expr.{Expr, fold_out-Expr, size-Expr}
use Rattle.c_tree.specs.declared.tree.ExprNode.{ExprNode, map-ExprNode, fold-roll-ExprNode}
use Rattle.c_tree.specs.declared.tree.ExprNode.{fold-ExprNode, roll-ExprNode}
use Rattle.c_tree.specs.declared.tree.ExprNode.TheVariants as node
use Rattle.c_tree.specs.declared.tree.ExprNode.TheOpen.{ExprNode-F}
use Rattle.c_tree.specs.declared.typed.Slot.{Slot}
use Rattle.c_tree.specs.declared.typed.TypedExpr.{TypedExpr}
use Rattle.c_tree.specs.declared.typed.TypedNode.TheVariants as typed
use Rattle.c_type_expr.specs.Scope.{Scope, look_up}
use Rattle.c_type_expr.specs.declared.fault.TypeFault.TheVariants.{Mismatch}
use Rattle.c_type_expr.specs.declared.spot.Spot.{Spot}
use Rattle.c_type_expr.specs.declared.role.Role.{Role}
use Rattle.c_type_expr.specs.declared.role.Role.TheVariants.{Value, Free}
use Rattle.c_type_expr.specs.Blames.{Blame, first, unless}
use Rattle.c_type_expr.specs.Faults.{Judged, node_judged, at_offset, judged, is_place, fault, left_role}
use Rattle.c_type_expr.specs.Faults.{unwanted_value, name_fault, element_fault, call_fault, slots_of}
use Rattle.c_type_expr.specs.Faults.{role_at, rest_of, args_blame}
use Rattle.c_type_expr.specs.inside.Faults.{args_fault}
use Rattle.c_type_expr.specs.Trees.{name_tree, array_kind, array_place, result_kind, callee_of, argument, arguments}
use Rattle.c_type_expr.specs.Trees.{node_tree, of_node, tree}
use Rattle.c_type_expr.specs.inside.Trees.{args_tree}
use Rattle.c_type_expr.specs.Conversions.{a, unary, cast, bump, binary, choice, assign, comma}
use Rattle.c_type_expr.specs.Roles.{at, spot_of}

-- the size of a first index, where there is one
abbrev pub row_size : Option Expr → ℕ
row_size None = 0
row_size (Some e) = size-Expr e

abbrev A : Type 0
A = ℕ → Judged

abbrev B : Type 0
B = ℕ → Scope → TypedExpr

abbrev C : Type 0
C = Scope → TypedExpr

judged_by : (l : Spot) (n : ExprNode) (x : ExprNode-F ExprNode Expr) → roll-ExprNode x ≡ n
    → judged (at l n) ≡ node_judged (map-ExprNode ExprNode Expr A Judged
    (fold-ExprNode A Judged node_judged at_offset) judged x) l.offset
unfolding judged
judged_by l n x e =
    fold_out-Expr A Judged node_judged at_offset (at l n)
    ∙ ap (λ (m : ExprNode). fold-ExprNode A Judged node_judged at_offset m l.offset) (sym e)
    ∙ ap (λ (f : A). f l.offset) (fold-roll-ExprNode A Judged node_judged at_offset x)

tree_by : (l : Spot) (n : ExprNode) (x : ExprNode-F ExprNode Expr) → roll-ExprNode x ≡ n
    → tree (at l n) ≡ node_tree (map-ExprNode ExprNode Expr B C
    (fold-ExprNode B C node_tree of_node) tree x) l.at
unfolding tree
tree_by l n x e =
    fold_out-Expr B C node_tree of_node (at l n)
    ∙ ap (λ (m : ExprNode). fold-ExprNode B C node_tree of_node m l.at) (sym e)
    ∙ ap (λ (f : B). f l.at) (fold-roll-ExprNode B C node_tree of_node x)

-- the greatest size of some expressions
abbrev pub deepest : List Expr → ℕ
deepest [] = 0
deepest (e ∷ es) = max (size-Expr e) (deepest es)

length_map : {X Y : Type 0} (f : X → Y) (xs : List X) → length (map f xs) ≡ length xs
length_map f [] = refl
length_map f (x ∷ xs) = ap suc (length_map f xs)

args_same : (slots : List Slot) (es : List Expr) (G : Scope)
    → args_blame slots (map judged es) G ≡ args_fault slots es G
unfolding fault
args_same slots [] G = refl
args_same slots (e ∷ es) G = ap (λ (b : Blame). first (fault e G (role_at slots)) b)
    (args_same (rest_of slots) es G)

trees_same : (slots : List Slot) (es : List Expr) (G : Scope)
    → arguments slots (map tree es) G ≡ args_tree slots es G
trees_same slots [] G = refl
trees_same slots (e ∷ es) G = ap (λ (ts : List TypedExpr). argument slots (tree e G) ∷ ts)
    (trees_same (rest_of slots) es G)

module _ (G : Scope) (r : Role) (l : Spot) where
  -- The first fault of a number.
  pub fault-Number : (v : ℕ) (k : Kind) → fault (at l (node.Number v k)) G r ≡ unwanted_value r l.offset
  unfolding fault is_place
  fault-Number v k = ap (λ (j : Judged). j.blame G r)
      (judged_by l _ (ExprNode-F.Number v k) (node.rolls-Number v k))

  -- The first fault of a name.
  pub fault-Name : (w : List ℕ) → fault (at l (node.Name w)) G r ≡ name_fault (look_up G w) r l.offset
  unfolding fault is_place
  fault-Name w = ap (λ (j : Judged). j.blame G r)
      (judged_by l _ (ExprNode-F.Name w) (node.rolls-Name w))

  -- The first fault of an element.
  pub fault-Element : (w : List ℕ) (i : Expr)
      → fault (at l (node.Element w None i)) G r
      ≡ first (fault i G Value) (element_fault (look_up G w) false r l.offset)
  unfolding fault is_place
  fault-Element w i = ap (λ (j : Judged). j.blame G r)
      (judged_by l _ (ExprNode-F.Element w None i) (node.rolls-Element w None i))

  -- The first fault of an element of two indexes.
  pub fault-Row : (w : List ℕ) (x i : Expr)
      → fault (at l (node.Element w (Some x) i)) G r
      ≡ first (fault x G Value) (first (fault i G Value) (element_fault (look_up G w) true r l.offset))
  unfolding fault is_place
  fault-Row w x i = ap (λ (j : Judged). j.blame G r)
      (judged_by l _ (ExprNode-F.Element w (Some x) i) (node.rolls-Element w (Some x) i))

  -- The first fault of a call.
  pub fault-Call : (w : List ℕ) (es : List Expr)
      → fault (at l (node.Call w es)) G r ≡ first (args_fault (slots_of (look_up G w)) es G)
      (call_fault (look_up G w) (length es) r l.offset)
  unfolding fault is_place
  fault-Call w es =
      ap (λ (j : Judged). j.blame G r) (judged_by l _ (ExprNode-F.Call w es) (node.rolls-Call w es))
      ∙ ap (λ (b : Blame). first b (call_fault (look_up G w) (length (map judged es)) r l.offset))
      (args_same (slots_of (look_up G w)) es G)
      ∙ ap (λ n. first (args_fault (slots_of (look_up G w)) es G) (call_fault (look_up G w) n r l.offset))
      (length_map judged es)

  -- The first fault of an expression in parentheses.
  pub fault-Group : (e : Expr) → fault (at l (node.Group e)) G r ≡ fault e G r
  unfolding fault is_place
  fault-Group e = ap (λ (j : Judged). j.blame G r)
      (judged_by l _ (ExprNode-F.Group e) (node.rolls-Group e))

  -- The first fault of an operation on one operand.
  pub fault-Unary : (op : UnaryOp) (e : Expr)
      → fault (at l (node.Unary op e)) G r ≡ first (fault e G Value) (unwanted_value r l.offset)
  unfolding fault is_place
  fault-Unary op e = ap (λ (j : Judged). j.blame G r)
      (judged_by l _ (ExprNode-F.Unary op e) (node.rolls-Unary op e))

  -- The first fault of a cast.
  pub fault-Cast : (to : Kind) (e : Expr)
      → fault (at l (node.Cast to e)) G r ≡ first (fault e G Value) (unwanted_value r l.offset)
  unfolding fault is_place
  fault-Cast to e = ap (λ (j : Judged). j.blame G r)
      (judged_by l _ (ExprNode-F.Cast to e) (node.rolls-Cast to e))

  -- The first fault of `++` and `--`.
  pub fault-Bump : (op : BumpOp) (e : Expr)
      → fault (at l (node.Bump op e)) G r ≡ first (fault e G (left_role (is_place e)))
      (first (unless (is_place e) (Mismatch l.offset)) (unwanted_value r l.offset))
  unfolding fault is_place
  fault-Bump op e = ap (λ (j : Judged). j.blame G r)
      (judged_by l _ (ExprNode-F.Bump op e) (node.rolls-Bump op e))

  -- The first fault of an operation on two operands.
  pub fault-Binary : (op : BinaryOp) (x y : Expr)
      → fault (at l (node.Binary op x y)) G r
      ≡ first (fault x G Value) (first (fault y G Value) (unwanted_value r l.offset))
  unfolding fault is_place
  fault-Binary op x y = ap (λ (j : Judged). j.blame G r)
      (judged_by l _ (ExprNode-F.Binary op x y) (node.rolls-Binary op x y))

  -- The first fault of a choice.
  pub fault-Choice : (t x y : Expr) → fault (at l (node.Choice t x y)) G r
      ≡ first (fault t G Value) (first (fault x G Value) (first (fault y G Value) (unwanted_value r l.offset)))
  unfolding fault is_place
  fault-Choice t x y = ap (λ (j : Judged). j.blame G r)
      (judged_by l _ (ExprNode-F.Choice t x y) (node.rolls-Choice t x y))

  -- The first fault of an assignment.
  pub fault-Assign : (op : Option BinaryOp) (x y : Expr)
      → fault (at l (node.Assign op x y)) G r
      ≡ first (fault x G (left_role (is_place x)))
      (first (fault y G Value) (first (unless (is_place x) (Mismatch l.offset)) (unwanted_value r l.offset)))
  unfolding fault is_place
  fault-Assign op x y = ap (λ (j : Judged). j.blame G r)
      (judged_by l _ (ExprNode-F.Assign op x y) (node.rolls-Assign op x y))

  -- The first fault of a comma.
  pub fault-Comma : (x y : Expr) → fault (at l (node.Comma x y)) G r
      ≡ first (fault x G Free) (first (fault y G Value) (unwanted_value r l.offset))
  unfolding fault is_place
  fault-Comma x y = ap (λ (j : Judged). j.blame G r)
      (judged_by l _ (ExprNode-F.Comma x y) (node.rolls-Comma x y))

module _ (G : Scope) (l : Spot) where
  -- The typed tree of a number.
  pub tree-Number : (v : ℕ) (k : Kind) → tree (at l (node.Number v k)) G
      ≡ a l.at (Some k) (typed.Number v)
  tree-Number v k = ap (λ (f : C). f G) (tree_by l _ (ExprNode-F.Number v k)
      (node.rolls-Number v k))

  -- The typed tree of a name.
  pub tree-Name : (w : List ℕ) → tree (at l (node.Name w)) G ≡ name_tree l.at (look_up G w)
  tree-Name w = ap (λ (f : C). f G) (tree_by l _ (ExprNode-F.Name w) (node.rolls-Name w))

  -- The typed tree of an element.
  pub tree-Element : (w : List ℕ) (i : Expr)
      → tree (at l (node.Element w None i)) G ≡ a l.at (Some (array_kind (look_up G w)))
      (typed.Element (array_place (look_up G w)) None (tree i G))
  tree-Element w i = ap (λ (f : C). f G) (tree_by l _ (ExprNode-F.Element w None i)
      (node.rolls-Element w None i))

  -- The typed tree of an element of two indexes.
  pub tree-Row : (w : List ℕ) (x i : Expr)
      → tree (at l (node.Element w (Some x) i)) G ≡ a l.at (Some (array_kind (look_up G w)))
      (typed.Element (array_place (look_up G w)) (Some (tree x G)) (tree i G))
  tree-Row w x i = ap (λ (f : C). f G) (tree_by l _ (ExprNode-F.Element w (Some x) i)
      (node.rolls-Element w (Some x) i))

  -- The typed tree of a call.
  pub tree-Call : (w : List ℕ) (es : List Expr)
      → tree (at l (node.Call w es)) G ≡ a l.at (result_kind (look_up G w))
      (typed.Call (callee_of (look_up G w)) (args_tree (slots_of (look_up G w)) es G))
  tree-Call w es =
      ap (λ (f : C). f G) (tree_by l _ (ExprNode-F.Call w es) (node.rolls-Call w es))
      ∙ ap (λ (ts : List TypedExpr). a l.at (result_kind (look_up G w))
      (typed.Call (callee_of (look_up G w)) ts)) (trees_same (slots_of (look_up G w)) es G)

  -- The typed tree of an expression in parentheses.
  pub tree-Group : (e : Expr) → tree (at l (node.Group e)) G ≡ tree e G
  tree-Group e = ap (λ (f : C). f G) (tree_by l _ (ExprNode-F.Group e) (node.rolls-Group e))

  -- The typed tree of an operation on one operand.
  pub tree-Unary : (op : UnaryOp) (e : Expr) → tree (at l (node.Unary op e)) G ≡ unary l.at op (tree e G)
  tree-Unary op e = ap (λ (f : C). f G) (tree_by l _ (ExprNode-F.Unary op e)
      (node.rolls-Unary op e))

  -- The typed tree of a cast.
  pub tree-Cast : (to : Kind) (e : Expr) → tree (at l (node.Cast to e)) G ≡ cast l.at to (tree e G)
  tree-Cast to e = ap (λ (f : C). f G) (tree_by l _ (ExprNode-F.Cast to e) (node.rolls-Cast to e))

  -- The typed tree of `++` and `--`.
  pub tree-Bump : (op : BumpOp) (e : Expr) → tree (at l (node.Bump op e)) G ≡ bump l.at op (tree e G)
  tree-Bump op e = ap (λ (f : C). f G) (tree_by l _ (ExprNode-F.Bump op e) (node.rolls-Bump op e))

  -- The typed tree of an operation on two operands.
  pub tree-Binary : (op : BinaryOp) (x y : Expr)
      → tree (at l (node.Binary op x y)) G ≡ binary l.at op (tree x G) (tree y G)
  tree-Binary op x y = ap (λ (f : C). f G)
      (tree_by l _ (ExprNode-F.Binary op x y) (node.rolls-Binary op x y))

  -- The typed tree of a choice.
  pub tree-Choice : (t x y : Expr) → tree (at l (node.Choice t x y)) G
      ≡ choice l.at (tree t G) (tree x G) (tree y G)
  tree-Choice t x y = ap (λ (f : C). f G)
      (tree_by l _ (ExprNode-F.Choice t x y) (node.rolls-Choice t x y))

  -- The typed tree of an assignment.
  pub tree-Assign : (op : Option BinaryOp) (x y : Expr)
      → tree (at l (node.Assign op x y)) G ≡ assign l.at op (tree x G) (tree y G)
  tree-Assign op x y = ap (λ (f : C). f G)
      (tree_by l _ (ExprNode-F.Assign op x y) (node.rolls-Assign op x y))

  -- The typed tree of a comma.
  pub tree-Comma : (x y : Expr) → tree (at l (node.Comma x y)) G ≡ comma l.at (tree x G) (tree y G)
  tree-Comma x y = ap (λ (f : C). f G) (tree_by l _ (ExprNode-F.Comma x y) (node.rolls-Comma x y))

module _ (f : Expr) where
  -- Whether a number is a place that may be written to.
  pub place-Number : (v : ℕ) (k : Kind) → f.node ≡ node.Number v k → is_place f ≡ false
  unfolding is_place
  place-Number v k h = ap (λ n. is_place (at (spot_of f) n)) h
      ∙ ap (λ (j : Judged). j.place) (judged_by (spot_of f) _ (ExprNode-F.Number v k)
      (node.rolls-Number v k))

  -- Whether a name is a place that may be written to.
  pub place-Name : (w : List ℕ) → f.node ≡ node.Name w → is_place f ≡ true
  unfolding is_place
  place-Name w h = ap (λ n. is_place (at (spot_of f) n)) h
      ∙ ap (λ (j : Judged). j.place) (judged_by (spot_of f) _ (ExprNode-F.Name w) (node.rolls-Name w))

  -- Whether an element is a place that may be written to.
  pub place-Element : (w : List ℕ) (r : Option Expr) (i : Expr) → f.node ≡ node.Element w r i
      → is_place f ≡ true
  unfolding is_place
  place-Element w r i h = ap (λ n. is_place (at (spot_of f) n)) h
      ∙ ap (λ (j : Judged). j.place) (judged_by (spot_of f) _ (ExprNode-F.Element w r i)
      (node.rolls-Element w r i))

  -- Whether a call is a place that may be written to.
  pub place-Call : (w : List ℕ) (es : List Expr) → f.node ≡ node.Call w es → is_place f ≡ false
  unfolding is_place
  place-Call w es h = ap (λ n. is_place (at (spot_of f) n)) h
      ∙ ap (λ (j : Judged). j.place) (judged_by (spot_of f) _ (ExprNode-F.Call w es)
      (node.rolls-Call w es))

  -- Whether an expression in parentheses is a place that may be written to.
  pub place-Group : (e : Expr) → f.node ≡ node.Group e → is_place f ≡ is_place e
  unfolding is_place
  place-Group e h = ap (λ n. is_place (at (spot_of f) n)) h
      ∙ ap (λ (j : Judged). j.place) (judged_by (spot_of f) _ (ExprNode-F.Group e) (node.rolls-Group e))

  -- Whether an operation on one operand is a place that may be written to.
  pub place-Unary : (op : UnaryOp) (e : Expr) → f.node ≡ node.Unary op e → is_place f ≡ false
  unfolding is_place
  place-Unary op e h = ap (λ n. is_place (at (spot_of f) n)) h
      ∙ ap (λ (j : Judged). j.place) (judged_by (spot_of f) _ (ExprNode-F.Unary op e)
      (node.rolls-Unary op e))

  -- Whether a cast is a place that may be written to.
  pub place-Cast : (to : Kind) (e : Expr) → f.node ≡ node.Cast to e → is_place f ≡ false
  unfolding is_place
  place-Cast to e h = ap (λ n. is_place (at (spot_of f) n)) h
      ∙ ap (λ (j : Judged). j.place) (judged_by (spot_of f) _ (ExprNode-F.Cast to e)
      (node.rolls-Cast to e))

  -- Whether `++` and `--` are places that may be written to.
  pub place-Bump : (op : BumpOp) (e : Expr) → f.node ≡ node.Bump op e → is_place f ≡ false
  unfolding is_place
  place-Bump op e h = ap (λ n. is_place (at (spot_of f) n)) h
      ∙ ap (λ (j : Judged). j.place) (judged_by (spot_of f) _ (ExprNode-F.Bump op e)
      (node.rolls-Bump op e))

  -- Whether an operation on two operands is a place that may be written to.
  pub place-Binary : (op : BinaryOp) (x y : Expr) → f.node ≡ node.Binary op x y → is_place f ≡ false
  unfolding is_place
  place-Binary op x y h = ap (λ n. is_place (at (spot_of f) n)) h
      ∙ ap (λ (j : Judged). j.place) (judged_by (spot_of f) _ (ExprNode-F.Binary op x y)
      (node.rolls-Binary op x y))

  -- Whether a choice is a place that may be written to.
  pub place-Choice : (t x y : Expr) → f.node ≡ node.Choice t x y → is_place f ≡ false
  unfolding is_place
  place-Choice t x y h = ap (λ n. is_place (at (spot_of f) n)) h
      ∙ ap (λ (j : Judged). j.place) (judged_by (spot_of f) _ (ExprNode-F.Choice t x y)
      (node.rolls-Choice t x y))

  -- Whether an assignment is a place that may be written to.
  pub place-Assign : (op : Option BinaryOp) (x y : Expr) → f.node ≡ node.Assign op x y
      → is_place f ≡ false
  unfolding is_place
  place-Assign op x y h = ap (λ n. is_place (at (spot_of f) n)) h
      ∙ ap (λ (j : Judged). j.place) (judged_by (spot_of f) _ (ExprNode-F.Assign op x y)
      (node.rolls-Assign op x y))

  -- Whether a comma is a place that may be written to.
  pub place-Comma : (x y : Expr) → f.node ≡ node.Comma x y → is_place f ≡ false
  unfolding is_place
  place-Comma x y h = ap (λ n. is_place (at (spot_of f) n)) h
      ∙ ap (λ (j : Judged). j.place) (judged_by (spot_of f) _ (ExprNode-F.Comma x y)
      (node.rolls-Comma x y))

pub ruleset on_number = (fault-Number, tree-Number)

pub ruleset on_name = (fault-Name, tree-Name)

pub ruleset on_element = (fault-Element, tree-Element)

pub ruleset on_row_element = (fault-Row, tree-Row)

pub ruleset on_call = (fault-Call, tree-Call)

pub ruleset on_group = (fault-Group, tree-Group)

pub ruleset on_unary = (fault-Unary, tree-Unary)

pub ruleset on_cast = (fault-Cast, tree-Cast)

pub ruleset on_bump = (fault-Bump, tree-Bump)

pub ruleset on_binary = (fault-Binary, tree-Binary)

pub ruleset on_choice = (fault-Choice, tree-Choice)

pub ruleset on_assign = (fault-Assign, tree-Assign)

pub ruleset on_comma = (fault-Comma, tree-Comma)
