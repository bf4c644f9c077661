-- The operators that the parser of expressions takes tokens for.
use Rattle.std.specs.Prelude.{ℕ, Bool, true, false, nat_eq, if◌then◌else◌, [], ◌∷◌, Option, Some, None}
use Rattle.c_tree.specs.declared.token.Form.{Form}
use Rattle.c_tree.specs.declared.token.Form.TheVariants as form
use Rattle.c_tree.specs.declared.token.Mark.{Mark}
use Rattle.c_tree.specs.declared.token.Mark.TheVariants as mark
use Rattle.c_tree.specs.declared.tree.UnaryOp.TheVariants as unary
use Rattle.c_tree.specs.declared.tree.BinaryOp.{BinaryOp}
use Rattle.c_tree.specs.declared.tree.Expr.{Expr}
use Rattle.c_tree.specs.declared.tree.ExprNode.{ExprNode, out-ExprNode}
use Rattle.c_tree.specs.declared.tree.ExprNode.TheOpen.{ExprNode-F}
use Rattle.c_tree.specs.Marks.{operator, Holds}
use Rattle.c_tree.specs.ByMark.{marked_operator, assigned_by}
use Rattle.c_grammar.specs.Tokens.{Tokens}
use Rattle.c_grammar.specs.Operators.{Joiner, op, comma, below, Prefix, sign, increase, decrease}
use Rattle.c_grammar.specs.Operators.{Suffix, increased, decreased, Assigner, simple, compound}

-- an operator as a joiner
abbrev pub joiner_of : Option BinaryOp → Option Joiner
joiner_of None = None
joiner_of (Some o) = Some (op o)

-- the operator that the mark is
abbrev pub marked_joiner : Mark → Option Joiner
marked_joiner mark.Comma = Some comma
marked_joiner m = joiner_of (marked_operator m)

-- the operator, where it joins at this level
abbrev pub if_below : ℕ → Option Joiner → Option Joiner
if_below k None = None
if_below k (Some j) = if nat_eq (below j) k then Some j else None

-- the joiner that a token is, if phrases of the level join by it
abbrev pub joiner : ℕ → Form → Option Joiner
joiner k (form.Mark m) = if_below k (marked_joiner m)
joiner k _ = None

-- the prefix that the token is
abbrev pub prefix_of : Form → Option Prefix
prefix_of (form.Mark mark.Plus) = Some (sign unary.Plus)
prefix_of (form.Mark mark.Minus) = Some (sign unary.Minus)
prefix_of (form.Mark mark.Tilde) = Some (sign unary.Complement)
prefix_of (form.Mark mark.Not) = Some (sign unary.Not)
prefix_of (form.Mark mark.PlusPlus) = Some increase
prefix_of (form.Mark mark.MinusMinus) = Some decrease
prefix_of _ = None

-- the suffix that the token is
abbrev pub suffix_of : Form → Option Suffix
suffix_of (form.Mark mark.PlusPlus) = Some increased
suffix_of (form.Mark mark.MinusMinus) = Some decreased
suffix_of _ = None

-- what is made of a mark that is held, if one is
abbrev pub holding : {A : Type 0} → (x : Option Mark) → (Holds x → A) → Option A
holding None f = None
holding (Some m) f = Some (f tt)

-- the assignment operator with that operation, or with none
abbrev pub assigner_with : Option (Option BinaryOp) → Option Assigner
assigner_with None = None
assigner_with (Some None) = Some simple
assigner_with (Some (Some o)) = holding (operator o).compound (compound o)

-- the assignment operator that the mark is
abbrev pub assigner_by : Mark → Option Assigner
assigner_by m = assigner_with (assigned_by m)

-- the assignment operator that the token is
abbrev pub assigner_of : Form → Option Assigner
assigner_of (form.Mark m) = assigner_by m
assigner_of _ = None

-- what the first token is
abbrev pub seen : {A : Type 0} → (Form → Option A) → Tokens → Option A
seen f [] = None
seen f (t ∷ ts) = f t.form

-- is the node one that may stand left of an assignment operator?
abbrev pub is_unary_node : ExprNode-F ExprNode Expr → Bool
is_unary_node (ExprNode-F.Cast k e) = false
is_unary_node (ExprNode-F.Binary o a b) = false
is_unary_node (ExprNode-F.Choice a b c) = false
is_unary_node (ExprNode-F.Assign o a b) = false
is_unary_node (ExprNode-F.Comma a b) = false
is_unary_node _ = true

-- is the expression one?
unfoldable pub is_unary : Expr → Bool
is_unary e = is_unary_node (out-ExprNode e.node)

-- the operator of an assignment, where the left side may be assigned to
abbrev pub assigner_for : Expr → Form → Option Assigner
assigner_for a f = if is_unary a then assigner_of f else None
