-- The operators of expressions (C17 6.5): their marks, their levels and what they make.
use Rattle.std.specs.Prelude.{ℕ, ◌+◌, Option, Some, None}
use Rattle.c_tree.specs.declared.token.Mark.{Mark}
use Rattle.c_tree.specs.declared.token.Mark.TheVariants as mark
use Rattle.c_tree.specs.declared.tree.UnaryOp.{UnaryOp}
use Rattle.c_tree.specs.declared.tree.UnaryOp.TheVariants as unary
use Rattle.c_tree.specs.declared.tree.BumpOp.TheVariants as bump
use Rattle.c_tree.specs.declared.tree.BinaryOp.{BinaryOp}
use Rattle.c_tree.specs.declared.tree.Expr.{Expr}
use Rattle.c_tree.specs.declared.tree.ExprNode.{ExprNode}
use Rattle.c_tree.specs.declared.tree.ExprNode.TheVariants as node
use Rattle.c_tree.specs.Marks.{operator, IsCompound, compound_mark}

-- Levels of an expression, from the tightest: 0 primary, 1 postfix, 2 unary, 3 cast, 4 to 13 the
-- binary operators from `*` to `||`, 14 conditional, 15 assignment, 16 comma.
abbrev pub unary_level : ℕ
unary_level = 2

-- the level of casts, the tightest that operators join
abbrev pub cast_level : ℕ
cast_level = 3

-- the level of choices
abbrev pub conditional : ℕ
conditional = 14

-- the level of assignments
abbrev pub assignment : ℕ
assignment = 15

-- the level of commas, the loosest
abbrev pub expression : ℕ
expression = 16

-- the expression of an offset and a node, which the token at another offset names
abbrev pub told_at : ℕ → ℕ → ExprNode → Expr
told_at l k n = record { offset = l; at = k; node = n }

-- the same where its first token names it
abbrev pub at : ℕ → ExprNode → Expr
at l n = told_at l l n

-- what joins two phrases, grouping to the left
pub data Joiner : Type 0 where
  op : BinaryOp → Joiner
  comma : Joiner

-- the mark of an operator
abbrev pub joiner_mark : Joiner → Mark
joiner_mark (op o) = (operator o).token
joiner_mark comma = mark.Comma

-- the level of the right side, which is one tighter than that of the left side and of the whole
abbrev pub below : Joiner → ℕ
below (op o) = cast_level + (operator o).level
below comma = 15

-- two expressions joined by an operator of that offset, which names the whole
abbrev pub joined : ℕ → Joiner → Expr → Expr → Expr
joined k (op o) a b = told_at a.offset k (node.Binary o a b)
joined k comma a b = told_at a.offset k (node.Comma a b)

-- what stands before an operand
pub data Prefix : Type 0 where
  sign : UnaryOp → Prefix
  increase : Prefix
  decrease : Prefix

-- the mark of a prefix
abbrev pub prefix_mark : Prefix → Mark
prefix_mark (sign unary.Plus) = mark.Plus
prefix_mark (sign unary.Minus) = mark.Minus
prefix_mark (sign unary.Complement) = mark.Tilde
prefix_mark (sign unary.Not) = mark.Not
prefix_mark increase = mark.PlusPlus
prefix_mark decrease = mark.MinusMinus

-- the level of the operand
abbrev pub operand_level : Prefix → ℕ
operand_level (sign o) = cast_level
operand_level increase = unary_level
operand_level decrease = unary_level

-- an expression behind a prefix of that offset
abbrev pub prefixed : ℕ → Prefix → Expr → Expr
prefixed l (sign o) e = at l (node.Unary o e)
prefixed l increase e = at l (node.Bump bump.PreInc e)
prefixed l decrease e = at l (node.Bump bump.PreDec e)

-- what stands behind an operand
pub data Suffix : Type 0 where
  increased : Suffix
  decreased : Suffix

-- the mark of a suffix
abbrev pub suffix_mark : Suffix → Mark
suffix_mark increased = mark.PlusPlus
suffix_mark decreased = mark.MinusMinus

-- an expression before a suffix of that offset, which names the whole
abbrev pub suffixed : ℕ → Suffix → Expr → Expr
suffixed k increased e = told_at e.offset k (node.Bump bump.PostInc e)
suffixed k decreased e = told_at e.offset k (node.Bump bump.PostDec e)

-- the operator of an assignment: none, or one that has a compound assignment
pub data Assigner : Type 0 where
  simple : Assigner
  compound : (o : BinaryOp) → IsCompound o → Assigner

-- the mark of an assignment operator
abbrev pub assigner_mark : Assigner → Mark
assigner_mark simple = mark.Assign
assigner_mark (compound o c) = compound_mark o c

-- the operation that an assignment operator does first
abbrev pub assigner_op : Assigner → Option BinaryOp
assigner_op simple = None
assigner_op (compound o c) = Some o
