-- The value of a constant expression, none where it has none (C17 6.6).
use Rattle.std.specs.Prelude.{ℕ, cond, nat_eq, List, [], ◌∷◌, Option, Some, None, codes, nat_lt, ℤ, pos, negsuc}
use Rattle.std.specs.Cmp.Lexicographic.{pointwise}
use Rattle.c_tree.specs.declared.token.Kind.{Kind}
use Rattle.c_tree.specs.declared.token.Kind.TheVariants.{Int}
use Rattle.c_tree.specs.declared.tree.UnaryOp.{UnaryOp}
use Rattle.c_tree.specs.declared.tree.BinaryOp.{BinaryOp}
use Rattle.c_tree.specs.declared.tree.BinaryOp.TheVariants.{LogicalOr, LogicalAnd}
use Rattle.c_tree.specs.declared.tree.Expr.{Expr, Expr-F, fold-Expr}
use Rattle.c_tree.specs.declared.tree.ExprNode.TheOpen.{ExprNode-F, Number, Name, Element, Call}
use Rattle.c_tree.specs.declared.tree.ExprNode.TheOpen.{Group, Unary, Cast, Bump, Binary, Choice}
use Rattle.c_tree.specs.declared.tree.ExprNode.TheOpen.{Assign, Comma}
use Rattle.c_constant.specs.declared.constants.Constant.{Constant}
use Rattle.c_constant.specs.Kinds.{common, converted, number}
use Rattle.c_constant.specs.Operation.{operate, operate_one, left_at, right_at, unary_at, result_of}
use Rattle.c_constant.specs.Operation.{unary_result}

-- a constant of this kind and value
abbrev pub given : Kind → Option ℕ → Constant
given k v = record { kind = k; value = v }

-- a name that stands for a constant
pub record NamedConstant : Type 0 where
  -- its letters, by their bytes
  pub name : List ℕ
  pub constant : Constant

-- `EOF` of `<stdio.h>` stands for -1 of type int. Whether it is in scope is judged elsewhere, before
-- any value is asked for.
abbrev pub ends : List NamedConstant
ends = (record {
  name = codes "EOF";
  constant = given Int (Some 18446744073709551615);
}) ∷ []

-- what a name stands for where some names stand for constants: no constant, where it is none of them
abbrev pub named : List NamedConstant → List ℕ → Constant
named [] w = given Int None
named (n ∷ ns) w = cond (pointwise nat_eq n.name w) n.constant (named ns w)

-- the value after a cast, where there is one
abbrev pub cast_value : Kind → Option ℕ → Option ℕ
cast_value k None = None
cast_value k (Some w) = Some (converted k w)

-- the value of an operation on one operand
abbrev pub one_value : UnaryOp → Kind → Option ℕ → Option ℕ
one_value op k None = None
one_value op k (Some w) = operate_one op (unary_at op k) (converted (unary_at op k) w)

-- the answer of a test of a word
abbrev pub tested : ℕ → ℕ
tested w = cond (nat_eq w 0) 0 1

-- the same where there is a word
abbrev pub tested_if : Option ℕ → Option ℕ
tested_if None = None
tested_if (Some w) = Some (tested w)

-- `&&` and `||` do without their right side where the left one settles the answer
abbrev pub and_value : Option ℕ → Option ℕ → Option ℕ
and_value None y = None
and_value (Some x) y = cond (nat_eq x 0) (Some 0) (tested_if y)

-- the same of `||`
abbrev pub or_value : Option ℕ → Option ℕ → Option ℕ
or_value None y = None
or_value (Some x) y = cond (nat_eq x 0) (tested_if y) (Some 1)

-- the value of an operation that takes both operands
abbrev pub two_value : BinaryOp → Kind → Kind → Option ℕ → Option ℕ → Option ℕ
two_value op j k None y = None
two_value op j k (Some x) None = None
two_value op j k (Some x) (Some y) =
    operate op (left_at op j k) (converted (left_at op j k) x) (converted (right_at op j k) y)

-- the value of an operation on two operands
abbrev pub binary_value : BinaryOp → Kind → Kind → Option ℕ → Option ℕ → Option ℕ
binary_value LogicalAnd j k x y = and_value x y
binary_value LogicalOr j k x y = or_value x y
binary_value op j k x y = two_value op j k x y

-- the leg that is not chosen need have no value
abbrev pub choice_value : Kind → Option ℕ → Option ℕ → Option ℕ → Option ℕ
choice_value k None x y = None
choice_value k (Some t) x y = cond (nat_eq t 0) (cast_value k y) (cast_value k x)

-- one level of an expression, whose parts have these kinds and values
abbrev pub node_value : List NamedConstant → ExprNode-F Constant Constant → Constant
node_value names (Number v k) = given k (Some v)
node_value names (Group e) = e
node_value names (Unary op e) =
    given (unary_result op (unary_at op e.kind)) (one_value op e.kind e.value)
node_value names (Cast to e) = given to (cast_value to e.value)
node_value names (Binary op x y) =
    given (result_of op (left_at op x.kind y.kind)) (binary_value op x.kind y.kind x.value y.value)
node_value names (Choice t x y) =
    given (common x.kind y.kind) (choice_value (common x.kind y.kind) t.value x.value y.value)
node_value names (Name w) = named names w
node_value names (Element w row i) = given Int None
node_value names (Call w es) = given Int None
node_value names (Bump op e) = given Int None
node_value names (Assign op x y) = given Int None
node_value names (Comma x y) = given Int None

-- a node has the value of its level
abbrev pub of_value : Expr-F Constant Constant → Constant
of_value e = e.node

-- the kind and the value of an expression in which some names stand for constants
unfoldable pub constant : List NamedConstant → Expr → Constant
constant names e = fold-Expr Constant Constant (node_value names) of_value e

-- the word of a value, 0 where there is none
abbrev pub word_in : Option ℕ → ℕ
word_in None = 0
word_in (Some w) = w

-- the length that a number gives: none below 1
abbrev pub length_from : ℤ → Option ℕ
length_from (pos n) = cond (nat_lt 0 n) (Some n) None
length_from (negsuc n) = None

-- the length that a word of a type gives
abbrev pub length_in : Kind → Option ℕ → Option ℕ
length_in k None = None
length_in k (Some w) = length_from (number k w)

-- the length that a size stands for
abbrev pub length_of : Expr → Option ℕ
length_of e = length_in (constant ends e).kind (constant ends e).value
