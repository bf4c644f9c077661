-- Operands that are one token, and what is joined to an operand.
use Rattle.std.specs.Prelude.{ℕ, zero, suc, Bool, true, false, if◌then◌else◌, [], ◌∷◌, length, Ok}
use Rattle.c_tree.specs.declared.token.Form.{Form}
use Rattle.c_tree.specs.declared.token.Form.TheVariants as form
use Rattle.c_tree.specs.declared.token.Mark.{Mark}
use Rattle.c_tree.specs.declared.token.Mark.TheVariants as mark
use Rattle.c_tree.specs.declared.tree.Expr.{Expr}
use Rattle.c_tree.specs.declared.tree.ExprNode.TheVariants as node
use Rattle.c_grammar.specs.Tokens.{Tokens}
use Rattle.c_grammar.specs.Operators.{at}
use Rattle.c_grammar.specs.inside.Operators.{binary_level}
use Rattle.c_grammar.specs.inside.Parsing.{Out, and_then, syntax, tail, first}
use Rattle.c_grammar.specs.inside.ModelExpressions.{inside, loop, binary_of, choice_from, assign_from}

-- is it a name or a number?
abbrev pub is_atom : Form → Bool
is_atom (form.Name w) = true
is_atom (form.Number v k) = true
is_atom _ = false

-- does the mark make nothing more of a name or a number before it?
abbrev pub ends_by : Mark → Bool
ends_by mark.LeftParen = false
ends_by mark.LeftBracket = false
ends_by mark.PlusPlus = false
ends_by mark.MinusMinus = false
ends_by _ = true

-- does the token make nothing more of a name or a number before it?
abbrev pub ends_atom : Form → Bool
ends_atom (form.Mark m) = ends_by m
ends_atom _ = true

-- a name or a number comes next, and a token that makes nothing more of it
abbrev pub is_leaf : Tokens → Bool
is_leaf (t ∷ u ∷ ts) = if is_atom t.form then ends_atom u.form else false
is_leaf _ = false

-- a name or a number of that offset
abbrev pub leaf_by : ℕ → Form → Tokens → Out Expr
leaf_by l (form.Name w) ts = Ok (at l (node.Name w), tail ts)
leaf_by l (form.Number v k) ts = Ok (at l (node.Number v k), tail ts)
leaf_by l _ ts = syntax ts

-- takes a name or a number
abbrev pub leaf_of : Tokens → Out Expr
leaf_of [] = syntax []
leaf_of (t ∷ ts) = leaf_by t.offset t.form (t ∷ ts)

-- does the mark end an assignment expression?
abbrev pub closes_by : Mark → Bool
closes_by mark.RightParen = true
closes_by mark.RightBrace = true
closes_by mark.RightBracket = true
closes_by mark.Semicolon = true
closes_by mark.Comma = true
closes_by mark.Colon = true
closes_by _ = false

-- does the token end an assignment expression?
abbrev pub closes : Form → Bool
closes (form.Mark m) = closes_by m
closes _ = false

-- does such a token come next?
abbrev pub is_closed : Tokens → Bool
is_closed ts = first closes ts

-- so many levels of operators, from a level on, behind a phrase that is tighter
abbrev pub climb : ℕ → ℕ → ℕ → Expr → Tokens → Out Expr
climb left zero b a ts = Ok (a, ts)
climb left (suc m) b a ts =
    and_then (loop (binary_of (inside left) b) (binary_level b) (length ts) a ts)
    (climb left m (suc b))

-- what so many levels of operators join to a cast
unfoldable pub joined_of : ℕ → ℕ → Expr → Tokens → Out Expr
joined_of left level a ts = climb left level 0 a ts

-- an assignment expression that begins with a cast
unfoldable pub assignment_from : ℕ → Expr → Tokens → Out Expr
assignment_from left a ts =
    and_then (and_then (joined_of left 10 a ts) (λ a ts. choice_from (inside left) a ts))
    (λ a ts. assign_from (inside left) a ts)
