-- Operands that are one token, and assignment expressions that end behind their first operand.
use Rattle.std.proofs.Common.{◌≡◌, ℕ, Bool, true, false, cond, List, [], ◌∷◌, length, Option, None, Ok}
use Rattle.std.proofs.Common.{refl, ap, ◌∙◌, arith}
use Rattle.std.proofs.lemmas.Bool.{false≢true}
use Rattle.c_tree.specs.declared.token.Lexeme.{Lexeme}
use Rattle.c_tree.specs.declared.token.Form.{Form}
use Rattle.c_tree.specs.declared.token.Form.TheVariants as form
use Rattle.c_tree.specs.declared.token.Mark.TheVariants as mark
use Rattle.c_tree.specs.declared.tree.Expr.{Expr}
use Rattle.c_tree.specs.declared.tree.ExprNode.TheVariants as node
use Rattle.c_grammar.specs.Tokens.{Tokens}
use Rattle.c_grammar.specs.Operators.{at, Assigner}
use Rattle.c_grammar.specs.inside.Parsing.{Out, and_then}
use Rattle.c_grammar.specs.inside.ModelExpressions.{inside, suffixes, postfix_of, unary_of, cast_of}
use Rattle.c_grammar.specs.inside.ModelExpressions.{choice_from, assign_from, conditional_of}
use Rattle.c_grammar.specs.inside.ModelExpressions.{assignment_of}
use Rattle.c_grammar.specs.inside.ModelDepth.{Nested}
use Rattle.c_grammar.specs.inside.ModelPrimaries.{after_name, named_of, primary_of}
use Rattle.c_grammar.specs.inside.ModelOperators.{assigner_for, is_unary}
use Rattle.c_parse.specs.inside.Reads.{joins_by}
use Rattle.c_parse.specs.inside.Operands.{is_atom, ends_atom, is_leaf, leaf_by, leaf_of, closes, is_closed, joined_of}
use Rattle.c_parse.specs.inside.Operands.{assignment_from}
use Rattle.c_parse.proofs.Climbs.{then_then, joins, joined_none}

-- a token of that offset
abbrev token : ℕ → Form → Lexeme
token l f = record { offset = l; form = f }

-- ---- operands of one token

-- no suffix follows
no_suffix : (a : Expr) (k : ℕ) (g : Form) (ts : Tokens) → ends_atom g ≡ true
    → suffixes (length (token k g ∷ ts)) a (token k g ∷ ts) ≡ Ok (a, token k g ∷ ts)
no_suffix a k (form.Mark mark.PlusPlus) ts e = absurd (false≢true e)
no_suffix a k (form.Mark mark.MinusMinus) ts e = absurd (false≢true e)
no_suffix a k (form.Mark _) ts e = refl
no_suffix a k _ ts e = refl

-- the name is no element and no call
name_alone : (nested : Nested) (l : ℕ) (w : List ℕ) (k : ℕ) (g : Form) (ts : Tokens) → ends_atom g ≡ true
    → after_name nested l w (token k g ∷ ts) ≡ Ok (at l (node.Name w), token k g ∷ ts)
unfolding after_name
name_alone nested l w k (form.Mark mark.LeftParen) ts e = absurd (false≢true e)
name_alone nested l w k (form.Mark mark.LeftBracket) ts e = absurd (false≢true e)
name_alone nested l w k (form.Mark _) ts e = refl
name_alone nested l w k _ ts e = refl

-- the same of a name or a number, with the parts of both tokens
leaf_alone : (nested : Nested) (l : ℕ) (f : Form) (k : ℕ) (g : Form) (ts : Tokens)
    → cond (is_atom f) (ends_atom g) false ≡ true
    → cast_of nested (token l f ∷ token k g ∷ ts) ≡ leaf_by l f (token l f ∷ token k g ∷ ts)
unfolding cast_of unary_of postfix_of primary_of named_of
leaf_alone nested l (form.Name w) k g ts e =
    ap (λ (o : Out Expr). and_then o (λ a ts. suffixes (length ts) a ts)) (name_alone nested l w k g ts e)
    ∙ no_suffix (at l (node.Name w)) k g ts e
leaf_alone nested l (form.Number v n) k g ts e = no_suffix (at l (node.Number v n)) k g ts e
leaf_alone nested l _ k g ts e = absurd (false≢true e)

-- a name or a number that stands alone is a cast expression
pub leaf_is : (left : ℕ) (ts : Tokens) → is_leaf ts ≡ true → cast_of (inside left) ts ≡ leaf_of ts
leaf_is left [] e = absurd (false≢true e)
leaf_is left (t ∷ []) e = absurd (false≢true e)
leaf_is left (t ∷ u ∷ ts) e = leaf_alone (inside left) t.offset t.form u.offset u.form ts e

-- ---- the end of an assignment expression

-- no binary operator comes next
no_joiner : (f : Form) → closes f ≡ true → joins_by f ≡ None
no_joiner (form.Mark mark.RightParen) e = refl
no_joiner (form.Mark mark.RightBrace) e = refl
no_joiner (form.Mark mark.RightBracket) e = refl
no_joiner (form.Mark mark.Semicolon) e = refl
no_joiner (form.Mark mark.Comma) e = refl
no_joiner (form.Mark mark.Colon) e = refl
no_joiner (form.Mark _) e = absurd (false≢true e)
no_joiner _ e = absurd (false≢true e)

-- nothing is joined to an operand
pub closed_joins : (left : ℕ) (a : Expr) (ts : Tokens) → is_closed ts ≡ true → joined_of left 10 a ts ≡ Ok (a, ts)
closed_joins left a [] e = absurd (false≢true e)
closed_joins left a (t ∷ ts) e =
    joined_none left 10 (omega arith) a (t ∷ ts) (λ p i. absurd (cc (no_joiner t.form e, i)))

-- no `?` comes next
no_question : (nested : Nested) (a : Expr) (l : ℕ) (f : Form) (ts : Tokens) → closes f ≡ true
    → choice_from nested a (token l f ∷ ts) ≡ Ok (a, token l f ∷ ts)
unfolding choice_from
no_question nested a l (form.Mark mark.RightParen) ts e = refl
no_question nested a l (form.Mark mark.RightBrace) ts e = refl
no_question nested a l (form.Mark mark.RightBracket) ts e = refl
no_question nested a l (form.Mark mark.Semicolon) ts e = refl
no_question nested a l (form.Mark mark.Comma) ts e = refl
no_question nested a l (form.Mark mark.Colon) ts e = refl
no_question nested a l (form.Mark _) ts e = absurd (false≢true e)
no_question nested a l _ ts e = absurd (false≢true e)

-- no choice is begun
pub closed_choice : (left : ℕ) (a : Expr) (ts : Tokens) → is_closed ts ≡ true
    → choice_from (inside left) a ts ≡ Ok (a, ts)
closed_choice left a [] e = absurd (false≢true e)
closed_choice left a (t ∷ ts) e = no_question (inside left) a t.offset t.form ts e

-- no assignment operator
abbrev none : Option Assigner
none = None

-- no assignment operator, whether the left side may be assigned to or not
either_none : (b : Bool) → cond b none none ≡ None
either_none true = refl
either_none false = refl

-- no assignment operator comes next
no_assigner : (a : Expr) (f : Form) → closes f ≡ true → assigner_for a f ≡ None
no_assigner a (form.Mark mark.RightParen) e = either_none (is_unary a)
no_assigner a (form.Mark mark.RightBrace) e = either_none (is_unary a)
no_assigner a (form.Mark mark.RightBracket) e = either_none (is_unary a)
no_assigner a (form.Mark mark.Semicolon) e = either_none (is_unary a)
no_assigner a (form.Mark mark.Comma) e = either_none (is_unary a)
no_assigner a (form.Mark mark.Colon) e = either_none (is_unary a)
no_assigner a (form.Mark _) e = absurd (false≢true e)
no_assigner a _ e = absurd (false≢true e)

-- no assignment is begun
pub closed_assign : (left : ℕ) (a : Expr) (ts : Tokens) → is_closed ts ≡ true
    → assign_from (inside left) a ts ≡ Ok (a, ts)
unfolding assign_from
closed_assign left a [] e = absurd (false≢true e)
closed_assign left a (t ∷ ts) e = rw (no_assigner a t.form e) refl

-- what was joined is an assignment expression that has ended
pub closed_whole : (left : ℕ) (first a : Expr) (old ts : Tokens) → joined_of left 10 first old ≡ Ok (a, ts)
    → is_closed ts ≡ true → assignment_from left first old ≡ Ok (a, ts)
unfolding assignment_from
closed_whole left first a old ts h e =
    rw h (rw (closed_choice left a ts e) (closed_assign left a ts e))

-- an operand is an assignment expression that has ended
pub closed_operand : (left : ℕ) (a : Expr) (ts : Tokens) → is_closed ts ≡ true
    → assignment_from left a ts ≡ Ok (a, ts)
closed_operand left a ts e = closed_whole left a a ts ts (closed_joins left a ts e) e

-- an assignment expression is a cast and what is joined to it
pub assignment_is : (left : ℕ) (ts : Tokens) → assignment_of (inside left) ts ≡ and_then (cast_of (inside left) ts)
    (λ a ts. assignment_from left a ts)
unfolding assignment_of conditional_of assignment_from
assignment_is left ts =
    ap (λ (o : Out Expr). and_then (and_then o (λ a ts. choice_from (inside left) a ts))
    (λ a ts. assign_from (inside left) a ts)) (joins left 10 ts)
    ∙ ap (λ (o : Out Expr). and_then o (λ a ts. assign_from (inside left) a ts))
    (then_then (cast_of (inside left) ts) (λ a ts. joined_of left 10 a ts) (λ a ts. choice_from (inside left) a ts))
    ∙ then_then (cast_of (inside left) ts)
    (λ a ts. and_then (joined_of left 10 a ts) (λ a ts. choice_from (inside left) a ts))
    (λ a ts. assign_from (inside left) a ts)
