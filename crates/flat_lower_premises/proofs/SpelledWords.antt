-- What tokens with words spell has words: expressions.
use Rattle.std.proofs.Common.{◌≡◌, ℕ, Some, None, sym, ap, ◌∙◌, subst}
use Rattle.c_tree.specs.declared.token.Kind.{Kind}
use Rattle.c_tree.specs.declared.tree.BumpOp.TheVariants as bump
use Rattle.c_tree.specs.declared.tree.Expr.{Expr}
use Rattle.c_tree.specs.declared.tree.ExprNode.{ExprNode, roll-ExprNode, out-ExprNode}
use Rattle.c_tree.specs.declared.tree.ExprNode.{out-roll-ExprNode}
use Rattle.c_tree.specs.declared.tree.ExprNode.TheVariants as node
use Rattle.c_grammar.specs.Tokens.{Tokens, May}
use Rattle.c_grammar.specs.Types.{Types}
use Rattle.c_grammar.specs.Types as type
use Rattle.c_grammar.specs.Operators.{Joiner, op, comma, joined, Prefix, sign, increase, decrease}
use Rattle.c_grammar.specs.Operators.{prefixed, Suffix, increased, decreased, suffixed}
use Rattle.c_grammar.specs.Operators.{Assigner, simple, compound, assigner_op}
use Rattle.c_grammar.specs.Expressions.{Phrase, Spells}
use Rattle.c_grammar.specs.Expressions as e
use Rattle.flat_lower_premises.specs.inside.Words.{TokensHaveWords}
use Rattle.flat_lower_premises.specs.inside.Assigners.{IsAssigner}
use Rattle.c_tree.specs.inside.Trees.{Node}
use Rattle.flat_lower_premises.specs.inside.ExpressionWords.{NodeHasWords, ExprHasWords, ExprsHaveWords}
use Rattle.flat_lower_premises.specs.inside.ExpressionWords as has

-- each number of the phrase is a word of its type
abbrev pub PhraseHasWords : Phrase → Type 0
PhraseHasWords (e.expr n x) = ExprHasWords x
PhraseHasWords (e.args xs) = ExprsHaveWords xs
PhraseHasWords (e.arg_list xs) = ExprsHaveWords xs

-- a node has words if the level that it is built of has
made : (n : ExprNode) (x : Node) → roll-ExprNode x ≡ n → NodeHasWords x
    → NodeHasWords (out-ExprNode n)
made n x r h = subst NodeHasWords (sym (ap out-ExprNode (sym r) ∙ out-roll-ExprNode x)) h

-- what an operator makes of operands with words has words
joined_has : (n : ℕ) (j : Joiner) (a b : Expr) → ExprHasWords a → ExprHasWords b
    → ExprHasWords (joined n j a b)
joined_has n (op o) a b h k = made _ _ (node.rolls-Binary o a b) (has.operation h k)
joined_has n comma a b h k = made _ _ (node.rolls-Comma a b) (has.sequence h k)

-- the operators of assignments are C's
assigner_is : (s : Assigner) → IsAssigner (assigner_op s)
assigner_is simple = tt
assigner_is (compound o c) = c

prefixed_has : (l : ℕ) (p : Prefix) (x : Expr) → ExprHasWords x → ExprHasWords (prefixed l p x)
prefixed_has l (sign o) x h = made _ _ (node.rolls-Unary o x) (has.operator h)
prefixed_has l increase x h = made _ _ (node.rolls-Bump bump.PreInc x) (has.step h)
prefixed_has l decrease x h = made _ _ (node.rolls-Bump bump.PreDec x) (has.step h)

suffixed_has : (n : ℕ) (s : Suffix) (x : Expr) → ExprHasWords x → ExprHasWords (suffixed n s x)
suffixed_has n increased x h = made _ _ (node.rolls-Bump bump.PostInc x) (has.step h)
suffixed_has n decreased x h = made _ _ (node.rolls-Bump bump.PostDec x) (has.step h)

-- where the tokens have words, so has what stands behind a type that they name
pub named_type : {l : ℕ} {k : Kind} {f t : Tokens} → Types l k f t → TokensHaveWords f
    → TokensHaveWords t
named_type type.bool h = h.1
named_type type.char h = h.1
named_type type.signed_char h = h.1.1
named_type type.unsigned_char h = h.1.1
named_type type.int h = h.1
named_type type.signed h = h.1
named_type type.signed_int h = h.1.1
named_type type.unsigned h = h.1
named_type type.unsigned_int h = h.1.1
named_type type.short h = h.1
named_type type.short_int h = h.1.1
named_type type.signed_short h = h.1.1
named_type type.signed_short_int h = h.1.1.1
named_type type.unsigned_short h = h.1.1
named_type type.unsigned_short_int h = h.1.1.1
named_type type.long h = h.1
named_type type.long_int h = h.1.1
named_type type.signed_long h = h.1.1
named_type type.signed_long_int h = h.1.1.1
named_type type.unsigned_long h = h.1.1
named_type type.unsigned_long_int h = h.1.1.1

-- where the tokens have words, so have the phrase that they spell and what stands behind it
pub spelled : {may : May} {p : Phrase} {d : ℕ} {f t : Tokens} → Spells may p d f t
    → TokensHaveWords f → PhraseHasWords p × TokensHaveWords t
spelled e.number h = (made _ _ (node.rolls-Number _ _) (has.number h.0), h.1)
spelled e.name h = (made _ _ (node.rolls-Name _) has.name, h.1)
spelled (e.group ok x) h =
    let a = spelled x h.1 in (made _ _ (node.rolls-Group _) (has.group a.0), a.1.1)
spelled (e.element ok x) h =
    let a = spelled x h.1.1 in (made _ _ (node.rolls-Element _ None _) (has.element a.0), a.1.1)
spelled (e.row_element ok x ok' y) h =
    let a = spelled x h.1.1 in let b = spelled y a.1.1.1 in
    (made _ _ (node.rolls-Element _ (Some _) _) (has.row_element a.0 b.0), b.1.1)
spelled (e.call ok x) h =
    let a = spelled x h.1.1 in (made _ _ (node.rolls-Call _ _) (has.call a.0), a.1)
spelled e.none h = (has.no_expr, h.1)
spelled (e.some x) h = spelled x h
spelled (e.last x) h = let a = spelled x h in (has.one_expr a.0 has.no_expr, a.1.1)
spelled (e.next x y) h =
    let a = spelled x h in let b = spelled y a.1.1 in (has.one_expr a.0 b.0, b.1)
spelled (e.suffix s x) h = let a = spelled x h in (suffixed_has _ s _ a.0, a.1.1)
spelled (e.prefix p ok x) h = let a = spelled x h.1 in (prefixed_has _ p _ a.0, a.1)
spelled (e.cast ok x y) h =
    let b = spelled y (named_type x h.1).1 in
    (made _ _ (node.rolls-Cast _ _) (has.conversion b.0), b.1)
spelled (e.join j x y) h =
    let a = spelled x h in let b = spelled y a.1.1 in (joined_has _ j _ _ a.0 b.0, b.1)
spelled (e.choice x ok y z) h =
    let a = spelled x h in let b = spelled y a.1.1 in let c = spelled z b.1.1 in
    (made _ _ (node.rolls-Choice _ _ _) (has.either a.0 b.0 c.0), c.1)
spelled (e.assign s x ok y) h =
    let a = spelled x h in let b = spelled y a.1.1 in
    (made _ _ (node.rolls-Assign _ _ _) (has.assignment (assigner_is s) a.0 b.0), b.1)
spelled (e.up x) h = spelled x h
