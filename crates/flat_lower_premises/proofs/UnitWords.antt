-- What tokens with words spell has words: translation units.
use Rattle.std.proofs.Common.{List, [], ◌∷◌, ◌++◌, Option, Some, None}
use Rattle.c_tree.specs.declared.token.Lexeme.{Lexeme}
use Rattle.c_tree.specs.declared.tree.Expr.{Expr}
use Rattle.c_tree.specs.declared.tree.StmtNode.TheVariants as node
use Rattle.c_tree.specs.declared.tree.Top.{Top}
use Rattle.c_grammar.specs.Tokens.{Tokens, May}
use Rattle.c_grammar.specs.Units.{Phrase, Units}
use Rattle.c_grammar.specs.Units as u
use Rattle.c_grammar.specs.Accepted.{IsUnit}
use Rattle.flat_lower_premises.specs.inside.Words.{TokensHaveWords}
use Rattle.flat_lower_premises.specs.inside.ExpressionWords.{ExprIfHasWords, ExprsHaveWords, RowsHaveWords}
use Rattle.flat_lower_premises.specs.inside.ExpressionWords.{SizeHasWords}
use Rattle.flat_lower_premises.specs.inside.Trees.{TopHasWords, UnitHasWords}
use Rattle.flat_lower_premises.specs.inside.Trees as has
use Rattle.flat_lower_premises.specs.inside.ExpressionWords as expressions
use Rattle.flat_lower_premises.proofs.SpelledWords.{named_type, spelled}
use Rattle.flat_lower_premises.proofs.WrittenWords.{made, written}

-- each number of the phrase is a word of its type; of parameters nothing is said
abbrev PhraseHasWords : Phrase → Type 0
PhraseHasWords (u.size o) = ExprIfHasWords o
PhraseHasWords (u.values es) = ExprsHaveWords es
PhraseHasWords (u.rows ess) = RowsHaveWords ess
PhraseHasWords (u.shape x) = SizeHasWords x.0 × RowsHaveWords x.1
PhraseHasWords (u.globals k xs) = UnitHasWords xs
PhraseHasWords (u.func r x) = TopHasWords x.node
PhraseHasWords (u.item xs) = UnitHasWords xs
PhraseHasWords (u.unit xs) = UnitHasWords xs
PhraseHasWords _ = Unit {0}

-- one pair of brackets
one_size_has : (o : Option Expr) → ExprIfHasWords o → SizeHasWords (u.one_size o)
one_size_has None h = tt
one_size_has (Some e) h = h

-- items that follow one another have words if each part has
items_joined : (xs ys : List Top) → UnitHasWords xs → UnitHasWords ys → UnitHasWords (xs ++ ys)
items_joined [] ys h k = k
items_joined (x ∷ xs) ys h k = (h.0, items_joined xs ys h.1 k)

-- where the tokens have words, so have the phrase that they spell and what stands behind it
united : {may : May} {p : Phrase} {f t : Tokens} → Units may p f t → TokensHaveWords f
    → PhraseHasWords p × TokensHaveWords t
united u.no_size h = (tt, h.1)
united (u.some_size x) h = let a = spelled x h in (a.0, a.1.1)
united (u.last_value x) h = let a = spelled x h in (expressions.one_expr a.0 expressions.no_expr, a.1.1)
united (u.last_comma x) h = let a = spelled x h in (expressions.one_expr a.0 expressions.no_expr, a.1.1.1)
united (u.next_value x y) h =
    let a = spelled x h in let b = united y a.1.1 in (expressions.one_expr a.0 b.0, b.1)
united (u.last_row x) h = let a = united x h.1 in ((a.0, tt), a.1.1)
united (u.last_row_comma x) h = let a = united x h.1 in ((a.0, tt), a.1.1.1)
united (u.next_row x y) h =
    let a = united x h.1 in let b = united y a.1.1 in ((a.0, b.0), b.1)
united u.bare h = ((tt, tt), h)
united (u.valued x) h = let a = spelled x h.1 in ((tt, (expressions.one_expr a.0 expressions.no_expr, tt)), a.1)
united (u.sized x) h = let a = united x h.1 in ((a.0, tt), a.1)
united (u.filled {o = o} x y) h =
    let a = united x h.1 in let b = united y a.1.1.1 in ((one_size_has o a.0, (b.0, tt)), b.1)
united (u.rows_sized x y) h =
    let a = united x h.1 in let b = spelled y a.1.1 in (((a.0, b.0), tt), b.1.1)
united (u.rows_filled x y z) h =
    let a = united x h.1 in let b = spelled y a.1.1 in let c = united z b.1.1.1.1 in
    (((a.0, b.0), c.0), c.1)
united (u.last_global x) h = let a = united x h.1 in ((a.0, tt), a.1.1)
united (u.next_global x y) h =
    let a = united x h.1 in let b = united y a.1.1 in ((a.0, b.0), b.1)
united u.unlabelled h = (tt, h)
united u.labelled h = (tt, h.1)
united u.no_brackets h = (tt, h)
united (u.some_brackets x) h = (tt, (united x h.1).1)
united (u.two_brackets x y) h = (tt, (spelled y (united x h.1).1.1).1.1)
united (u.param_is x y z) h = (tt, (united z (united y (named_type x h)).1).1)
united u.no_params h = (tt, h.1)
united u.void_params h = (tt, h.1.1)
united (u.some_params x) h = (tt, (united x h).1)
united (u.last_param x) h = (tt, (united x h).1.1)
united (u.next_param x y) h = (tt, (united y (united x h).1.1).1)
united u.void h = (tt, h.1)
united (u.typed x) h = (tt, named_type x h)
united (u.prototype x) h = (tt, (united x h.1.1).1.1)
united (u.definition x y) h =
    let a = written y (united x h.1.1).1.1 in
    (made _ _ (node.rolls-Compound _) (has.compound a.0), a.1)
united u.include h = ((tt, tt), h.1)
united (u.a_function x y) h = let a = united y (united x h).1 in ((a.0, tt), a.1)
united (u.some_globals x y) h = united y (named_type x h)
united (u.last_item x) h = united x h
united (u.next_item x y) h =
    let a = united x h in let b = united y a.1 in (items_joined _ _ a.0 b.0, b.1)

-- where each number among the tokens is a word of its type, so is each one of their unit
pub units_have_words : (ts : List Lexeme) (xs : List Top) → TokensHaveWords ts → IsUnit ts xs
    → UnitHasWords xs
units_have_words ts xs h x = (united x h).0
