-- The shortest statement that begins with a token, and the shortest declaration.
use Rattle.std.proofs.Common.{◌≡◌, ℕ, suc, Bool, true, false, [], ◌∷◌, Some, None, refl, arith}
use Rattle.std.proofs.lemmas.Bool.{false≢true}
use Rattle.c_tree.specs.declared.token.Lexeme.{Lexeme}
use Rattle.c_tree.specs.declared.token.Form.{Form}
use Rattle.c_tree.specs.declared.token.Form.TheVariants as form
use Rattle.c_tree.specs.declared.token.Mark.TheVariants as mark
use Rattle.c_tree.specs.declared.token.Key.TheVariants as key
use Rattle.c_tree.specs.declared.token.Kind.{Kind}
use Rattle.c_tree.specs.declared.token.Kind.TheVariants as kind
use Rattle.c_tree.specs.declared.tree.Expr.{Expr}
use Rattle.c_tree.specs.declared.tree.ExprNode.TheVariants as exprs
use Rattle.c_tree.specs.declared.tree.UnaryOp.TheVariants as unary
use Rattle.c_tree.specs.declared.tree.ForInit.TheVariants as inits
use Rattle.c_tree.specs.declared.tree.Stmt.{Stmt}
use Rattle.c_tree.specs.declared.tree.StmtNode.TheVariants as node
use Rattle.c_grammar.specs.Tokens.{Tokens, token, punct, word, May}
use Rattle.c_grammar.specs.Types.{Types}
use Rattle.c_grammar.specs.Types as types
use Rattle.c_grammar.specs.Operators.{Prefix, sign, increase, decrease, prefixed, prefix_mark}
use Rattle.c_grammar.specs.Operators.{operand_level}
use Rattle.c_grammar.specs.Operators as e
use Rattle.c_grammar.specs.Expressions.{Spells, expr}
use Rattle.c_grammar.specs.Expressions as x
use Rattle.c_grammar.specs.Statements.{at, Writes, semicolon, paren, stmt, inner, absent, tested}
use Rattle.c_grammar.specs.Statements.{inner_is, stop, compound, empty, plain, if_only, while, repeat}
use Rattle.c_grammar.specs.Statements.{init_plain, for, break, continue, return, no_section, switch}
use Rattle.c_grammar.specs.inside.Parsing.{first}
use Rattle.c_grammar.specs.inside.ModelTypes.{is_type}
use Rattle.c_grammar.specs.inside.ModelBegins.{begins_statement}
use Rattle.c_grammar.proofs.Agree.{Grows, Frees}
use Rattle.c_grammar.proofs.Levels.{zero_token, zero_expr, shortest}

pub record Shortest (t : Lexeme) : Type 0 where
  pub rest : Tokens → Tokens
  pub grows : Grows rest
  pub writes : (may : May) (d : ℕ) (u : Tokens) → Frees (t ∷ rest u) may
      → (p : Bool × Stmt) × Writes may (stmt p.0 p.1) d (t ∷ rest u) u

abbrev semi : Tokens → Tokens
semi u = punct 0 mark.Semicolon ∷ u

abbrev test_first : Tokens → Tokens
test_first u = punct 0 mark.LeftParen ∷ zero_token ∷ punct 0 mark.RightParen ∷ u

abbrev void_at : ℕ → Stmt
void_at l = at l (node.Plain None)

inner_empty : {may : May} (d : ℕ) (u : Tokens) → may (semi u) (suc d) ≡ true
    → Writes may (inner false (void_at 0)) d (semi u) u
inner_empty d u h = inner_is h empty

ups : {may : May} {d : ℕ} {i : Expr} {f t : Tokens} → Spells may (expr 2 i) d f t
    → Spells may (expr 16 i) d f t
ups y = x.up (x.up (x.up (x.up (x.up (x.up
    (x.up (x.up (x.up (x.up (x.up (x.up (x.up (x.up y)))))))))))))

prefix_shortest : (l : ℕ) (p : Prefix) → Shortest (punct l (prefix_mark p))
prefix_shortest l p =
    record {
      rest = λ u. zero_token ∷ semi u;
      grows = λ u. omega arith;
      writes = λ may d u fr. by may d u (fr (punct l (prefix_mark p) ∷ zero_token ∷ semi u) (suc d)
          (omega arith));
    }
  where
    by : (may : May) (d : ℕ) (u : Tokens)
        → may (punct l (prefix_mark p) ∷ zero_token ∷ semi u) (suc d) ≡ true
        → (p' : Bool × Stmt) × Writes may (stmt p'.0 p'.1) d
        (punct l (prefix_mark p) ∷ zero_token ∷ semi u) u
    by may d u h = (
      (
        false,
        at (prefixed l p zero_expr).offset
            (node.Plain (Some (prefixed l p zero_expr))),
      ),
      plain (ups (x.prefix p h (shortest (operand_level p)))),
    )

form_shortest : (l : ℕ) (f : Form) → begins_statement f ≡ true → Shortest (token l f)
form_shortest l (form.Name w) h =
    record {
      rest = semi;
      grows = λ u. omega arith;
      writes = λ may d u fr. (
        (false, at l (node.Plain (Some (e.at l (exprs.Name w))))),
        plain (ups (x.up (x.up x.name))),
      );
    }
form_shortest l (form.Number v k) h =
    record {
      rest = semi;
      grows = λ u. omega arith;
      writes = λ may d u fr. (
        (false, at l (node.Plain (Some (e.at l (exprs.Number v k))))),
        plain (ups (x.up (x.up x.number))),
      );
    }
form_shortest l (form.Key key.If) h =
    record {
      rest = λ u. test_first (semi u);
      grows = λ u. omega arith;
      writes = λ may d u fr. (
        (true, at l (node.If zero_expr (void_at 0) None)),
        if_only (tested (shortest 16)) (inner_empty d u (fr _ _ (omega arith))),
      );
    }
form_shortest l (form.Key key.While) h =
    record {
      rest = λ u. test_first (semi u);
      grows = λ u. omega arith;
      writes = λ may d u fr. (
        (false, at l (node.While zero_expr (void_at 0))),
        while (tested (shortest 16)) (inner_empty d u (fr _ _ (omega arith))),
      );
    }
form_shortest l (form.Key key.Do) h =
    record {
      rest = λ u. semi (word 0 key.While ∷ test_first (semi u));
      grows = λ u. omega arith;
      writes = λ may d u fr. (
        (false, at l (node.Do (void_at 0) zero_expr)),
        repeat (inner_empty d (word 0 key.While ∷ test_first (semi u)) (fr _ _ (omega arith)))
            (tested (shortest 16)),
      );
    }
form_shortest l (form.Key key.For) h =
    record {
      rest = λ u. punct 0 mark.LeftParen ∷ semi (semi (punct 0 mark.RightParen ∷ semi u));
      grows = λ u. omega arith;
      writes = λ may d u fr. (
        (false, at l (node.For inits.Nothing None None (void_at 0))),
        for (init_plain (absent semicolon)) (absent semicolon) (absent paren)
            (inner_empty d u (fr _ _ (omega arith))),
      );
    }
form_shortest l (form.Key key.Switch) h =
    record {
      rest = λ u. test_first (punct 0 mark.LeftBrace ∷ punct 0 mark.RightBrace ∷ u);
      grows = λ u. omega arith;
      writes = λ may d u fr. (
        (false, at l (node.Switch zero_expr [])),
        switch (tested (shortest 16)) no_section,
      );
    }
form_shortest l (form.Key key.Break) h = record {
  rest = semi;
  grows = λ u. omega arith;
  writes = λ may d u fr. ((false, at l node.Break), break);
}
form_shortest l (form.Key key.Continue) h =
    record {
      rest = semi;
      grows = λ u. omega arith;
      writes = λ may d u fr. ((false, at l node.Continue), continue);
    }
form_shortest l (form.Key key.Return) h =
    record {
      rest = semi;
      grows = λ u. omega arith;
      writes = λ may d u fr. ((false, at l (node.Return None)), return (absent semicolon));
    }
form_shortest l (form.Mark mark.Plus) h = prefix_shortest l (sign unary.Plus)
form_shortest l (form.Mark mark.Minus) h = prefix_shortest l (sign unary.Minus)
form_shortest l (form.Mark mark.Tilde) h = prefix_shortest l (sign unary.Complement)
form_shortest l (form.Mark mark.Not) h = prefix_shortest l (sign unary.Not)
form_shortest l (form.Mark mark.PlusPlus) h = prefix_shortest l increase
form_shortest l (form.Mark mark.MinusMinus) h = prefix_shortest l decrease
form_shortest l (form.Mark mark.LeftParen) h =
    record {
      rest = λ u. zero_token ∷ punct 0 mark.RightParen ∷ semi u;
      grows = λ u. omega arith;
      writes = λ may d u fr. (
        (false, at l (node.Plain (Some (e.at l (exprs.Group zero_expr))))),
        plain (ups (x.up (x.up (x.group (fr _ _ (omega arith)) (shortest 16))))),
      );
    }
form_shortest l (form.Mark mark.LeftBrace) h =
    record {
      rest = λ u. punct 0 mark.RightBrace ∷ u;
      grows = λ u. omega arith;
      writes = λ may d u fr. ((false, at l (node.Compound [])), compound stop);
    }
form_shortest l (form.Mark mark.Semicolon) h =
    record {
      rest = λ u. u;
      grows = λ u. omega arith;
      writes = λ may d u fr. ((false, at l (node.Plain None)), empty);
    }
form_shortest l _ h = absurd (false≢true h)

-- where a statement begins stands a token that a shortest statement begins with
pub begins_is : (ts : Tokens) → first begins_statement ts ≡ true
    → (t : Lexeme) × (o : Tokens) × (ts ≡ t ∷ o) × Shortest t
begins_is [] h = absurd (false≢true h)
begins_is (t ∷ o) h = (t, o, refl, form_shortest t.offset t.form h)

-- each word of a type is a type alone
pub type_alone : (l : ℕ) (f : Form) → is_type f ≡ true
    → (k : Kind) × ((u : Tokens) → Types l k (token l f ∷ u) u)
type_alone l (form.Key key.Bool) h = (kind.Bool, λ u. types.bool)
type_alone l (form.Key key.Char) h = (kind.Char, λ u. types.char)
type_alone l (form.Key key.Int) h = (kind.Int, λ u. types.int)
type_alone l (form.Key key.Short) h = (kind.Short, λ u. types.short)
type_alone l (form.Key key.Long) h = (kind.Long, λ u. types.long)
type_alone l (form.Key key.Signed) h = (kind.Int, λ u. types.signed)
type_alone l (form.Key key.Unsigned) h = (kind.UInt, λ u. types.unsigned)
type_alone l _ h = absurd (false≢true h)
