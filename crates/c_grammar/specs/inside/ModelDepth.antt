-- What the parser of expressions finds one deeper, and how it gets there.
use Rattle.std.specs.Prelude.{ℕ, Bool, if◌then◌else◌, Ok}
use Rattle.c_tree.specs.declared.token.Mark.{Mark}
use Rattle.c_tree.specs.declared.tree.UnaryOp.TheVariants as unary
use Rattle.c_tree.specs.declared.tree.Expr.{Expr}
use Rattle.c_grammar.specs.Tokens.{Tokens}
use Rattle.c_grammar.specs.inside.Parsing.{Out, syntax, too_deep, tail, offset_of, is_next}

-- what stands one deeper, if it may
pub record Nested : Type 0 where
  -- whether one more depth may be opened
  pub allowed : Bool
  pub unary : Tokens → Out Expr
  pub cast : Tokens → Out Expr
  pub conditional : Tokens → Out Expr
  pub assignment : Tokens → Out Expr
  pub expression : Tokens → Out Expr

-- takes a mark that opens a depth
abbrev pub enter : Mark → Nested → Tokens → Out ℕ
enter k nested ts =
    if is_next k ts then if nested.allowed then Ok
    (offset_of ts, tail ts) else too_deep ts else syntax ts
