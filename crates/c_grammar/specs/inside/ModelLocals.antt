-- The model of the parser of local declarations.
use Rattle.std.specs.Prelude.{suc, false, if◌then◌else◌, List, length, Some, None, Ok}
use Rattle.c_tree.specs.declared.token.Mark.TheVariants as mark
use Rattle.c_tree.specs.declared.token.Kind.{Kind}
use Rattle.c_tree.specs.declared.tree.Expr.{Expr}
use Rattle.c_tree.specs.declared.tree.ArraySize.TheVariants as size
use Rattle.c_tree.specs.declared.tree.Stmt.{Stmt}
use Rattle.c_grammar.specs.Tokens.{Tokens}
use Rattle.c_grammar.specs.Statements.{Shape, declared}
use Rattle.c_grammar.specs.inside.Parsing.{Out, and_then, is_next, expect, name_of, listed}
use Rattle.c_grammar.specs.inside.ModelTypes.{type_of}
use Rattle.c_grammar.specs.inside.ModelExpressions.{assignment_of, conditional_of}
use Rattle.c_grammar.specs.inside.ModelDepth.{Nested}

module _ (nested : Nested) where
  -- takes an initialiser
  unfoldable pub value_of : Tokens → Out Shape
  value_of ts =
      and_then (expect mark.Assign ts) (λ _ ts.
      and_then (assignment_of nested ts) (λ e ts. Ok ((size.Scalar, Some e), ts)))

  -- takes a size in its brackets
  unfoldable pub size_of : Tokens → Out Expr
  size_of ts =
      and_then (expect mark.LeftBracket ts) (λ _ ts.
      and_then (conditional_of nested ts) (λ e ts.
      and_then (expect mark.RightBracket ts) (λ _ ts. Ok (e, ts))))

  -- takes the second size of an array
  unfoldable pub second_of : Expr → Tokens → Out Shape
  second_of r ts = and_then (size_of ts) (λ e ts. Ok ((size.Rows (Some r) e, None), ts))

  -- takes what stands behind the first size of an array
  unfoldable pub after_size : Expr → Tokens → Out Shape
  after_size e ts =
      if is_next mark.LeftBracket ts then second_of e ts else Ok ((size.Sized e, None), ts)

  -- takes the sizes of an array
  unfoldable pub array_of : Tokens → Out Shape
  array_of ts = and_then (size_of ts) (λ e ts. after_size e ts)

  -- takes what stands behind a name
  unfoldable pub shape_of : Tokens → Out Shape
  shape_of ts =
      if is_next mark.Assign ts then value_of ts
      else if is_next mark.LeftBracket ts then array_of ts
      else Ok ((size.Scalar, None), ts)

  -- takes one declarator
  unfoldable pub decl_of : Kind → Tokens → Out Stmt
  decl_of k ts = and_then (name_of ts) (λ n ts. and_then (shape_of ts)
      (λ s ts. Ok (declared n.0 k n.1 s, ts)))

  -- takes declarators
  unfoldable pub decls_of : Kind → Tokens → Out (List Stmt)
  decls_of k ts = listed mark.Semicolon false (decl_of k) (suc (length ts)) ts

  -- takes a local declaration
  unfoldable pub locals_of : Tokens → Out (List Stmt)
  locals_of ts = and_then (type_of ts) (λ k ts. decls_of k.1 ts)
