-- The model of the parser of statements.
use Rattle.std.specs.Prelude.{ℕ, zero, suc, if◌then◌else◌, Some, None, Ok}
use Rattle.c_tree.specs.declared.token.Mark.TheVariants as mark
use Rattle.c_tree.specs.declared.token.Key.{Key}
use Rattle.c_tree.specs.declared.token.Key.TheVariants as key
use Rattle.c_tree.specs.declared.tree.Expr.{Expr}
use Rattle.c_tree.specs.declared.tree.Stmt.{Stmt}
use Rattle.c_tree.specs.declared.tree.StmtNode.{StmtNode}
use Rattle.c_tree.specs.declared.tree.StmtNode.TheVariants as node
use Rattle.c_grammar.specs.Tokens.{Tokens}
use Rattle.c_grammar.specs.Statements.{at, semicolon, paren}
use Rattle.c_grammar.specs.inside.Parsing.{Out, and_then, syntax, too_deep, first, is_next, is_word}
use Rattle.c_grammar.specs.inside.Parsing.{expect, expect_keyword}
use Rattle.c_grammar.specs.inside.ModelTypes.{begins_type}
use Rattle.c_grammar.specs.inside.ModelExpressions.{inside, expression_of}
use Rattle.c_grammar.specs.inside.ModelDepth.{Nested}
use Rattle.c_grammar.specs.inside.ModelBegins.{begins_statement, Below}
use Rattle.c_grammar.specs.inside.ModelConditions.{until_of, test_of}
use Rattle.c_grammar.specs.inside.ModelLocals.{locals_of}
use Rattle.c_grammar.specs.inside.ModelSwitches.{switch_of}
use Rattle.c_grammar.specs.inside.ModelEntries.{entries_of, init_of}

module _ (nested : Nested) where
  module _ (below : Below) where
    -- takes an `else`
    unfoldable pub else_of : ℕ → Expr → Stmt → Tokens → Out Stmt
    else_of l c aye ts =
        and_then (expect_keyword key.Else ts) (λ _ ts.
        and_then (below.inner ts) (λ nay ts. Ok (at l (node.If c aye (Some nay)), ts)))

    -- takes an `else`, where one follows
    unfoldable pub no_of : ℕ → Expr → Stmt → Tokens → Out Stmt
    no_of l c aye ts = if is_word key.Else ts then else_of l c aye ts else Ok
        (at l (node.If c aye None), ts)

    -- takes an `if`
    unfoldable pub if_of : Tokens → Out Stmt
    if_of ts =
        and_then (expect_keyword key.If ts) (λ l ts.
        and_then (test_of nested ts) (λ c ts. and_then (below.inner ts) (λ aye ts. no_of l c aye ts)))

    -- takes a `while`
    unfoldable pub while_of : Tokens → Out Stmt
    while_of ts =
        and_then (expect_keyword key.While ts) (λ l ts.
        and_then (test_of nested ts) (λ c ts. and_then (below.inner ts)
        (λ s ts. Ok (at l (node.While c s), ts))))

    -- takes a `do`
    unfoldable pub do_of : Tokens → Out Stmt
    do_of ts =
        and_then (expect_keyword key.Do ts) (λ l ts.
        and_then (below.inner ts) (λ s ts.
        and_then (expect_keyword key.While ts) (λ _ ts.
        and_then (test_of nested ts) (λ c ts.
        and_then (expect mark.Semicolon ts) (λ _ ts. Ok (at l (node.Do s c), ts))))))

    -- takes a `for`
    unfoldable pub for_of : Tokens → Out Stmt
    for_of ts =
        and_then (expect_keyword key.For ts) (λ l ts.
        and_then (expect mark.LeftParen ts) (λ _ ts.
        and_then (init_of nested below ts) (λ i ts.
        and_then (until_of nested semicolon ts) (λ o ts.
        and_then (until_of nested paren ts) (λ o' ts.
        and_then (below.inner ts) (λ s ts. Ok (at l (node.For i o o' s), ts)))))))

    -- takes a `break` or a `continue`
    unfoldable pub leave_of : Key → StmtNode → Tokens → Out Stmt
    leave_of k n ts = and_then (expect_keyword k ts)
        (λ l ts. and_then (expect mark.Semicolon ts) (λ _ ts. Ok (at l n, ts)))

    -- takes a `return`
    unfoldable pub return_of : Tokens → Out Stmt
    return_of ts =
        and_then (expect_keyword key.Return ts)
        (λ l ts. and_then (until_of nested semicolon ts) (λ o ts. Ok (at l (node.Return o), ts)))

    -- takes an empty statement
    unfoldable pub empty_of : Tokens → Out Stmt
    empty_of ts = and_then (expect mark.Semicolon ts) (λ l ts. Ok (at l (node.Plain None), ts))

    -- takes a block
    unfoldable pub compound_of : Tokens → Out Stmt
    compound_of ts =
        and_then (expect mark.LeftBrace ts)
        (λ l ts. and_then (entries_of nested below ts) (λ ss ts. Ok (at l (node.Compound ss), ts)))

    -- takes an expression statement
    unfoldable pub plain_of : Tokens → Out Stmt
    plain_of ts =
        and_then (expression_of nested ts) (λ e ts.
        and_then (expect mark.Semicolon ts) (λ _ ts. Ok (at e.offset (node.Plain (Some e)), ts)))

    -- a statement that leaves a loop or a function, or a plain one
    unfoldable pub simple_of : Tokens → Out Stmt
    simple_of ts =
        if is_word key.Return ts then return_of ts
        else if is_word key.Break ts then leave_of key.Break node.Break ts
        else if is_word key.Continue ts then leave_of key.Continue node.Continue ts
        else if is_next mark.Semicolon ts then empty_of ts
        else plain_of ts

    -- takes a statement
    unfoldable pub stmt_of : Tokens → Out Stmt
    stmt_of ts =
        if is_next mark.LeftBrace ts then compound_of ts
        else if is_word key.If ts then if_of ts
        else if is_word key.While ts then while_of ts
        else if is_word key.Do ts then do_of ts
        else if is_word key.For ts then for_of ts
        else if is_word key.Switch ts then switch_of nested below ts
        else simple_of ts

-- what stands one deeper, where so many more depths may be opened
unfoldable pub below_at : ℕ → Below
below_at zero = record {
  inner = λ ts. if first begins_statement ts then too_deep ts else syntax ts;
  locals = λ ts. if begins_type ts then too_deep ts else syntax ts;
}
below_at (suc n) = record { inner = stmt_of (inside n) (below_at n); locals = locals_of (inside n) }
