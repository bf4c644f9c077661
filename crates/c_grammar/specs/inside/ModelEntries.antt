-- The model of the parser of the entries of a block, and of what a `for` begins with.
use Rattle.std.specs.Prelude.{suc, if◌then◌else◌, List, [], ◌∷◌, length, Ok}
use Rattle.c_tree.specs.declared.token.Mark.TheVariants as mark
use Rattle.c_tree.specs.declared.tree.Stmt.{Stmt}
use Rattle.c_tree.specs.declared.tree.ForInit.{ForInit}
use Rattle.c_tree.specs.declared.tree.ForInit.TheVariants as inits
use Rattle.c_grammar.specs.Tokens.{Tokens}
use Rattle.c_grammar.specs.Statements.{semicolon, for_init}
use Rattle.c_grammar.specs.inside.Parsing.{Out, and_then, many}
use Rattle.c_grammar.specs.inside.ModelTypes.{begins_type}
use Rattle.c_grammar.specs.inside.ModelDepth.{Nested}
use Rattle.c_grammar.specs.inside.ModelBegins.{Below}
use Rattle.c_grammar.specs.inside.ModelConditions.{until_of}

module _ (nested : Nested) where
  module _ (below : Below) where
    -- takes a statement, as a list of one
    unfoldable pub one_of : Tokens → Out (List Stmt)
    one_of ts = and_then (below.inner ts) (λ s ts. Ok (s ∷ [], ts))

    -- takes an entry of a block
    unfoldable pub entry_of : Tokens → Out (List Stmt)
    entry_of ts = if begins_type ts then below.locals ts else one_of ts

    -- takes the entries of a block
    unfoldable pub entries_of : Tokens → Out (List Stmt)
    entries_of ts = many mark.RightBrace entry_of (suc (length ts)) ts

    -- takes a declaration that begins a `for`
    unfoldable pub init_local_of : Tokens → Out ForInit
    init_local_of ts = and_then (below.locals ts) (λ ss ts. Ok (inits.Locals ss, ts))

    -- takes an expression that begins a `for`
    unfoldable pub init_plain_of : Tokens → Out ForInit
    init_plain_of ts = and_then (until_of nested semicolon ts) (λ o ts. Ok (for_init o, ts))

    -- takes what begins a `for`
    unfoldable pub init_of : Tokens → Out ForInit
    init_of ts = if begins_type ts then init_local_of ts else init_plain_of ts
