-- The model of the parser of translation units.
use Rattle.std.specs.Prelude.{ℕ, suc, Bool, true, false, if◌then◌else◌, List, [], ◌∷◌, length, Option}
use Rattle.std.specs.Prelude.{Some, None, Ok}
use Rattle.c_tree.specs.declared.token.Form.{Form}
use Rattle.c_tree.specs.declared.token.Form.TheVariants as form
use Rattle.c_tree.specs.declared.token.Mark.TheVariants as mark
use Rattle.c_tree.specs.declared.token.Key.TheVariants as key
use Rattle.c_tree.specs.declared.token.Kind.{Kind}
use Rattle.c_tree.specs.declared.tree.Stmt.{Stmt}
use Rattle.c_tree.specs.declared.tree.Param.{Param}
use Rattle.c_tree.specs.declared.tree.Top.{Top}
use Rattle.c_tree.specs.declared.tree.TopNode.TheVariants as tops
use Rattle.c_grammar.specs.Tokens.{Tokens}
use Rattle.c_grammar.specs.Units.{at, function}
use Rattle.c_grammar.specs.inside.Parsing.{Out, and_then, syntax, tail, offset_of, first, is_next}
use Rattle.c_grammar.specs.inside.Parsing.{is_word, expect, expect_keyword, name_of, to_end}
use Rattle.c_grammar.specs.inside.ModelTypes.{type_of}
use Rattle.c_grammar.specs.inside.ModelExpressions.{inside}
use Rattle.c_grammar.specs.inside.ModelDepth.{Nested}
use Rattle.c_grammar.specs.inside.ModelStatements.{below_at, compound_of}
use Rattle.c_grammar.specs.inside.ModelGlobals.{globals_of}
use Rattle.c_grammar.specs.inside.ModelParameters.{params_of}

-- is it the include?
abbrev pub is_include : Form → Bool
is_include form.Include = true
is_include _ = false

-- takes the include
unfoldable pub include_of : Tokens → Out (List Top)
include_of ts = if first is_include ts then Ok
    (at (offset_of ts) tops.Include ∷ [], tail ts) else syntax ts

-- a compound statement, of which the entries stand at this depth
abbrev pub Body : Type 0
Body = Tokens → Out Stmt

module _ (nested : Nested) where
  module _ (body : Body) where
    -- takes the body of a function
    unfoldable pub defined_of : Option Kind → ℕ → List ℕ → List Param → Tokens → Out Top
    defined_of r l w ps ts = and_then (body ts) (λ b ts. Ok (function l r w ps (Some b), ts))

    -- takes the end of a prototype
    unfoldable pub declared_of : Option Kind → ℕ → List ℕ → List Param → Tokens → Out Top
    declared_of r l w ps ts = and_then (expect mark.Semicolon ts)
        (λ _ ts. Ok (function l r w ps None, ts))

    -- takes what stands behind the parameters of a function
    unfoldable pub rest_of : Option Kind → ℕ → List ℕ → List Param → Tokens → Out Top
    rest_of r l w ps ts = if is_next mark.LeftBrace ts then defined_of r l w ps ts else declared_of
        r l w ps ts

    -- behind a function's name
    unfoldable pub func_of : Option Kind → ℕ → List ℕ → Tokens → Out (List Top)
    func_of r l w ts =
        and_then (expect mark.LeftParen ts) (λ _ ts.
        and_then (params_of nested ts) (λ ps ts.
        and_then (rest_of r l w ps ts) (λ x ts. Ok (x ∷ [], ts))))

    -- takes what stands behind a type and a name
    unfoldable pub after_name : Kind → ℕ → List ℕ → Tokens → Out (List Top)
    after_name k l w ts = if is_next mark.LeftParen ts then func_of
        (Some k) l w ts else globals_of nested k l w ts

    -- takes a function of no value
    unfoldable pub void_item_of : Tokens → Out (List Top)
    void_item_of ts =
        and_then (expect_keyword key.Void ts)
        (λ _ ts. and_then (name_of ts) (λ n ts. func_of None n.0 n.1 ts))

    -- takes a function with a value, or globals
    unfoldable pub typed_item_of : Tokens → Out (List Top)
    typed_item_of ts = and_then (type_of ts)
        (λ k ts. and_then (name_of ts) (λ n ts. after_name k.1 n.0 n.1 ts))

    -- takes an item
    unfoldable pub item_of : Tokens → Out (List Top)
    item_of ts =
        if first is_include ts then include_of ts
        else if is_word key.Void ts then void_item_of ts
        else typed_item_of ts

-- where so many depths may be opened in a function's body, which has depth 1 itself
unfoldable pub unit_of : ℕ → Tokens → Out (List Top)
unit_of n ts = to_end (item_of (inside (suc n)) (compound_of (inside n) (below_at n)))
    (suc (length ts)) ts
