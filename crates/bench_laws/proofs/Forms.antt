-- The tokens of the benchmark's lines.
use Rattle.std.proofs.Common.{ℕ, zero, suc, List, [], ◌∷◌, ◌++◌, codes}
use Rattle.std.specs.Prelude.{decimal}
use Rattle.c_tree.specs.declared.Form.{Form}
use Rattle.c_tree.specs.declared.Form.TheVariants as form
use Rattle.c_tree.specs.declared.Key.TheVariants as key
use Rattle.c_tree.specs.declared.Mark.TheVariants as mark
use Rattle.c_tree.specs.declared.Kind.TheVariants.{Int}
use Rattle.c_grammar.specs.Tokens.{Tokens, token}
use Rattle.bench_laws.proofs.Trees.{InLine, Offsets}

-- long a[16];
abbrev pub array_forms : List Form
array_forms =
    form.Key key.Long ∷ form.Name (codes "a") ∷ form.Mark mark.LeftBracket ∷ form.Number 16 Int ∷
    form.Mark mark.RightBracket ∷ form.Mark mark.Semicolon ∷ []

-- a function's line from its number to its number again
abbrev pub body_forms : List Form
body_forms =
    form.Mark mark.LeftParen ∷ form.Key key.Long ∷ form.Name (codes "x") ∷ form.Mark mark.RightParen ∷
    form.Mark mark.LeftBrace ∷ form.Key key.Long ∷ form.Name (codes "i") ∷ form.Mark mark.Semicolon ∷
    form.Key key.For ∷ form.Mark mark.LeftParen ∷ form.Name (codes "i") ∷ form.Mark mark.Assign ∷
    form.Number 0 Int ∷ form.Mark mark.Semicolon ∷ form.Name (codes "i") ∷ form.Mark mark.Less ∷
    form.Number 16 Int ∷ form.Mark mark.Semicolon ∷ form.Name (codes "i") ∷ form.Mark mark.Assign ∷
    form.Name (codes "i") ∷ form.Mark mark.Plus ∷ form.Number 1 Int ∷ form.Mark mark.RightParen ∷
    form.Name (codes "a") ∷ form.Mark mark.LeftBracket ∷ form.Name (codes "i") ∷ form.Mark mark.RightBracket ∷
    form.Mark mark.Assign ∷ form.Name (codes "x") ∷ form.Mark mark.Plus ∷ form.Name (codes "i") ∷
    form.Mark mark.Semicolon ∷ form.Key key.For ∷ form.Mark mark.LeftParen ∷ form.Name (codes "i") ∷
    form.Mark mark.Assign ∷ form.Number 1 Int ∷ form.Mark mark.Semicolon ∷ form.Name (codes "i") ∷
    form.Mark mark.Less ∷ form.Number 16 Int ∷ form.Mark mark.Semicolon ∷ form.Name (codes "i") ∷
    form.Mark mark.Assign ∷ form.Name (codes "i") ∷ form.Mark mark.Plus ∷ form.Number 1 Int ∷
    form.Mark mark.RightParen ∷ form.Name (codes "a") ∷ form.Mark mark.LeftBracket ∷ form.Name (codes "i") ∷
    form.Mark mark.RightBracket ∷ form.Mark mark.Assign ∷ form.Name (codes "a") ∷ form.Mark mark.LeftBracket ∷
    form.Name (codes "i") ∷ form.Mark mark.RightBracket ∷ form.Mark mark.Plus ∷ form.Name (codes "a") ∷
    form.Mark mark.LeftBracket ∷ form.Name (codes "i") ∷ form.Mark mark.Minus ∷ form.Number 1 Int ∷
    form.Mark mark.RightBracket ∷ form.Mark mark.Semicolon ∷ form.Key key.Return ∷ form.Name (codes "a") ∷
    form.Mark mark.LeftBracket ∷ form.Number 15 Int ∷ form.Mark mark.RightBracket ∷ form.Mark mark.Plus ∷ []

-- function k
abbrev pub function_forms : ℕ → List Form
function_forms k =
    form.Key key.Long ∷ form.Name (102 ∷ decimal k)
    ∷ (body_forms ++ form.Number k Int ∷ form.Mark mark.Semicolon ∷ form.Mark mark.RightBrace ∷ [])

-- int main(void) { long x = 1;
abbrev pub main_forms : List Form
main_forms =
    form.Key key.Int ∷ form.Name (codes "main") ∷ form.Mark mark.LeftParen ∷ form.Key key.Void ∷
    form.Mark mark.RightParen ∷ form.Mark mark.LeftBrace ∷ form.Key key.Long ∷ form.Name (codes "x") ∷
    form.Mark mark.Assign ∷ form.Number 1 Int ∷ form.Mark mark.Semicolon ∷ []

-- a call's line behind its number
abbrev pub behind_call_forms : List Form
behind_call_forms =
    form.Mark mark.LeftParen ∷ form.Name (codes "x") ∷ form.Mark mark.RightParen ∷ form.Mark mark.Percent ∷
    form.Number 1000 Int ∷ form.Mark mark.Semicolon ∷ form.Name (codes "putchar") ∷ form.Mark mark.LeftParen ∷
    form.Number 65 Int ∷ form.Mark mark.Plus ∷ form.Mark mark.LeftParen ∷ form.Key key.Int ∷
    form.Mark mark.RightParen ∷ form.Mark mark.LeftParen ∷ form.Name (codes "x") ∷ form.Mark mark.Percent ∷
    form.Number 26 Int ∷ form.Mark mark.RightParen ∷ form.Mark mark.RightParen ∷ form.Mark mark.Semicolon ∷ []

-- the call of function k
abbrev pub call_forms : ℕ → List Form
call_forms k =
    form.Name (codes "x") ∷ form.Mark mark.Assign ∷ form.Name (102 ∷ decimal k) ∷ behind_call_forms

-- return (int) x; }
abbrev pub end_forms : List Form
end_forms =
    form.Key key.Return ∷ form.Mark mark.LeftParen ∷ form.Key key.Int ∷ form.Mark mark.RightParen ∷
    form.Name (codes "x") ∷ form.Mark mark.Semicolon ∷ form.Mark mark.RightBrace ∷ []

-- TOKENS

-- those of a line with these offsets
abbrev pub line_of : InLine → List Form → Tokens
line_of l [] = []
line_of l (f ∷ fs) = token (l 0) f ∷ line_of (λ j. l (suc j)) fs

-- those of the lines below n
abbrev pub lines_of : (ℕ → List Form) → (ℕ → InLine) → ℕ → Tokens
lines_of forms o zero = []
lines_of forms o (suc n) = lines_of forms o n ++ line_of (o n) (forms n)

-- those of the text
abbrev pub tokens : Offsets → ℕ → Tokens
tokens o n = token o.include form.Include ∷ (line_of o.array array_forms ++ (lines_of function_forms o.functions n
    ++ (line_of o.main main_forms ++ (lines_of call_forms o.calls n ++ line_of o.ending end_forms))))
