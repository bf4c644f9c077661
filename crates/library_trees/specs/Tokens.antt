-- The tokens of the library's functions that print numbers, as docs/library.c has them.
use Rattle.std.specs.Prelude.{List, [], ◌∷◌, codes}
use Rattle.c_tree.specs.declared.token.Form.{Form}
use Rattle.c_tree.specs.declared.token.Form.TheVariants as form
use Rattle.c_tree.specs.declared.token.Key.TheVariants as key
use Rattle.c_tree.specs.declared.token.Kind.TheVariants.{Int}
use Rattle.c_tree.specs.declared.token.Mark.TheVariants as mark

-- of `print.u`
abbrev pub unsigned_tokens : List Form
unsigned_tokens =
    form.Key key.Int ∷ form.Name (codes "print.u") ∷ form.Mark mark.LeftParen ∷ form.Key key.Unsigned
    ∷ form.Key key.Long ∷ form.Name (codes "n") ∷ form.Mark mark.RightParen ∷ form.Mark mark.LeftBrace
    ∷ form.Key key.Int ∷ form.Name (codes "k") ∷ form.Mark mark.Assign ∷ form.Name (codes "n") ∷ form.Mark mark.Less
    ∷ form.Number 10 Int ∷ form.Mark mark.Question ∷ form.Number 0 Int ∷ form.Mark mark.Colon
    ∷ form.Name (codes "print.u") ∷ form.Mark mark.LeftParen ∷ form.Name (codes "n") ∷ form.Mark mark.Slash
    ∷ form.Number 10 Int ∷ form.Mark mark.RightParen ∷ form.Mark mark.Semicolon ∷ form.Name (codes "putchar")
    ∷ form.Mark mark.LeftParen ∷ form.Number 48 Int ∷ form.Mark mark.Plus ∷ form.Name (codes "n")
    ∷ form.Mark mark.Percent ∷ form.Number 10 Int ∷ form.Mark mark.RightParen ∷ form.Mark mark.Semicolon
    ∷ form.Key key.Return ∷ form.Name (codes "k") ∷ form.Mark mark.Plus ∷ form.Number 1 Int
    ∷ form.Mark mark.Semicolon ∷ form.Mark mark.RightBrace ∷ []

-- of `print.d`
abbrev pub signed_tokens : List Form
signed_tokens =
    form.Key key.Int ∷ form.Name (codes "print.d") ∷ form.Mark mark.LeftParen ∷ form.Key key.Long
    ∷ form.Name (codes "n") ∷ form.Mark mark.RightParen ∷ form.Mark mark.LeftBrace ∷ form.Key key.If
    ∷ form.Mark mark.LeftParen ∷ form.Name (codes "n") ∷ form.Mark mark.GreaterEqual ∷ form.Number 0 Int
    ∷ form.Mark mark.RightParen ∷ form.Key key.Return ∷ form.Name (codes "print.u") ∷ form.Mark mark.LeftParen
    ∷ form.Name (codes "n") ∷ form.Mark mark.RightParen ∷ form.Mark mark.Semicolon ∷ form.Name (codes "putchar")
    ∷ form.Mark mark.LeftParen ∷ form.Number 45 Int ∷ form.Mark mark.RightParen ∷ form.Mark mark.Semicolon
    ∷ form.Key key.Return ∷ form.Number 1 Int ∷ form.Mark mark.Plus ∷ form.Name (codes "print.u")
    ∷ form.Mark mark.LeftParen ∷ form.Mark mark.Minus ∷ form.Mark mark.LeftParen ∷ form.Key key.Unsigned
    ∷ form.Key key.Long ∷ form.Mark mark.RightParen ∷ form.Name (codes "n") ∷ form.Mark mark.RightParen
    ∷ form.Mark mark.Semicolon ∷ form.Mark mark.RightBrace ∷ []

-- of `print.x`
abbrev pub hexadecimal_tokens : List Form
hexadecimal_tokens =
    form.Key key.Int ∷ form.Name (codes "print.x") ∷ form.Mark mark.LeftParen ∷ form.Key key.Unsigned
    ∷ form.Key key.Long ∷ form.Name (codes "n") ∷ form.Mark mark.RightParen ∷ form.Mark mark.LeftBrace
    ∷ form.Key key.Int ∷ form.Name (codes "k") ∷ form.Mark mark.Assign ∷ form.Name (codes "n") ∷ form.Mark mark.Less
    ∷ form.Number 16 Int ∷ form.Mark mark.Question ∷ form.Number 0 Int ∷ form.Mark mark.Colon
    ∷ form.Name (codes "print.x") ∷ form.Mark mark.LeftParen ∷ form.Name (codes "n") ∷ form.Mark mark.ShiftRight
    ∷ form.Number 4 Int ∷ form.Mark mark.RightParen ∷ form.Mark mark.Semicolon ∷ form.Key key.Int
    ∷ form.Name (codes "d") ∷ form.Mark mark.Assign ∷ form.Name (codes "n") ∷ form.Mark mark.And
    ∷ form.Number 15 Int ∷ form.Mark mark.Semicolon ∷ form.Name (codes "putchar") ∷ form.Mark mark.LeftParen
    ∷ form.Name (codes "d") ∷ form.Mark mark.Less ∷ form.Number 10 Int ∷ form.Mark mark.Question
    ∷ form.Number 48 Int ∷ form.Mark mark.Plus ∷ form.Name (codes "d") ∷ form.Mark mark.Colon ∷ form.Number 97 Int
    ∷ form.Mark mark.Minus ∷ form.Number 10 Int ∷ form.Mark mark.Plus ∷ form.Name (codes "d")
    ∷ form.Mark mark.RightParen ∷ form.Mark mark.Semicolon ∷ form.Key key.Return ∷ form.Name (codes "k")
    ∷ form.Mark mark.Plus ∷ form.Number 1 Int ∷ form.Mark mark.Semicolon ∷ form.Mark mark.RightBrace ∷ []

-- of `print.digits`
abbrev pub digits_tokens : List Form
digits_tokens =
    form.Key key.Int ∷ form.Name (codes "print.digits") ∷ form.Mark mark.LeftParen ∷ form.Key key.Unsigned
    ∷ form.Key key.Long ∷ form.Name (codes "n") ∷ form.Mark mark.Comma ∷ form.Key key.Int ∷ form.Name (codes "base")
    ∷ form.Mark mark.Comma ∷ form.Key key.Int ∷ form.Name (codes "letters") ∷ form.Mark mark.RightParen
    ∷ form.Mark mark.LeftBrace ∷ form.Key key.If ∷ form.Mark mark.LeftParen ∷ form.Name (codes "n")
    ∷ form.Mark mark.Equal ∷ form.Number 0 Int ∷ form.Mark mark.RightParen ∷ form.Key key.Return
    ∷ form.Number 0 Int ∷ form.Mark mark.Semicolon ∷ form.Key key.Int ∷ form.Name (codes "k")
    ∷ form.Mark mark.Assign ∷ form.Name (codes "print.digits") ∷ form.Mark mark.LeftParen ∷ form.Name (codes "n")
    ∷ form.Mark mark.Slash ∷ form.Name (codes "base") ∷ form.Mark mark.Comma ∷ form.Name (codes "base")
    ∷ form.Mark mark.Comma ∷ form.Name (codes "letters") ∷ form.Mark mark.RightParen ∷ form.Mark mark.Semicolon
    ∷ form.Key key.Int ∷ form.Name (codes "d") ∷ form.Mark mark.Assign ∷ form.Name (codes "n")
    ∷ form.Mark mark.Percent ∷ form.Name (codes "base") ∷ form.Mark mark.Semicolon ∷ form.Name (codes "putchar")
    ∷ form.Mark mark.LeftParen ∷ form.Name (codes "d") ∷ form.Mark mark.Less ∷ form.Number 10 Int
    ∷ form.Mark mark.Question ∷ form.Number 48 Int ∷ form.Mark mark.Plus ∷ form.Name (codes "d")
    ∷ form.Mark mark.Colon ∷ form.Name (codes "letters") ∷ form.Mark mark.Plus ∷ form.Name (codes "d")
    ∷ form.Mark mark.RightParen ∷ form.Mark mark.Semicolon ∷ form.Key key.Return ∷ form.Name (codes "k")
    ∷ form.Mark mark.Plus ∷ form.Number 1 Int ∷ form.Mark mark.Semicolon ∷ form.Mark mark.RightBrace ∷ []

-- of `print.fill`
abbrev pub fill_tokens : List Form
fill_tokens =
    form.Key key.Int ∷ form.Name (codes "print.fill") ∷ form.Mark mark.LeftParen ∷ form.Key key.Int
    ∷ form.Name (codes "c") ∷ form.Mark mark.Comma ∷ form.Key key.Int ∷ form.Name (codes "count")
    ∷ form.Mark mark.RightParen ∷ form.Mark mark.LeftBrace ∷ form.Key key.Int ∷ form.Name (codes "k")
    ∷ form.Mark mark.Assign ∷ form.Number 0 Int ∷ form.Mark mark.Semicolon ∷ form.Key key.While
    ∷ form.Mark mark.LeftParen ∷ form.Name (codes "k") ∷ form.Mark mark.Less ∷ form.Name (codes "count")
    ∷ form.Mark mark.RightParen ∷ form.Mark mark.LeftBrace ∷ form.Name (codes "putchar") ∷ form.Mark mark.LeftParen
    ∷ form.Name (codes "c") ∷ form.Mark mark.RightParen ∷ form.Mark mark.Semicolon ∷ form.Name (codes "k")
    ∷ form.Mark mark.PlusPlus ∷ form.Mark mark.Semicolon ∷ form.Mark mark.RightBrace ∷ form.Key key.Return
    ∷ form.Name (codes "k") ∷ form.Mark mark.Semicolon ∷ form.Mark mark.RightBrace ∷ []

-- of `print.size`
abbrev pub size_tokens : List Form
size_tokens =
    form.Key key.Int ∷ form.Name (codes "print.size") ∷ form.Mark mark.LeftParen ∷ form.Key key.Unsigned
    ∷ form.Key key.Long ∷ form.Name (codes "n") ∷ form.Mark mark.Comma ∷ form.Key key.Int ∷ form.Name (codes "base")
    ∷ form.Mark mark.RightParen ∷ form.Mark mark.LeftBrace ∷ form.Key key.Int ∷ form.Name (codes "k")
    ∷ form.Mark mark.Assign ∷ form.Number 0 Int ∷ form.Mark mark.Semicolon ∷ form.Key key.While
    ∷ form.Mark mark.LeftParen ∷ form.Name (codes "n") ∷ form.Mark mark.NotEqual ∷ form.Number 0 Int
    ∷ form.Mark mark.RightParen ∷ form.Mark mark.LeftBrace ∷ form.Name (codes "n") ∷ form.Mark mark.SlashAssign
    ∷ form.Name (codes "base") ∷ form.Mark mark.Semicolon ∷ form.Name (codes "k") ∷ form.Mark mark.PlusPlus
    ∷ form.Mark mark.Semicolon ∷ form.Mark mark.RightBrace ∷ form.Key key.Return ∷ form.Name (codes "k")
    ∷ form.Mark mark.Semicolon ∷ form.Mark mark.RightBrace ∷ []
