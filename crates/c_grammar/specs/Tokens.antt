-- Lists of tokens as the grammar reads them, and which tokens may open a depth.
use Rattle.std.specs.Prelude.{ℕ, Bool, nat_le, List}
use Rattle.c_tree.specs.declared.token.Lexeme.{Lexeme}
use Rattle.c_tree.specs.declared.token.Form.{Form}
use Rattle.c_tree.specs.declared.token.Form.TheVariants as form
use Rattle.c_tree.specs.declared.token.Mark.{Mark}
use Rattle.c_tree.specs.declared.token.Key.{Key}

-- what the lexer gives
abbrev pub Tokens : Type 0
Tokens = List Lexeme

-- the token of an offset and a form
abbrev pub token : ℕ → Form → Lexeme
token l f = record { offset = l; form = f }

-- a mark as a token
abbrev pub punct : ℕ → Mark → Lexeme
punct l m = token l (form.Mark m)

-- a keyword as a token
abbrev pub word : ℕ → Key → Lexeme
word l k = token l (form.Key k)

-- a name as a token
abbrev pub named : ℕ → List ℕ → Lexeme
named l w = token l (form.Name w)

-- May a token open this depth? The list begins with that token.
abbrev pub May : Type 0
May = Tokens → ℕ → Bool

-- no token opens a depth beyond m
abbrev pub within : ℕ → May
within m = λ q d. nat_le d m
