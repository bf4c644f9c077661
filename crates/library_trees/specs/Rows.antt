-- The library's table has these tokens.
use Rattle.std.specs.Prelude.{◌≡◌, cond, List, [], ◌∷◌, codes}
use Rattle.std.specs.Str.{bytes_eq}
use Rattle.c_library.specs.Definitions.{Row}
use Rattle.c_library.specs.PrintTable.{printing}
use Rattle.c_library.specs.Spelled.{forms_of}
use Rattle.c_lex.specs.Bytes.{Bytes}
use Rattle.library_trees.specs.Tokens.{unsigned_tokens, signed_tokens, hexadecimal_tokens, digits_tokens, fill_tokens}
use Rattle.library_trees.specs.Tokens.{size_tokens}

-- the text of the definition of a function in a table, and none where the table has no such
abbrev pub text_of : Bytes → List Row → Bytes
text_of w [] = []
text_of w (r ∷ rs) = cond (bytes_eq r.0 w) r.2 (text_of w rs)

-- the rows of the functions that print numbers
pub record TableHasTokens : Type 0 where
  pub unsigned : forms_of (text_of (codes "print.u") printing) ≡ unsigned_tokens
  pub signed : forms_of (text_of (codes "print.d") printing) ≡ signed_tokens
  pub hexadecimal : forms_of (text_of (codes "print.x") printing) ≡ hexadecimal_tokens
  pub digits : forms_of (text_of (codes "print.digits") printing) ≡ digits_tokens
  pub fill : forms_of (text_of (codes "print.fill") printing) ≡ fill_tokens
  pub size : forms_of (text_of (codes "print.size") printing) ≡ size_tokens
