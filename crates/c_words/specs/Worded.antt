-- What a unit comes to behind the keywords of its declarations.
use Rattle.c_lex.specs.Lexes.{Tokens}
use Rattle.c_words.specs.Guards.{guarded}
use Rattle.c_words.specs.Ordered.{ordered}
use Rattle.c_words.specs.Pointers.{without_pointers}

-- A `const` where an object would be set that is const; then the keywords of declarations in the order of the
-- grammar; then arrays for the parameters that are pointers.
abbrev pub worded : Tokens → Tokens
worded ts = without_pointers (ordered (guarded ts))
