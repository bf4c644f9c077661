-- The passes over the tokens behind directives, from which those of the grammar come.
use Rattle.std.specs.Prelude.{ℕ, Bool, ◌&&◌, Result}
use Rattle.c_lex.specs.Lexes.{Tokens}
use Rattle.c_library.specs.declared.fault.LibraryFault.{LibraryFault}
use Rattle.c_library.specs.Prepared.{prepared, is_prepared}
use Rattle.c_library.specs.Within.{◌>>=◌, within}
use Rattle.c_locals.specs.Objects.{with_objects, has_no_objects}
use Rattle.c_names.specs.Named.{named, has_no_name}
use Rattle.c_sizes.specs.Sized.{sized, is_sized}
use Rattle.c_units.specs.Settled.{settled, is_settled}
use Rattle.c_words.specs.Unworded.{has_no_words}
use Rattle.c_words.specs.Worded.{worded}

-- what a pass gives, if that is no more than there may be
abbrev pub pass : (Tokens → Tokens) → ℕ → Tokens → Result Tokens LibraryFault
pass f most ts = within most (f ts)

-- The tokens of the grammar: names of types and of constants give way to what they stand for (`named`); the words of
-- declarations come into the grammar's order (`worded`); what the unit calls of the library is defined in it, and its
-- literals are arrays (`prepared`); each object outside of functions is declared once, and no function within one
-- (`settled`); sizes of objects give way to constants (`sized`); and what the objects of functions have beyond the
-- grammar, as values of arrays, is written out (`with_objects`).
abbrev pub passed : ℕ → Tokens → Result Tokens LibraryFault
passed most ts =
    pass named most ts
    >>= pass worded most
    >>= prepared most
    >>= pass settled most
    >>= pass sized most
    >>= pass with_objects most

-- is there nothing that a pass would change?
abbrev pub is_passed : Tokens → Bool
is_passed ts =
    has_no_name ts && (has_no_words ts && (is_prepared ts && (is_sized ts && (is_settled ts && has_no_objects ts))))
