-- What tokens come to, put one after another.
use Rattle.std.specs.Prelude.{ℕ, if◌then◌else◌, [], ◌∷◌, Result, Ok}
use Rattle.c_lex.specs.Lexes.{Tokens}
use Rattle.c_library.specs.declared.definition.Definition.{Definition}
use Rattle.c_library.specs.declared.fault.LibraryFault.{LibraryFault}
use Rattle.c_library.specs.declared.header.Header.{Header}
use Rattle.c_library.specs.declared.walk.Walk.{Walk}
use Rattle.c_library.specs.Definitions.{Definitions}
use Rattle.c_library.specs.Headers.{header_of, same_header}
use Rattle.c_library.specs.Library.{here}
use Rattle.c_library.specs.Places.{tokens}
use Rattle.c_library.specs.Walks.{past}
use Rattle.c_library.specs.Within.{◌>>=◌}
use Rattle.c_library.specs.inside.Puts.{put_all}

-- a definition, if it is of this header
abbrev pub one_defined : ℕ → Header → Definition → Tokens
one_defined at h d = if same_header d.header h then tokens at d.forms else []

-- the definitions of a header, all at this place
abbrev pub define_all : ℕ → ℕ → Header → Definitions → Tokens → Result Tokens LibraryFault
define_all most at h [] out = Ok out
define_all most at h (d ∷ ds) out = define_all most at h ds out >>= put_all most (one_defined at h d)

-- what stands for each token, with these definitions
abbrev pub place_all : ℕ → Definitions → Walk → Tokens → Tokens → Result Tokens LibraryFault
place_all most ds w [] out = Ok out
place_all most ds w (t ∷ ts) out =
    put_all most (here ds w t ts (header_of t.form)) out >>= place_all most ds (past w t ts) ts
