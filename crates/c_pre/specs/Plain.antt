-- Raw tokens that are their own program.
use Rattle.std.specs.Prelude.{Bool, true, false, ◌&&◌, [], ◌∷◌}
use Rattle.c_pre.specs.declared.said.Said.{Said}
use Rattle.c_pre.specs.declared.said.Said.TheVariants as said
use Rattle.c_pre.specs.Passes.{is_passed}
use Rattle.c_pre.specs.Said.{said_by}
use Rattle.c_lex.specs.Lexes.{Tokens}

-- is it a token of the program?
abbrev pub is_token : Said → Bool
is_token said.Token = true
is_token _ = false

-- is each of them one, and so no directive and no header but `<stdio.h>`?
abbrev pub has_no_directive : Tokens → Bool
has_no_directive [] = true
has_no_directive (t ∷ ts) = is_token (said_by t.form) && has_no_directive ts

-- are they so, with nothing that a pass would change?
abbrev pub is_plain : Tokens → Bool
is_plain ts = has_no_directive ts && is_passed ts
