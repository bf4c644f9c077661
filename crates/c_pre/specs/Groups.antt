-- The groups of lines that `#ifdef` and `#ifndef` open (C17 6.10.1).
use Rattle.std.specs.Prelude.{Bool, true, List, [], ◌∷◌}
use Rattle.c_pre.specs.declared.groups.Group.{Group}

-- are the lines read, where these groups are open, the innermost first?
abbrev pub is_read : List Group → Bool
is_read [] = true
is_read (g ∷ gs) = g.read
