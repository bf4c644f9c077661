-- Beside what is believed of LeftOut.antt: full expressions that may be left out.
use Rattle.std.specs.Prelude.{Bool, true, false, [], ◌∷◌}
use Rattle.c_type_expr.specs.Scope.{Scope}

-- is a block open?
abbrev pub some_block : Scope → Bool
some_block [] = false
some_block (f ∷ G) = true
