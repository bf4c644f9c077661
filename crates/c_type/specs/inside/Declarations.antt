-- Beside what is believed of Declarations.antt: local declarations (C17 6.7).
use Rattle.std.specs.Prelude.{length}
use Rattle.c_tree.specs.declared.token.Kind.{Kind}
use Rattle.c_tree.specs.declared.tree.ArraySize.{ArraySize}
use Rattle.c_tree.specs.declared.typed.TypedArray.{TypedArray}
use Rattle.c_type.specs.States.{row_in}
use Rattle.c_type.specs.Declarations.{extent}

-- the local array of these sizes
abbrev pub typed_array : ArraySize → Kind → TypedArray
typed_array s k = record { kind = k; length = extent s; row = row_in s }
