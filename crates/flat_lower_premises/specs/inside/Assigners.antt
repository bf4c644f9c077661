-- The operators of assignments (C17 6.5.16).
use Rattle.std.specs.Prelude.{Option, Some, None}
use Rattle.c_tree.specs.declared.tree.BinaryOp.{BinaryOp}
use Rattle.c_tree.specs.Marks.{IsCompound}

-- `=`, which has none, or one of the ten that compute
abbrev pub IsAssigner : Option BinaryOp → Type 0
IsAssigner None = Unit {0}
IsAssigner (Some o) = IsCompound o
