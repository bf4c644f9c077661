-- The types in which operations are done.
use Rattle.c_tree.specs.declared.Kind.{Kind}
use Rattle.c_tree.specs.declared.Kind.TheVariants.{Char, UChar, Short, UShort, Int, UInt, Long, ULong}
use Rattle.c_tree.specs.declared.Kind.TheVariants as kind

-- the types in which operations are done
abbrev pub IsArithmetic : Kind → Type 0
IsArithmetic Char = ⊥
IsArithmetic UChar = ⊥
IsArithmetic Short = ⊥
IsArithmetic UShort = ⊥
IsArithmetic Int = Unit {0}
IsArithmetic UInt = Unit {0}
IsArithmetic Long = Unit {0}
IsArithmetic ULong = Unit {0}
IsArithmetic kind.Bool = ⊥
