-- What a conversion does to the words of a type, and which conversions leave each word as it is.
use Rattle.std.specs.Prelude.{Bool, cond, ◌&&◌, nat_lt, nat_le, Option, Some, None}
use Rattle.c_tree.specs.declared.Kind.{Kind}
use Rattle.c_tree.specs.declared.Kind.TheVariants.{Char, UChar, Short, UShort, Int, UInt, Long, ULong}
use Rattle.c_tree.specs.declared.Kind.TheVariants as kind
use Rattle.c_constant.specs.Kinds.{width, is_signed}
use Rattle.trips_isa.specs.declared.op.Op.{Op}
use Rattle.trips_isa.specs.declared.op.Op.TheVariants as op

-- what makes a word of a type of any word, with 0 behind it; none where each word is one
abbrev pub narrowing : Kind → Option Op
narrowing Char = Some op.Extsb
narrowing UChar = Some op.Extub
narrowing Short = Some op.Extsh
narrowing UShort = Some op.Extuh
narrowing Int = Some op.Extsw
narrowing UInt = Some op.Extuw
narrowing Long = None
narrowing ULong = None
narrowing kind.Bool = Some op.Tne

-- whether each word of a type is one of another: a type with a sign holds the numbers of an unsigned one of
-- fewer bits, and no unsigned type holds negative numbers
abbrev pub is_within : Kind → Kind → Bool
is_within j k =
    cond (is_signed j) (is_signed k && nat_le (width j) (width k))
    (cond (is_signed k) (nat_lt (width j) (width k)) (nat_le (width j) (width k)))

-- what makes a word of a type of a word of another, if this type is known; none where each word is one
abbrev pub narrowing_from : Option Kind → Kind → Option Op
narrowing_from None k = narrowing k
narrowing_from (Some j) k = cond (is_within j k) None (narrowing k)
