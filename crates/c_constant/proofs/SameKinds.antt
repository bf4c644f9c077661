-- The test of two types tells whether they are one.
use Rattle.std.proofs.Common.{◌≡◌, true, refl}
use Rattle.std.proofs.lemmas.Bool.{false≢true}
use Rattle.c_tree.specs.declared.token.Kind.{Kind}
use Rattle.c_tree.specs.declared.token.Kind.TheVariants.{Char, UChar, Short, UShort, Int, UInt}
use Rattle.c_tree.specs.declared.token.Kind.TheVariants.{Long, ULong}
use Rattle.c_tree.specs.declared.token.Kind.TheVariants as kind
use Rattle.c_constant.specs.Kinds.{same_kind}

-- types that are the same by the test are one
pub kinds_are : (j k : Kind) → same_kind j k ≡ true → j ≡ k
kinds_are Char Char h = refl
kinds_are UChar UChar h = refl
kinds_are Short Short h = refl
kinds_are UShort UShort h = refl
kinds_are Int Int h = refl
kinds_are UInt UInt h = refl
kinds_are Long Long h = refl
kinds_are ULong ULong h = refl
kinds_are kind.Bool kind.Bool h = refl
kinds_are _ _ h = absurd (false≢true h)

-- a type is the same as itself
pub kind_itself : (k : Kind) → same_kind k k ≡ true
kind_itself Char = refl
kind_itself UChar = refl
kind_itself Short = refl
kind_itself UShort = refl
kind_itself Int = refl
kind_itself UInt = refl
kind_itself Long = refl
kind_itself ULong = refl
kind_itself kind.Bool = refl
