-- Products with a power of two, and the range of the signed types.
use Rattle.std.proofs.Common.{◌≡◌, ℕ, ◌*◌, ◌/◌, ◌<◌, ◌≤◌, pos, None, arith, ⊎_elim, IsTrue}
use Rattle.std.proofs.Math.Nat.{le-div_iff_mul-le}
use Rattle.std.proofs.lemmas.Bool.{cases_lt}
use Rattle.std.proofs.lemmas.Grind.{common_steps}
use Rattle.c_tree.specs.declared.Kind.{Kind}
use Rattle.c_tree.specs.declared.Kind.TheVariants.{Char, UChar, Short, UShort, Int, UInt, Long}
use Rattle.c_tree.specs.declared.Kind.TheVariants.{ULong}
use Rattle.c_tree.specs.declared.Kind.TheVariants as kind
use Rattle.c_constant.specs.Kinds.{in_kind, is_signed}

-- no signed type holds a number from 2^63 on
pub beyond : (k : Kind) (n : ℕ) → IsTrue (is_signed k) → 9223372036854775807 < n
    → in_kind k (pos n) ≡ None
beyond Char n s h = grind (arith, common_steps)
beyond UChar n s h = cc
beyond Short n s h = grind (arith, common_steps)
beyond UShort n s h = cc
beyond Int n s h = grind (arith, common_steps)
beyond UInt n s h = cc
beyond Long n s h = grind (arith, common_steps)
beyond ULong n s h = cc
beyond kind.Bool n s h = cc

-- a product is below 2^63 where its first factor is at most the quotient
pub under : (a m : ℕ) → 0 < m → a ≤ 9223372036854775807 / m → a * m ≤ 9223372036854775807
under a m p h = (le-div_iff_mul-le p).0 h

-- and else is not
pub over : (a m : ℕ) → 0 < m → 9223372036854775807 / m < a → 9223372036854775807 < a * m
over a m p h =
    ⊎_elim (λ l. l)
    (λ l. let f : a ≤ 9223372036854775807 / m = (le-div_iff_mul-le p).1 l in absurd (omega arith))
    (cases_lt 9223372036854775807 (a * m))
