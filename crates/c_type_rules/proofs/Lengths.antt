-- A size is at least 1.
use Rattle.std.proofs.Common.{◌≡◌, ℕ, ◌*◌, ◌≤◌, ◌<◌, Bool, true, false, Option, Some, None, refl, arith}
use Rattle.std.specs.Prelude.{cond, nat_lt, ℤ, pos, negsuc}
use Rattle.std.proofs.Math.Nat.{le_of_mul-le-mul_right}
use Rattle.c_tree.specs.declared.token.Kind.{Kind}
use Rattle.c_tree.specs.declared.tree.Expr.{Expr}
use Rattle.c_constant.specs.Kinds.{number}
use Rattle.c_constant.specs.Constant.{constant, ends, length_from, length_in, length_of}

-- a length is at least 1
counted_up : (b : Bool) (m n : ℕ) → nat_lt 0 m ≡ b → cond b (Some m) None ≡ Some n → 0 < n
counted_up true m n e h = grind (arith, e, h)
counted_up false m n e h = absurd (cc)

from_one : (z : ℤ) (n : ℕ) → length_from z ≡ Some n → 0 < n
from_one (pos m) n h = counted_up (nat_lt 0 m) m n refl h
from_one (negsuc m) n h = absurd (cc)

in_one : (k : Kind) (o : Option ℕ) (n : ℕ) → length_in k o ≡ Some n → 0 < n
in_one k None n h = absurd (cc)
in_one k (Some w) n h = from_one (number k w) n h

-- no more rows where their values are no more
pub no_less : (e : Expr) (n a m : ℕ) → length_of e ≡ Some n → a * n ≤ m * n → a ≤ m
no_less e n a m s h =
    le_of_mul-le-mul_right h (in_one (constant ends e).kind (constant ends e).value n s)
