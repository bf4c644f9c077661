-- The operations of the benchmark on small words: none of them overflows.
use Rattle.std.proofs.Common.{◌≡◌, ℕ, ◌+◌, ◌/◌, ◌%◌, ◌^◌, ◌<◌, pos, negsuc, Bool, true, false, cond, Option}
use Rattle.std.proofs.Common.{Some, None}
use Rattle.std.proofs.Common.{refl, sym, ap, ◌∙◌, arith, ◌&&◌}
use Rattle.std.specs.Prelude.{int_le, int_rem, int_div, ◌+ℤ◌, ℤ}
use Rattle.std.specs.Int.{w64, cast_signed}
use Rattle.std.proofs.lemmas.Int.{to_z_pos}
use Rattle.std.proofs.lemmas.Bool.Decides.{nat_tests}
use Rattle.std.proofs.lemmas.Grind.{common_steps}
use Rattle.c_tree.specs.declared.Kind.{Kind}
use Rattle.c_tree.specs.declared.Kind.TheVariants.{Int, Long}
use Rattle.c_tree.specs.declared.BinaryOp.TheVariants.{Add, Remainder}
use Rattle.c_constant.specs.Kinds.{number, word_of, in_kind, between, converted, IsWord}
use Rattle.c_constant.specs.Operation.{operate, c_operation, remainder, quotient, provided}
use Rattle.c_constant.proofs.Conversions.{converted_is}

-- a word below 2^63 is its number
pub long_is : (a : ℕ) → a < 2 ^ 63 → number Long a ≡ pos a
long_is a h = to_z_pos w64 a h

-- a word below 2^63 as an int is this number
pub int_is : (a : ℕ) → a < 2 ^ 63 → number Int a ≡ pos a
int_is a h = to_z_pos w64 a h

-- a long holds it
pub in_long : (a : ℕ) → a < 2 ^ 63 → in_kind Long (pos a) ≡ Some (pos a)
in_long a h = grind (arith, common_steps)

pub in_int : (a : ℕ) → a < 2 ^ 31 → in_kind Int (pos a) ≡ Some (pos a)
in_int a h = grind (arith, common_steps)

-- a sum of longs below 2^63 is the sum of the words
pub add_long : (a b : ℕ) → a + b < 2 ^ 63 → operate Add Long a b ≡ Some (a + b)
unfolding operate
add_long a b h =
    ap (λ z. word_of (in_kind Long (z +ℤ number Long b))) (long_is a (omega arith))
    ∙ ap (λ z. word_of (in_kind Long (pos a +ℤ z))) (long_is b (omega arith))
    ∙ ap word_of (in_long (a + b) h)

-- a sum of ints below 2^31 is the sum of the words
pub add_int : (a b : ℕ) → a + b < 2 ^ 31 → operate Add Int a b ≡ Some (a + b)
unfolding operate
add_int a b h =
    ap (λ z. word_of (in_kind Int (z +ℤ number Int b))) (int_is a (omega arith))
    ∙ ap (λ z. word_of (in_kind Int (pos a +ℤ z))) (int_is b (omega arith))
    ∙ ap word_of (in_int (a + b) h)

-- a remainder by 1,000
pub modulo_thousand : (a : ℕ) → a < 2 ^ 63 → operate Remainder Long a 1000 ≡ Some (a % 1000)
unfolding operate
modulo_thousand a h =
    ap (λ z. word_of (remainder Long z (pos 1000))) (long_is a h)
    ∙ (let q : quotient Long (pos a) (pos 1000) ≡ Some (pos (a / 1000)) = in_long (a / 1000) (omega arith) in
    ap (λ q. word_of (provided q (pos (a % 1000)))) q)

-- and by 26
pub modulo_letters : (a : ℕ) → a < 2 ^ 63 → operate Remainder Long a 26 ≡ Some (a % 26)
unfolding operate
modulo_letters a h =
    ap (λ z. word_of (remainder Long z (pos 26))) (long_is a h)
    ∙ (let q : quotient Long (pos a) (pos 26) ≡ Some (pos (a / 26)) = in_long (a / 26) (omega arith) in
    ap (λ q. word_of (provided q (pos (a % 26)))) q)

-- a word below 2^31 is converted to itself
pub to_int : (a : ℕ) → a < 2 ^ 31 → converted Int a ≡ a
to_int a h = converted_is Int a (record { below = omega arith; narrow = omega arith })

-- A word below 2^63 is its own as a `long`.
pub to_long : (a : ℕ) → a < 2 ^ 63 → converted Long a ≡ a
to_long a h = converted_is Long a (record { below = omega arith; narrow = omega arith })
