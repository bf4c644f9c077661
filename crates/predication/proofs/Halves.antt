-- The halves of an address of 32 bits are its own.
use Rattle.std.proofs.Common.{◌≡◌, ℕ, ◌+◌, ◌-◌, ◌*◌, ◌/◌, ◌%◌, ◌^◌, ◌<◌, ap, arith, cond, nat_lt, Bool, true}
use Rattle.std.proofs.lemmas.Bool.Decides.{nat_tests}
use Rattle.predication.specs.inside.Tails.{high_half, low_half}

short_is : (w : ℕ) → w < 2 ^ 32 → nat_lt w (2 ^ 32) ≡ true
short_is w l = grind (arith, nat_tests, l)

-- the high half of an address of 32 bits
pub high_is : (w : ℕ) → w < 2 ^ 32 → high_half w ≡ w / 65536
high_is w l = ap (λ (c : Bool). cond c (w / 65536) (65536 + (w - 2 ^ 32))) (short_is w l)

-- the low half of an address of 32 bits
pub low_is : (w : ℕ) → w < 2 ^ 32 → low_half w ≡ w % 65536
low_is w l = ap (λ (c : Bool). cond c (w % 65536) (65536 + (w - 2 ^ 32))) (short_is w l)

-- put together they are the address
pub halves_make : (w : ℕ) → w < 2 ^ 32 → (high_half w * 65536 + low_half w) % 2 ^ 64 ≡ w
halves_make w l = let a = high_is w l in let b = low_is w l in omega (arith, a, b, l)
