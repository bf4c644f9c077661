-- The value of digits only grows.
use Rattle.std.proofs.Common.{◌≡◌, ℕ, ◌+◌, ◌-◌, ◌*◌, ◌<◌, ◌≤◌, nat_le, cond, List, []}
use Rattle.std.proofs.Common.{◌∷◌, length, get_or, drop, None, Some, arith, ap, ◌∙◌}
use Rattle.std.proofs.Common.{sym, add-one, drop-cons}
use Rattle.std.proofs.lemmas.Bool.Decides.{nat_tests}
use Rattle.trips_requests.specs.Limits.{value_from}

value_grows : (value : ℕ) (digits : List ℕ) → value ≤ value_from value digits
value_grows value [] = omega arith
value_grows value (digit ∷ digits) =
    let more = value_grows (value * 10 + (digit - 48)) digits in omega (arith, more)

value_next : (digits : List ℕ) (i value : ℕ) → i < length digits
    → value_from value (drop i digits)
    ≡ value_from (value * 10 + (get_or digits i 0 - 48)) (drop (i + 1) digits)
value_next digits i value lt = rw add-one (ap (value_from value) (drop-cons digits i 0 lt))

above : (total value most : ℕ) → most < value → value ≤ total
    → None ≡ cond (nat_le total most) (Some total) None
above total value most lt le = grind (arith, nat_tests)

-- a value that is too large stays so
pub too_large : (digits : List ℕ) (i value next most : ℕ) → i < length digits
    → value_from 0 digits ≡ value_from value (drop i digits)
    → next ≡ value * 10 + (get_or digits i 0 - 48) → most < next
    → None ≡ cond (nat_le (value_from 0 digits) most) (Some (value_from 0 digits)) None
too_large digits i value next most lt so_far is large =
    let e : value_from 0 digits ≡ value_from next (drop (i + 1) digits) =
    so_far ∙ value_next digits i value lt ∙ ap (λ n. value_from n (drop (i + 1) digits)) (sym is) in
    let more = value_grows next (drop (i + 1) digits) in
    above (value_from 0 digits) next most large (omega arith)
