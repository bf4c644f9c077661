-- Constants that are powers of two: what is done by shifts and masks in place of a product, a division or its
-- remainder.
use Rattle.std.specs.Prelude.{ℕ, zero, suc, ◌+◌, ◌-◌, ◌/◌, Bool, true, false, cond, nat_eq, nat_le, nat_lt}
use Rattle.std.specs.Prelude.{Option, Some, None}
use Rattle.c_tree.specs.declared.Kind.{Kind}
use Rattle.c_tree.specs.declared.BinaryOp.{BinaryOp}
use Rattle.c_tree.specs.declared.BinaryOp.TheVariants.{Divide, Remainder}
use Rattle.c_constant.specs.Kinds.{is_signed, width, converted}
use Rattle.trips_isa.specs.declared.op.Op.TheVariants as op
use Rattle.ir_forms.specs.declared.flat.Arg.TheVariants.{Const, Var}
use Rattle.ir_forms.specs.inside.FlatCode.{Code, Then, only, Let}
use Rattle.flat_lower.specs.declared.powers.Power.{Power}
use Rattle.flat_lower.specs.inside.Operations.{scratch, two_done}
use Rattle.flat_lower.specs.inside.Tree.{Expr, Number, Convert}

-- EXPONENTS

-- the exponent of w, if it is among so many powers of two, of which p = 2^n is the least
abbrev pub exponent_from : ℕ → ℕ → ℕ → ℕ → Option ℕ
exponent_from zero n p w = None
exponent_from (suc left) n p w =
    cond (nat_eq p w) (Some n)
    (cond (nat_le p (w / 2)) (exponent_from left (suc n) (p + p) w) None)

-- the exponent of a word that is a power of two
unfoldable pub exponent_of : ℕ → Option ℕ
exponent_of w = exponent_from 64 0 1 w

-- the power of two that a word is, by its exponent
abbrev pub power_by : Option ℕ → ℕ → Option Power
power_by None w = None
power_by (Some n) w = Some (record { exponent = n; mask = w - 1 })

-- CONSTANT OPERANDS

-- the word of a number
abbrev pub number_of : Expr → Option ℕ
number_of (Number k w) = Some w
number_of _ = None

-- a word at another type, if there is one
abbrev pub converted_number : Kind → Option ℕ → Option ℕ
converted_number k None = None
converted_number k (Some w) = Some (converted k w)

-- the word of a constant operand: a number, or one that typing converts
abbrev pub constant_of : Expr → Option ℕ
constant_of (Number k w) = Some w
constant_of (Convert k to e) = converted_number to (number_of e)
constant_of _ = None

-- the power of two that a constant is
abbrev pub power_if : Option ℕ → Option Power
power_if None = None
power_if (Some w) = power_by (exponent_of w) w

-- the powers of a type with a sign lie below its sign's bit; 1 is none of them, as it has no bits below its own
abbrev pub signed_power : Power → Option Power
signed_power p = cond (nat_lt 0 p.exponent) (cond (nat_lt p.exponent 63) (Some p) None) None

-- the power at a type
abbrev pub power_at : Kind → Option Power → Option Power
power_at k None = None
power_at k (Some p) = cond (is_signed k) (signed_power p) (Some p)

-- at a type that is known
abbrev pub power_for : Option Kind → Option Power → Option Power
power_for None p = None
power_for (Some k) p = power_at k p

-- the power that stands in the operation in place of a right operand, where it needs no temporary
abbrev pub immediate_for : BinaryOp → Option Kind → Expr → Option Power
immediate_for Divide k r = power_for k (power_if (constant_of r))
immediate_for Remainder k r = power_for k (power_if (constant_of r))
immediate_for o k r = None

-- CODE

-- the operation on x that is never negative
abbrev pub exact_code : BinaryOp → Power → ℕ → Code
exact_code Divide p x = only (Let x op.Srl (Var x) (Const p.exponent))
exact_code o p x = only (Let x op.And (Var x) (Const p.mask))

-- whether the first n bits of each word of a type are its sign
abbrev pub are_signs : Kind → ℕ → Bool
are_signs k n = nat_le n (65 - width k)

-- what x wants before it is shifted by n, in a scratch variable: the mask where x is negative, else 0; these are the
-- first n bits of x, or of its sign alone
abbrev pub bias_code : Bool → ℕ → ℕ → Code
bias_code true n x = only (Let (scratch 0) op.Srl (Var x) (Const (64 - n)))
bias_code false n x =
    Then (only (Let (scratch 0) op.Sra (Var x) (Const 63)))
    (only (Let (scratch 0) op.Srl (Var (scratch 0)) (Const (64 - n))))

-- the operation on x with its bias: a quotient, or what the mask leaves and the bias is taken from
abbrev pub biased_code : BinaryOp → Power → ℕ → Code
biased_code Divide p x = only (Let x op.Sra (Var x) (Const p.exponent))
biased_code o p x = Then (only (Let x op.And (Var x) (Const p.mask))) (two_done x op.Sub x (scratch 0))

-- the operation on x that may be negative: a quotient is rounded toward zero, and a shift rounds down
abbrev pub rounded_code : BinaryOp → Kind → Power → ℕ → Code
rounded_code o k p x =
    Then (bias_code (are_signs k p.exponent) p.exponent x)
    (Then (two_done x op.Add x (scratch 0)) (biased_code o p x))

-- the operation on x and that power
abbrev pub immediate_code : BinaryOp → Kind → Power → ℕ → Code
immediate_code o k p x = cond (is_signed k) (rounded_code o k p x) (exact_code o p x)

-- x times q, whose exponent may be known
abbrev pub scaled_by : Option ℕ → ℕ → ℕ → Code
scaled_by None q x = only (Let x op.Mul (Var x) (Const q))
scaled_by (Some n) q x = only (Let x op.Sll (Var x) (Const n))
